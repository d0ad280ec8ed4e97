-- The turns of the loops over the stack, from the top down.
use mathlib.Core.Path.{◌≡◌, refl, sym, ap, ◌∙◌}
use mathlib.Core.Bool.{Bool, true, false, not, ◌||◌}
use mathlib.Core.Option.{some}
use mathlib.Core.List.{List, [], ◌∷◌}
use Prim.Native.Nat.{ℕ, suc, ◌+◌, ◌-◌, ◌≤◌, ◌<◌}
use native.Mathlib.Numerals.{add-one}
use native.Mathlib.Omega.{arith}
use borrow.Author.Tests.{eq-eqb, ne_eqb}
use lib.ListN.{get_or}
use lib.Dec.{eqb}
use Rattle.definition.specs.declared.format.Header.{Header}
use Rattle.definition.specs.Nested.{NestedGoals}
use Rattle.definition.specs.Stack.{Frame, Stack}
use Rattle.definition.specs.Lookup.{allowed_depth_for_nested, any_on_stack}
use Rattle.definition.proofs.Lists.{first_same, rest_same}
use Rattle.layout.specs.Frame.{frame_of}
use Rattle.layout.specs.Work.{stack_of}
use Rattle.layout.proofs.Graphs.{stack_unfold}
use Rattle.stack.specs.Bytes.{frame_bytes, frame_at}

-- the top of a stack that is not empty
pub top : (goals : ℕ) (bs : List ℕ) (i : ℕ) → 0 < i → stack_of goals i bs ≡ frame_at goals (i - 1) bs ∷ stack_of goals (i - 1) bs
top goals bs i pos =
    let e : i ≡ suc (i - 1) = omega arith in
    ap (λ (k : ℕ). stack_of goals k bs) e ∙ stack_unfold goals (i - 1) bs

pub stack_top : (goals i : ℕ) (bs : List ℕ) → stack_of goals (i + 1) bs ≡ frame_at goals i bs ∷ stack_of goals i bs
stack_top goals i bs = ap (λ (k : ℕ). stack_of goals k bs) (add-one i) ∙ stack_unfold goals i bs

-- the frame and the stack under it, where both are known
module _ (goals i : ℕ) (bs : List ℕ) {f : Frame} {fs : Stack} (is : stack_of goals (i + 1) bs ≡ f ∷ fs) where
  pub top_is : frame_at goals i bs ≡ f
  top_is = first_same (sym (stack_top goals i bs) ∙ is)

  pub under_is : stack_of goals i bs ≡ fs
  under_is = rest_same (sym (stack_top goals i bs) ∙ is)

pub empty : (goals : ℕ) (bs : List ℕ) → stack_of goals 0 bs ≡ []
unfolding stack_of
empty goals bs = refl

pub none_left : (goals : ℕ) (bs : List ℕ) (i : ℕ) → i ≤ 0 → stack_of goals i bs ≡ []
none_left goals bs i h = let e : i ≡ 0 = omega arith in ap (λ (k : ℕ). stack_of goals k bs) e ∙ empty goals bs

-- what is read of frame i's bytes
pub read_at : {A : Type 0} (read : Frame → A) (goals : ℕ) (bs : List ℕ) (i : ℕ) (r : List ℕ) → r ≡ frame_bytes goals i bs → read (frame_of goals r) ≡ read (frame_at goals i bs)
read_at read goals bs i r e = ap (λ (l : List ℕ). read (frame_of goals l)) e

-- ---- `any_on_stack`
module _ (goals : ℕ) (bs : List ℕ) (nested : NestedGoals) (i : ℕ) (whole : Bool) (rest : any_on_stack (stack_of goals i bs) nested ≡ whole) where
  any_open : 0 < i → (not (eqb (get_or nested (frame_at goals (i - 1) bs).input 0) 0) || any_on_stack (stack_of goals (i - 1) bs) nested) ≡ whole
  any_open pos = sym (ap (λ (s : Stack). any_on_stack s nested) (top goals bs i pos)) ∙ rest

  pub any_here : 0 < i → (v : ℕ) → v ≡ get_or nested (frame_at goals (i - 1) bs).input 0 → (v ≡ 0 → ⊥) → true ≡ whole
  any_here pos v is ne =
      sym (ap (λ (t : Bool). not t || any_on_stack (stack_of goals (i - 1) bs) nested) (ap (λ (x : ℕ). eqb x 0) (sym is) ∙ ne_eqb v 0 ne)) ∙ any_open pos

  pub any_next : 0 < i → (v : ℕ) → v ≡ get_or nested (frame_at goals (i - 1) bs).input 0 → v ≡ 0 → any_on_stack (stack_of goals (i - 1) bs) nested ≡ whole
  any_next pos v is e =
      sym (ap (λ (t : Bool). not t || any_on_stack (stack_of goals (i - 1) bs) nested) (ap (λ (x : ℕ). eqb x 0) (sym is) ∙ eq-eqb v 0 e)) ∙ any_open pos

  pub any_none : i ≤ 0 → false ≡ whole
  any_none h = sym (ap (λ (s : Stack). any_on_stack s nested) (none_left goals bs i h)) ∙ rest

-- ---- `allowed_depth_for_nested`
module _ (h : Header) (goals root height : ℕ) (bs : List ℕ) (lower : Bool) where
  pub depth_root : height ≡ 0 → some root ≡ allowed_depth_for_nested h root (stack_of goals height bs) lower
  depth_root z = sym (ap (λ (s : Stack). allowed_depth_for_nested h root s lower) (none_left goals bs height (omega arith)))

  pub depth_top : (r : List ℕ) → 0 < height → r ≡ frame_bytes goals (height - 1) bs
      → allowed_depth_for_nested h root (frame_of goals r ∷ stack_of goals (height - 1) bs) lower ≡ allowed_depth_for_nested h root (stack_of goals height bs) lower
  depth_top r pos e =
      ap (λ (l : List ℕ). allowed_depth_for_nested h root (frame_of goals l ∷ stack_of goals (height - 1) bs) lower) e
      ∙ sym (ap (λ (s : Stack). allowed_depth_for_nested h root s lower) (top goals bs height pos))
