-- A goal is found on the stack by its place.
use mathlib.Core.Path.{◌≡◌, refl, sym, ap, ◌∙◌, subst}
use mathlib.Core.Bool.{Bool, true, false}
use mathlib.Core.Option.{Option, none, some}
use mathlib.Core.List.{List, [], ◌∷◌}
use Prim.Native.Nat.{ℕ, zero, suc, ◌<◌}
use native.Mathlib.Omega.{arith}
use native.Mathlib.Decide.{ℕ_discrete}
use borrow.Author.Tests.{eq-eqb, ne_eqb}
use lib.ListN.{length, get_or, set, length-set}
use lib.Seq.{get_or-set_same, get_or-set_other}
use lib.Dec.{eqb}
use Rattle.definition.specs.Stack.{Frame, Stack, OnStack, stack_find}
use Rattle.definition.proofs.Skeleton.{skeleton}
use Rattle.layout.specs.Work.{stack_of}
use Rattle.layout.proofs.Graphs.{length_stack, stack_unfold}
use Rattle.std.specs.Prelude.{Some, None}
use Rattle.stack.specs.declared.OnStack as code
use Rattle.stack.specs.Bytes.{frame_at}
use Rattle.stack.specs.Places.{Placed, PlacesHeld}
use Rattle.stack.proofs.Loops.{empty}

-- ---- `find`: i is the goal's place
module _ (goals : ℕ) (bs places : List ℕ) (goal i : ℕ) (is : i ≡ get_or places goal 0) where
  -- what is found at frame n
  abbrev found_at : ℕ → Option OnStack
  found_at n = some (record { index = n; provisional_result = (frame_at goals n bs).provisional_result })

  abbrev choice : ℕ → Bool → Option OnStack
  choice n t =
      elim t [
        | true ↦ some (record {
          index = length (stack_of goals n bs);
          provisional_result = (frame_at goals n bs).provisional_result;
        })
        | false ↦ stack_find (stack_of goals n bs) goal
      ]

  find_open : (n : ℕ) → stack_find (stack_of goals (suc n) bs) goal ≡ choice n (eqb (frame_at goals n bs).input goal)
  find_open n = ap (λ (s : Stack). stack_find s goal) (stack_unfold goals n bs)

  find_here : (n : ℕ) → (frame_at goals n bs).input ≡ goal → stack_find (stack_of goals (suc n) bs) goal ≡ found_at n
  find_here n e =
      find_open n ∙ ap (choice n) (eq-eqb (frame_at goals n bs).input goal e)
      ∙ ap (λ (k : ℕ). some (record { index = k; provisional_result = (frame_at goals n bs).provisional_result }))
      (length_stack goals n bs)

  find_next : (n : ℕ) → ((frame_at goals n bs).input ≡ goal → ⊥)
      → stack_find (stack_of goals (suc n) bs) goal ≡ stack_find (stack_of goals n bs) goal
  find_next n ne = find_open n ∙ ap (choice n) (ne_eqb (frame_at goals n bs).input goal ne)

  -- the frame on top has the goal at the goal's place alone
  top_placed : (n : ℕ) → Placed (stack_of goals (suc n) bs) places
      → ((frame_at goals n bs).input ≡ goal → i ≡ n) × Placed (stack_of goals n bs) places
  top_placed n p =
      let q = subst (λ (s : Stack). Placed s places) (stack_unfold goals n bs) p in
      (λ e. is ∙ ap (λ (k : ℕ). get_or places k 0) (sym e) ∙ q.0 ∙ length_stack goals n bs, q.1)

  -- its place is above the stack, or another goal's
  pub found_nowhere : (n : ℕ) → Placed (stack_of goals n bs) places → (i < n → (frame_at goals i bs).input ≡ goal → ⊥)
      → stack_find (stack_of goals n bs) goal ≡ none
  found_nowhere zero p ne = ap (λ (s : Stack). stack_find s goal) (empty goals bs)
  found_nowhere (suc n) p ne =
      let q = top_placed n p in
      find_next n (λ e. ne (let at = q.0 e in omega arith) (ap (λ (k : ℕ). (frame_at goals k bs).input) (q.0 e) ∙ e))
      ∙ found_nowhere n q.1 (λ lt. ne (omega arith))

  pub found_at_lem : (n : ℕ) → Placed (stack_of goals n bs) places → i < n → (frame_at goals i bs).input ≡ goal
      → stack_find (stack_of goals n bs) goal ≡ found_at i
  found_at_lem zero p lt e = absurd (omega arith)
  found_at_lem (suc n) p lt e =
      let q = top_placed n p in
      elim (ℕ_discrete i n) [
        | yes at ↦ find_here n (sym (ap (λ (k : ℕ). (frame_at goals k bs).input) at) ∙ e) ∙ ap found_at (sym at)
        | no ne ↦ find_next n (λ x. ne (q.0 x)) ∙ found_at_lem n q.1 (omega arith) e
      ]

pub at_below : (o p : code.OnStack) (height : ℕ) → o.index < height → Some o ≡ Some p → p.index < height
at_below o p height lt e = let f : o ≡ p = cc in subst (λ (x : code.OnStack). x.index < height) f lt

pub nowhere_below : (o : code.OnStack) (height : ℕ) → None ≡ Some o → o.index < height
nowhere_below o height e = let z : ◌≡◌ {A = ℕ} 0 1 = cc in absurd (omega arith)

-- ---- a new frame: the goal's place becomes its index
off_top : (f : Frame) (s : Stack) (goal : ℕ) → stack_find (f ∷ s) goal ≡ none
    → (f.input ≡ goal → ⊥) × (stack_find s goal ≡ none)
off_top f s goal off = (apart, sym (ap choose (ne_eqb f.input goal apart)) ∙ off)
  where
    choose : Bool → Option OnStack
    choose t =
        elim t [
          | true ↦ some (record { index = length s; provisional_result = f.provisional_result })
          | false ↦ stack_find s goal
        ]

    apart : f.input ≡ goal → ⊥
    apart e =
        let hit = sym (ap choose (eq-eqb f.input goal e)) ∙ off in
        let z : ◌≡◌ {A = ℕ} 0 1 = cc in absurd (omega arith)

placed_off : (s : Stack) (places : List ℕ) (goal n : ℕ) → stack_find s goal ≡ none → Placed s places
    → Placed s (set places goal n)
placed_off [] places goal n off p = tt
placed_off (f ∷ fs) places goal n off p =
    let o = off_top f fs goal off in
    (get_or-set_other places goal f.input n 0 o.0 ∙ p.0, placed_off fs places goal n o.1 p.1)

pub places_pushed : (f : Frame) (s : Stack) (places : List ℕ) → stack_find s f.input ≡ none → f.input < 64
    → PlacesHeld s places → PlacesHeld (f ∷ s) (set places f.input (length s))
places_pushed f s places off lt p =
    let long = p.long in
    record {
      long = length-set places f.input (length s) ∙ p.long;
      placed = (
        get_or-set_same places f.input (length s) 0 (omega arith),
        placed_off s places f.input (length s) off p.placed,
      );
    }

pub places_popped : (f : Frame) (s : Stack) (places : List ℕ) → PlacesHeld (f ∷ s) places → PlacesHeld s places
places_popped f s places p = record { long = p.long; placed = p.placed.1 }

-- ---- the goals of a stack are those of its skeleton
same_length : (s : Stack) → length (skeleton s) ≡ length s
same_length [] = refl
same_length (f ∷ fs) = ap suc (same_length fs)

placed_skeleton : (s : Stack) (places : List ℕ) → Placed s places → Placed (skeleton s) places
placed_skeleton [] places p = tt
placed_skeleton (f ∷ fs) places p = (p.0 ∙ sym (same_length fs), placed_skeleton fs places p.1)

skeleton_placed : (s : Stack) (places : List ℕ) → Placed (skeleton s) places → Placed s places
skeleton_placed [] places p = tt
skeleton_placed (f ∷ fs) places p = (p.0 ∙ same_length fs, skeleton_placed fs places p.1)

-- so they are at their places in every stack with that skeleton
pub same_places : (old new : Stack) (places : List ℕ) → skeleton new ≡ skeleton old → PlacesHeld old places
    → PlacesHeld new places
same_places old new places e p =
    record {
      long = p.long;
      placed = skeleton_placed new places
          (subst (λ (s : Stack). Placed s places) (sym e) (placed_skeleton old places p.placed));
    }
