-- What the reads of a frame's bytes give.
use mathlib.Core.Path.{◌≡◌, refl, sym, ap, ◌∙◌}
use mathlib.Core.Bool.{Bool, true, false, not}
use mir.Val.{bool_byte}
use mathlib.Core.Option.{Option, none, some}
use mathlib.Core.List.{◌∷◌}
use Prim.Native.Nat.{ℕ, zero, suc, ◌-◌, ◌/◌, ◌<◌}
use native.Mathlib.Nat.{div-le_self}
use native.Mathlib.Omega.{arith}
use borrow.Author.Tests.{eq-eqb, ne_eqb}
use lib.Dec.{eqb}
use Rattle.definition.specs.declared.usages.HeadUsages.{HeadUsages}
use Rattle.definition.specs.declared.answers.Answer.{Answer}
use Rattle.definition.specs.declared.format.Header.{Header}
use Rattle.definition.specs.Answers.{answer_of}
use Rattle.definition.specs.Usages.{no_usages}
use Rattle.definition.specs.Stack.{Frame, Stack}
use Rattle.definition.specs.Parent.{or_no_usages}
use Rattle.definition.specs.Lookup.{allowed_depth_for_nested}
use Rattle.layout.specs.Frame.{truth, result_of, when_set}
use Rattle.stack.specs.Results.{is_some}
use Rattle.std.specs.Prelude.{Some, None}

-- ---- a byte that says whether something is there
pub test_truth : (n : ℕ) → not (eqb n 0) ≡ truth n
test_truth zero = refl
test_truth (suc n) = ap not (ne_eqb (suc n) 0 (λ e. omega arith))

pub truth_byte : (b : Bool) → truth (bool_byte b) ≡ b
truth_byte true = refl
truth_byte false = refl

pub test_some : {A : Type 0} (n : ℕ) (x : A) → not (eqb n 0) ≡ is_some (when_set n x)
test_some zero x = refl
test_some (suc n) x = ap not (ne_eqb (suc n) 0 (λ e. omega arith))

pub usages_absent : (n : ℕ) (u r : HeadUsages) → n ≡ 0 → r ≡ no_usages → r ≡ or_no_usages (when_set n u)
usages_absent n u r e is = is ∙ sym (ap (λ (k : ℕ). or_no_usages (when_set k u)) e)

pub usages_present : (n : ℕ) (u r : HeadUsages) → (n ≡ 0 → ⊥) → r ≡ u → r ≡ or_no_usages (when_set n u)
usages_present zero u r ne is = absurd (ne refl)
usages_present (suc n) u r ne is = is

pub result_absent : (n : ℕ) → n ≡ 0 → none ≡ result_of n
result_absent n e = sym (ap result_of e)

pub result_present : (n : ℕ) (a : Answer) → (n ≡ 0 → ⊥) → a ≡ answer_of (n - 1) → some a ≡ result_of n
result_present zero a ne is = absurd (ne refl)
result_present (suc n) a ne is = let e : suc n - 1 ≡ n = omega arith in ap some (is ∙ ap answer_of e)

-- ---- the depth for a nested goal
pub allowed_small : (x d : ℕ) → x < 256 → Some x ≡ Some d → d < 256
allowed_small x d h e = let f : x ≡ d = cc in omega arith

pub overflow_small : (d : ℕ) → None ≡ Some d → d < 256
overflow_small d e = let z : ◌≡◌ {A = ℕ} 0 1 = cc in absurd (omega arith)

pub divided_small : (x divisor : ℕ) → x < 256 → x / divisor < 256
divided_small x divisor h = omega (arith, div-le_self x divisor)

pub less_small : (x : ℕ) → x < 256 → x - 1 < 256
less_small x h = omega arith

abbrev lowered : ℕ → ℕ → Bool → Bool → Option ℕ
lowered d divisor t o = elim t [ true ↦ none | false ↦ elim o [ true ↦ some (d / divisor) | false ↦ some (d - 1) ] ]

-- in a frame f with the depth d
module _ (f : Frame) (lower : Bool) (divisor d : ℕ) (is : d ≡ f.available_depth) (h : Header) (root : ℕ) (fs : Stack) (by : h.divisor ≡ divisor) where
  pub depth_kept : lower ≡ false → some d ≡ allowed_depth_for_nested h root (f ∷ fs) lower
  depth_kept low = ap some is ∙ sym (ap (allowed_depth_for_nested h root (f ∷ fs)) low)

  opened : lower ≡ true → lowered d divisor (eqb d 0) f.encountered_overflow ≡ allowed_depth_for_nested h root (f ∷ fs) lower
  opened low =
      (λ t. lowered (is t) (sym by t) (eqb (is t) 0) f.encountered_overflow)
      ∙ sym (ap (allowed_depth_for_nested h root (f ∷ fs)) low)

  pub depth_none : lower ≡ true → d ≡ 0 → none ≡ allowed_depth_for_nested h root (f ∷ fs) lower
  depth_none low z = sym (ap (λ (t : Bool). lowered d divisor t f.encountered_overflow) (eq-eqb d 0 z)) ∙ opened low

  left : lower ≡ true → (d ≡ 0 → ⊥) → lowered d divisor false f.encountered_overflow ≡ allowed_depth_for_nested h root (f ∷ fs) lower
  left low nz = sym (ap (λ (t : Bool). lowered d divisor t f.encountered_overflow) (ne_eqb d 0 nz)) ∙ opened low

  pub depth_divided : lower ≡ true → (d ≡ 0 → ⊥) → f.encountered_overflow ≡ true → some (d / divisor) ≡ allowed_depth_for_nested h root (f ∷ fs) lower
  depth_divided low nz o = sym (ap (lowered d divisor false) o) ∙ left low nz

  pub depth_less : lower ≡ true → (d ≡ 0 → ⊥) → f.encountered_overflow ≡ false → some (d - 1) ≡ allowed_depth_for_nested h root (f ∷ fs) lower
  depth_less low nz o = sym (ap (lowered d divisor false) o) ∙ left low nz
