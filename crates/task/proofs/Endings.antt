-- Which ending applies.
use mathlib.Core.Path.{◌≡◌, refl, sym, ap, ◌∙◌}
use mathlib.Core.Bool.{Bool, true, false}
use mathlib.Core.Option.{Option, none, some}
use Prim.Native.Nat.{ℕ, suc, ◌-◌}
use Rattle.std.specs.Prelude.{Option as Maybe, Some, None}
use native.Mathlib.Omega.{arith}
use Rattle.definition.specs.declared.paths.PathKind.{PathKind}
use Rattle.definition.specs.declared.usages.HeadUsages.{HeadUsages}
use Rattle.definition.specs.declared.answers.Answer.{Answer}
use Rattle.definition.specs.declared.endings.Fixpoint.{Fixpoint}
use Rattle.definition.specs.declared.endings.Fixpoint.TheVariants.{First, Later}
use Rattle.definition.specs.declared.endings.Ending.{Ending}
use Rattle.definition.specs.declared.endings.Ending.TheVariants as ending
use Rattle.definition.specs.Usages.{is_empty, is_single}
use Rattle.definition.specs.Answers.{same_answer, is_ambiguous, initial_kind}
use Rattle.definition.specs.Options.{maybe_of}
use Rattle.definition.specs.Stack.{Frame}
use Rattle.definition.specs.Parent.{or_no_usages}
use Rattle.definition.specs.Endings.{reached_fixpoint, run_again, without_fixpoint, ending_of_head, ending_of}
use Rattle.stack.specs.Results.{is_some}

-- ---- `reached_fixpoint`
abbrev later : Bool → Option Fixpoint
later t = elim t [ true ↦ some Later | false ↦ none ]

abbrev first : Bool → PathKind → Option Fixpoint
first t k = elim t [ true ↦ some (First k) | false ↦ none ]

module _ (p : Maybe Answer) (usages : HeadUsages) (answer : Answer) (b : Bool) where
  later_is : (before : Answer) → p ≡ Some before → b ≡ same_answer before answer
      → later b ≡ reached_fixpoint (maybe_of p) usages answer
  later_is before is e = ap later e ∙ sym (ap (λ (q : Maybe Answer). reached_fixpoint (maybe_of q) usages answer) is)

  pub later_reached : (before : Answer) → p ≡ Some before → b ≡ same_answer before answer → b ≡ true
      → some Later ≡ reached_fixpoint (maybe_of p) usages answer
  later_reached before is e taken = sym (ap later taken) ∙ later_is before is e

  pub later_missed : (before : Answer) → p ≡ Some before → b ≡ same_answer before answer → b ≡ false
      → none ≡ reached_fixpoint (maybe_of p) usages answer
  later_missed before is e left = sym (ap later left) ∙ later_is before is e

  first_is : (kind : PathKind) → p ≡ None → kind ≡ initial_kind answer → b ≡ is_single usages kind
      → first b kind ≡ reached_fixpoint (maybe_of p) usages answer
  first_is kind is k e =
      ap (λ (t : Bool). first t kind) e ∙ ap (λ (x : PathKind). first (is_single usages x) x) k
      ∙ sym (ap (λ (q : Maybe Answer). reached_fixpoint (maybe_of q) usages answer) is)

  pub first_reached : (kind : PathKind) → p ≡ None → kind ≡ initial_kind answer → b ≡ is_single usages kind
      → b ≡ true → some (First kind) ≡ reached_fixpoint (maybe_of p) usages answer
  first_reached kind is k e taken = sym (ap (λ (t : Bool). first t kind) taken) ∙ first_is kind is k e

  pub first_missed : (kind : PathKind) → p ≡ None → kind ≡ initial_kind answer → b ≡ is_single usages kind
      → b ≡ false → none ≡ reached_fixpoint (maybe_of p) usages answer
  first_missed kind is k e left = sym (ap (λ (t : Bool). first t kind) left) ∙ first_is kind is k e

-- ---- `run_again`
pub again_none : (left : ℕ) → left ≡ 0 → ending.Overflow ≡ run_again left
again_none left is = sym (ap run_again is)

pub again_some : (left : ℕ) → (left ≡ 0 → ⊥) → ending.Rerun ≡ run_again left
again_some left pos = let e : suc (left - 1) ≡ left = omega arith in ap run_again e

-- ---- `without_fixpoint`
module _ (left : ℕ) (usages : HeadUsages) (answer : Answer) (b : Bool) (e : b ≡ is_empty usages) where
  abbrev chosen : Bool → Bool → Ending
  chosen s t =
      elim s [
        | true ↦ ending.NoUsages
        | false ↦ elim t [ true ↦ ending.Ambiguity answer | false ↦ run_again left ]
      ]

  pub without_usages : b ≡ true → ending.NoUsages ≡ without_fixpoint left usages answer
  without_usages taken = sym (ap (λ (s : Bool). chosen s (is_ambiguous answer)) (sym e ∙ taken))

  module _ (used : b ≡ false) (a : Bool) (f : a ≡ is_ambiguous answer) where
    chosen_is : chosen false a ≡ without_fixpoint left usages answer
    chosen_is = ap (chosen false) f ∙ sym (ap (λ (s : Bool). chosen s (is_ambiguous answer)) (sym e ∙ used))

    pub without_ambiguous : a ≡ true → ending.Ambiguity answer ≡ without_fixpoint left usages answer
    without_ambiguous taken = sym (ap (chosen false) taken) ∙ chosen_is

    pub without_rerun : a ≡ false → (r : Ending) → r ≡ run_again left → r ≡ without_fixpoint left usages answer
    without_rerun clear r is = is ∙ sym (ap (chosen false) clear) ∙ chosen_is

-- ---- `ending_of_head`
module _ (left : ℕ) (p : Maybe Answer) (usages : HeadUsages) (answer : Answer) (r : Maybe Fixpoint)
    (e : maybe_of r ≡ reached_fixpoint (maybe_of p) usages answer) where
  abbrev through : Option Fixpoint → Ending
  through o = elim o [ some fixpoint ↦ ending.Fixpoint fixpoint | none ↦ without_fixpoint left usages answer ]

  pub head_reached : (fixpoint : Fixpoint) → r ≡ Some fixpoint
      → ending.Fixpoint fixpoint ≡ ending_of_head left (maybe_of p) usages answer
  head_reached fixpoint is = ap through (sym (ap maybe_of is) ∙ e)

  pub head_missed : r ≡ None → (x : Ending) → x ≡ without_fixpoint left usages answer
      → x ≡ ending_of_head left (maybe_of p) usages answer
  head_missed is x h = h ∙ ap through (sym (ap maybe_of is) ∙ e)

-- ---- `ending_of`
module _ (left : ℕ) (p : Option Answer) (answer : Answer) where
  abbrev of_usages : Option HeadUsages → Ending
  of_usages u = elim u [ none ↦ ending.Nothing | some v ↦ ending_of_head left p v answer ]

  no_usages_lem : (u : Option HeadUsages) → is_some u ≡ false → ending.Nothing ≡ of_usages u
  no_usages_lem none e = refl
  no_usages_lem (some v) e = cc

  with_usages_lem : (u : Option HeadUsages) → is_some u ≡ true → ending_of_head left p (or_no_usages u) answer ≡ of_usages u
  with_usages_lem none e = cc
  with_usages_lem (some v) e = refl

module _ (left : ℕ) (f : Frame) (answer : Answer) (b : Bool) (e : b ≡ is_some f.usages) where
  pub ending_nothing : b ≡ false → ending.Nothing ≡ ending_of left f answer
  ending_nothing off = no_usages_lem left f.provisional_result answer f.usages (sym e ∙ off)

  pub ending_head : b ≡ true → (p : Maybe Answer) → maybe_of p ≡ f.provisional_result → (u : HeadUsages)
      → u ≡ or_no_usages f.usages
      → ending_of_head left (maybe_of p) u answer ≡ ending_of left f answer
  ending_head taken p is-p u is-u =
      (λ t. ending_of_head left (is-p t) (is-u t) answer)
      ∙ with_usages_lem left f.provisional_result answer f.usages (sym e ∙ taken)
