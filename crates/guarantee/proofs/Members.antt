-- One of a book's steps.
use mathlib.Core.Path.{refl, sym, subst}
use mathlib.Core.Bool.{Bool}
use mathlib.Core.Logic.{inl, inr}
use mathlib.Core.List.{List, [], ◌∷◌}
use Prim.Native.Nat.{ℕ}
use lib.Dec.{T}
use Rattle.definition.specs.declared.paths.PathKind.{PathKind}
use Rattle.soundness.specs.Groups.{StepLine, EveryStep, SomeStep}
use Rattle.soundness.proofs.Logic.{or_cases, or_left, or_right}
use Rattle.guarantee.specs.Meaning.{IsOneOf}
use Rattle.guarantee.proofs.Lines.{some_step}

pub some_step_lem : (wanted : ℕ → ℕ → PathKind → Bool) (s : StepLine) (ss : List StepLine) → IsOneOf s ss
    → T (wanted s.caller s.goal s.kind) → T (some_step wanted ss)
some_step_lem wanted s [] i t = absurd i
some_step_lem wanted s (x ∷ ss) (inl e) t =
    or_left (wanted x.caller x.goal x.kind) (some_step wanted ss)
    (subst (λ (y : StepLine). T (wanted y.caller y.goal y.kind)) e t)
some_step_lem wanted s (x ∷ ss) (inr i) t =
    or_right (wanted x.caller x.goal x.kind) (some_step wanted ss) (some_step_lem wanted s ss i t)

pub a_step : (wanted : ℕ → ℕ → PathKind → Bool) (ss : List StepLine) → T (some_step wanted ss)
    → (s : StepLine) × IsOneOf s ss × T (wanted s.caller s.goal s.kind)
a_step wanted [] t = absurd t
a_step wanted (x ∷ ss) t =
    or_cases (wanted x.caller x.goal x.kind) (some_step wanted ss) (λ u. (x, inl refl, u))
    (λ u. let r = a_step wanted ss u in (r.0, inr r.1, r.2)) t

pub every_at : (P : StepLine → Type 0) (s : StepLine) (ss : List StepLine) → EveryStep P ss → IsOneOf s ss → P s
every_at P s [] v i = absurd i
every_at P s (x ∷ ss) v (inl e) = subst P (sym e) v.0
every_at P s (x ∷ ss) v (inr i) = every_at P s ss v.1 i

pub some_at : (P : StepLine → Type 0) (ss : List StepLine) → SomeStep P ss → (s : StepLine) × IsOneOf s ss × P s
some_at P [] i = absurd i
some_at P (x ∷ ss) (inl p) = (x, inl refl, p)
some_at P (x ∷ ss) (inr i) = let r = some_at P ss i in (r.0, inr r.1, r.2)
