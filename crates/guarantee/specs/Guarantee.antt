-- Whether a book meets the condition of mixed books (soundness, specs/Groups.antt); if not, the group and two lines
-- that break it.
use Rattle.std.specs.Prelude.{Bool, true, false, ◌&&◌, List, [], ◌∷◌, ℕ, zero, suc, ◌+◌, ◌*◌}
use Rattle.std.proofs.Math.Option.{Option, none, some}
use Rattle.definition.specs.declared.paths.PathKind.{PathKind}
use Rattle.definition.specs.declared.paths.PathKind.TheVariants.{Inductive, Coinductive}
use Rattle.definition.specs.declared.format.Line.{Line}
use Rattle.definition.specs.Paths.{same_kind}
use Rattle.definition.specs.Part.{Book}
use Rattle.definition.specs.Reader.{BookRead, Accepted, Rejected, lines_of, read_book}
use Rattle.soundness.specs.Sets.{Goals}
use Rattle.soundness.specs.Groups.{StepLine, step_lines, linked}
use Rattle.guarantee.specs.declared.Conflict.{Conflict}
use Rattle.guarantee.specs.declared.Verdict.{Verdict}
use Rattle.guarantee.specs.declared.Verdict.TheVariants.{Refused, Given, Broken}

-- ---- steps

-- a step of a kind with both ends in a set of goals
abbrev pub step_within : Goals → PathKind → StepLine → Bool
step_within group kind s = same_kind s.kind kind && (group s.caller && group s.goal)

-- the first that is wanted
abbrev pub first_step : (StepLine → Bool) → List StepLine → Option StepLine
first_step wanted [] = none
first_step wanted (s ∷ ss) = elim (wanted s) [ true ↦ some s | false ↦ first_step wanted ss ]

-- ---- a set of goals as a number
abbrev pub bit : Bool → ℕ
bit true = 1
bit false = 0

-- bit k is set for every k below n in the set
abbrev pub mask_of : ℕ → Goals → ℕ
mask_of zero s = 0
mask_of (suc n) s = mask_of n (λ k. s (suc k)) * 2 + bit (s 0)

-- ---- conflicts

-- an inductive step and a coinductive one inside the group of its caller
abbrev pub conflict : Book → StepLine → StepLine → Conflict
conflict b s t =
    record {
      inductive = s.line;
      coinductive = t.line;
      group = mask_of b.header.goals (linked b s.caller);
    }

-- s stands inside the group of its caller: the first of the steps that breaks the condition with it
abbrev pub conflict_with : Book → List StepLine → StepLine → Option Conflict
conflict_with b ss s =
    elim (step_within (linked b s.caller) Inductive s) [
      | false ↦ none
      | true ↦
          elim (first_step (step_within (linked b s.caller) Coinductive) ss) [
            | none ↦ none
            | some t ↦ some (conflict b s t)
          ]
    ]

-- of the first s that has one, among all steps ss
abbrev pub first_conflict : Book → List StepLine → List StepLine → Verdict
first_conflict b ss [] = Given
first_conflict b ss (s ∷ rest) = elim (conflict_with b ss s) [ some c ↦ Broken c | none ↦ first_conflict b ss rest ]

-- ---- the book
abbrev pub steps_of : Option (List Line) → List StepLine
steps_of none = []
steps_of (some ls) = step_lines ls

abbrev pub guarantee_of_read : BookRead → List StepLine → Verdict
guarantee_of_read (Rejected r) ss = Refused r
guarantee_of_read (Accepted b) ss = first_conflict b ss ss

abbrev pub guarantee_of : List ℕ → Verdict
guarantee_of bytes = guarantee_of_read (read_book bytes) (steps_of (lines_of bytes))
