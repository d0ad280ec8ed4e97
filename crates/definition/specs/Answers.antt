-- The answers and refusals with document 01's numbers, and what the delegate says of answers.
use Rattle.std.specs.Prelude.{ℕ, zero, suc, Bool, true, false, ◌||◌, eqb, leb}
use Rattle.definition.specs.declared.paths.PathKind.{PathKind}
use Rattle.definition.specs.declared.paths.PathKind.TheVariants.{Inductive, Unknown, Coinductive, ForcedAmbiguity}
use Rattle.definition.specs.declared.answers.Answer.{Answer}
use Rattle.definition.specs.declared.answers.Answer.TheVariants.{No, Yes, Undecided, Overflow}
use Rattle.definition.specs.declared.replies.Refusal.{Refusal}
use Rattle.definition.specs.declared.replies.Refusal.TheVariants.{BookLength, BookLine, BookHeader, BookBody, UnknownGoal, DepthAboveTop, CacheLength, CacheForm, WorkLength, ProvisionalCacheFull, CacheConflict, Unreachable}
use Rattle.std.specs.Prelude.{Result, Ok, Err}

abbrev pub answer_number : Answer → ℕ
answer_number No = 0
answer_number Yes = 1
answer_number Undecided = 2
answer_number Overflow = 3

abbrev pub answer_of : ℕ → Answer
answer_of zero = No
answer_of (suc zero) = Yes
answer_of (suc (suc zero)) = Undecided
answer_of (suc (suc (suc n))) = Overflow

abbrev pub same_answer : Answer → Answer → Bool
same_answer a b = eqb (answer_number a) (answer_number b)

-- what all, any and pick make of two answers that do not decide them: 2 where one of them is 2 (document 02, item 4),
-- else the one with the higher number. Proofs go by its laws (Combining.antt)
unfoldable pub combine : Answer → Answer → Answer
combine a b =
    elim (same_answer a Undecided || same_answer b Undecided) [
      | true ↦ Undecided
      | false ↦ elim (leb (answer_number a) (answer_number b)) [ true ↦ b | false ↦ a ]
    ]

abbrev pub initial_provisional_result : PathKind → Answer
initial_provisional_result Inductive = No
initial_provisional_result Unknown = Undecided
initial_provisional_result Coinductive = Yes
initial_provisional_result ForcedAmbiguity = Overflow

-- is_initial_provisional_result: the inverse; here every answer has a kind
abbrev pub initial_kind : Answer → PathKind
initial_kind No = Inductive
initial_kind Yes = Coinductive
initial_kind Undecided = Unknown
initial_kind Overflow = ForcedAmbiguity

-- is_ambiguous_result; an ambiguous answer is its own kind of ambiguity
abbrev pub is_ambiguous : Answer → Bool
is_ambiguous No = false
is_ambiguous Yes = false
is_ambiguous Undecided = true
is_ambiguous Overflow = true

abbrev pub refusal_number : Refusal → ℕ
refusal_number BookLength = 1
refusal_number BookLine = 2
refusal_number BookHeader = 3
refusal_number BookBody = 4
refusal_number UnknownGoal = 5
refusal_number DepthAboveTop = 6
refusal_number CacheLength = 7
refusal_number CacheForm = 8
refusal_number WorkLength = 9
refusal_number ProvisionalCacheFull = 10
refusal_number CacheConflict = 11
refusal_number Unreachable = 255

-- what a query comes to
abbrev pub Response : Type 0
Response = Result Answer Refusal

-- a refused query carries answer 0, which is then no verdict; refusal 0 says that it was accepted
abbrev pub response_answer : Response → ℕ
response_answer (Ok a) = answer_number a
response_answer (Err r) = 0

abbrev pub response_refusal : Response → ℕ
response_refusal (Ok a) = 0
response_refusal (Err r) = refusal_number r
