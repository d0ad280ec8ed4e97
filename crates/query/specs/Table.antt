-- Demand 1, of what a query comes to: an answer, or a refusal of document 01's table.
use Rattle.std.specs.Prelude.{◌≡◌, ◌⊎◌, ℕ, ◌*◌, ◌≤◌}
use Rattle.definition.specs.Answers.{Response}
use Rattle.std.specs.Prelude.{Ok, Err}
use Rattle.definition.specs.Answers.{answer_number, refusal_number}

-- the numbers of the answers
abbrev pub IsAnswer : ℕ → Type 0
IsAnswer n = n ≤ 3

-- the numbers of the refusals; 0 says that there is none
abbrev pub IsRefusal : ℕ → Type 0
IsRefusal n = (1 ≤ n) × (n ≤ 11)

abbrev pub OfTable : Response → Type 0
OfTable (Ok a) = IsAnswer (answer_number a)
OfTable (Err r) = IsRefusal (refusal_number r)

-- answer + 256 * refusal: an answer and no refusal, or a refusal with answer 0
abbrev pub CodeOfTable : ℕ → Type 0
CodeOfTable code = IsAnswer code ⊎ ((refusal : ℕ) × IsRefusal refusal × (code ≡ 256 * refusal))
