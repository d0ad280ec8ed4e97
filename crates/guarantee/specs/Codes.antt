-- A verdict in numbers.
use Rattle.std.specs.Prelude.{List, [], ◌∷◌, ℕ, ◌*◌}
use Rattle.definition.specs.Answers.{refusal_number}
use Rattle.guarantee.specs.declared.Verdict.{Verdict}
use Rattle.guarantee.specs.declared.Verdict.TheVariants.{Refused, Given, Broken}

-- 256 * refusal
abbrev pub verdict_code : Verdict → ℕ
verdict_code (Refused r) = 256 * refusal_number r
verdict_code Given = 0
verdict_code (Broken c) = 0

-- the line of the inductive step, that of the coinductive one, and the group; zeros where nothing is broken
abbrev pub verdict_numbers : Verdict → List ℕ
verdict_numbers (Refused r) = 0 ∷ 0 ∷ 0 ∷ []
verdict_numbers Given = 0 ∷ 0 ∷ 0 ∷ []
verdict_numbers (Broken c) = c.inductive ∷ c.coinductive ∷ c.group ∷ []
