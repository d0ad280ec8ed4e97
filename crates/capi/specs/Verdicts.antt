-- The verdict on a book, as C has it.
use Rattle.std.specs.Prelude.{◌≡◌, List, [], ◌∷◌, ℕ}
use Rattle.guarantee.specs.declared.Verdict.{Verdict}
use Rattle.guarantee.specs.Codes.{verdict_code, verdict_numbers}

-- numbers over the first ones of `out`, as many as there are; the others stay
abbrev pub over : List ℕ → List ℕ → List ℕ
over [] out = out
over (n ∷ ns) [] = []
over (n ∷ ns) (x ∷ out) = n ∷ over ns out

-- 256 * refusal, and in `out` the two lines and the group
pub record Judged (code : ℕ) (after before : List ℕ) (verdict : Verdict) : Type 0 where
  pub code_is : code ≡ verdict_code verdict
  pub out_is : after ≡ over (verdict_numbers verdict) before
