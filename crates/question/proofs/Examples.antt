-- Document 01's lines, read and written; 32 is a space, 48 is the digit 0, 10 a newline.
use mathlib.Core.Path.{◌≡◌, refl}
use mathlib.Core.List.{[], ◌∷◌}
use Rattle.std.specs.Prelude.{Some, None}
use Rattle.definition.specs.declared.answers.Answer.TheVariants.{No}
use Rattle.definition.specs.declared.replies.Refusal.TheVariants.{BookLength, ProvisionalCacheFull}
use Rattle.std.specs.Prelude.{Ok, Err}
use Rattle.question.specs.declared.Ending.TheVariants.{Book, QuestionLine, TooManyGoals}
use Rattle.question.specs.Lines.{read_question, reply_line, ending_line}

-- ---- read

-- "  0  1"
pub goal_0_depth_1 : read_question (32 ∷ 32 ∷ 48 ∷ 32 ∷ 32 ∷ 49 ∷ 10 ∷ []) ≡ Some (record { goal = 0; depth = 1 })
goal_0_depth_1 = refl

-- "120 63"
pub goal_120_depth_63 : read_question (49 ∷ 50 ∷ 48 ∷ 32 ∷ 54 ∷ 51 ∷ 10 ∷ []) ≡ Some (record { goal = 120; depth = 63 })
goal_120_depth_63 = refl

-- "  0  1" with no newline after it
pub incomplete : read_question (32 ∷ 32 ∷ 48 ∷ 32 ∷ 32 ∷ 49 ∷ []) ≡ None
incomplete = refl

-- "  0 01"
pub leading_zero : read_question (32 ∷ 32 ∷ 48 ∷ 32 ∷ 48 ∷ 49 ∷ 10 ∷ []) ≡ None
leading_zero = refl

-- "  0  1 " before the newline
pub too_long : read_question (32 ∷ 32 ∷ 48 ∷ 32 ∷ 32 ∷ 49 ∷ 32 ∷ 10 ∷ []) ≡ None
too_long = refl

-- ---- written

-- "  0  1  0  0"
pub answered_no : reply_line 0 1 (Ok No) ≡ 32 ∷ 32 ∷ 48 ∷ 32 ∷ 32 ∷ 49 ∷ 32 ∷ 32 ∷ 48 ∷ 32 ∷ 32 ∷ 48 ∷ 10 ∷ []
answered_no = refl

-- "  0  2  0 10"
pub refused_10 : reply_line 0 2 (Err ProvisionalCacheFull) ≡ 32 ∷ 32 ∷ 48 ∷ 32 ∷ 32 ∷ 50 ∷ 32 ∷ 32 ∷ 48 ∷ 32 ∷ 49 ∷ 48 ∷ 10 ∷ []
refused_10 = refl

-- "  0  0  0  1", "  0  0  0 12" and "  0  0  0 13"
pub ended_1 : ending_line (Book BookLength) ≡ 32 ∷ 32 ∷ 48 ∷ 32 ∷ 32 ∷ 48 ∷ 32 ∷ 32 ∷ 48 ∷ 32 ∷ 32 ∷ 49 ∷ 10 ∷ []
ended_1 = refl

pub ended_12 : ending_line QuestionLine ≡ 32 ∷ 32 ∷ 48 ∷ 32 ∷ 32 ∷ 48 ∷ 32 ∷ 32 ∷ 48 ∷ 32 ∷ 49 ∷ 50 ∷ 10 ∷ []
ended_12 = refl

pub ended_13 : ending_line TooManyGoals ≡ 32 ∷ 32 ∷ 48 ∷ 32 ∷ 32 ∷ 48 ∷ 32 ∷ 32 ∷ 48 ∷ 32 ∷ 49 ∷ 51 ∷ 10 ∷ []
ended_13 = refl
