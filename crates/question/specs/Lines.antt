-- The lines that the question program reads and writes, as document 01 has them.
use Rattle.std.specs.Prelude.{Option as Maybe, Some, None, ℕ, Bool, true, false, ◌&&◌, List, [], ◌∷◌, ◌++◌, eqb, length, get_or}
use Rattle.std.proofs.Math.Option.{Option, none, some}
use Rattle.definition.specs.Answers.{Response}
use Rattle.definition.specs.Line.{columns, field_at}
use Rattle.definition.specs.Answers.{refusal_number, response_answer, response_refusal}
use Rattle.question.specs.declared.Question.{Question}
use Rattle.question.specs.declared.Ending.{Ending}
use Rattle.question.specs.declared.Ending.TheVariants.{Book, QuestionLine, TooManyGoals}

-- ---- a question line: goal and depth, three columns each, written as a book's fields, and a newline; 7 bytes
abbrev pub question_of : Bool → Option ℕ → Option ℕ → Maybe Question
question_of true (some goal) (some depth) = Some (record { goal = goal; depth = depth })
question_of true (some goal) none = None
question_of true none depth = None
question_of false goal depth = None

abbrev pub read_question : List ℕ → Maybe Question
read_question s = question_of (eqb (length s) 7 && eqb (get_or s 6 0) 10) (field_at s 0) (field_at s 3)

-- ---- an output line: goal, depth, answer and refusal, three columns each, and a newline; 13 bytes
abbrev pub output_line : ℕ → ℕ → ℕ → ℕ → List ℕ
output_line goal depth answer refusal = columns goal ++ columns depth ++ columns answer ++ columns refusal ++ 10 ∷ []

-- the line for a question that was asked
abbrev pub reply_line : ℕ → ℕ → Response → List ℕ
reply_line goal depth r = output_line goal depth (response_answer r) (response_refusal r)

-- at 1 to 4, 12 or 13 the program prints zeros with that number and ends
abbrev pub ending_number : Ending → ℕ
ending_number (Book r) = refusal_number r
ending_number QuestionLine = 12
ending_number TooManyGoals = 13

abbrev pub ending_line : Ending → List ℕ
ending_line e = output_line 0 0 0 (ending_number e)
