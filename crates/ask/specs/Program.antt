-- The question program, as document 01 has it: what it makes of its book and of each question line. Which bytes are read and
-- printed no contract can say.
use Rattle.std.specs.Prelude.{◌≡◌, Option, Some, None, Result, Ok, Err, Bool, true, false, List, ℕ, ◌≤◌, leb, length}
use Rattle.definition.specs.declared.format.Header.{Header}
use Rattle.definition.specs.Part as part
use Rattle.definition.specs.Reader as reader
use Rattle.definition.specs.CacheForm.{cache_length}
use Rattle.definition.specs.Query.{Reply, query, work_length}
use Rattle.question.specs.declared.Question.{Question}
use Rattle.question.specs.declared.Ending.{Ending}
use Rattle.question.specs.declared.Ending.TheVariants.{Book, QuestionLine, TooManyGoals}
use Rattle.question.specs.Lines.{read_question, reply_line, ending_line}
use Rattle.query.specs.Carried.{Carried}
use Rattle.query.specs.Passes.{passes_of}

-- ---- the book: 1 to 4 first, then 13, both before any question line is read
abbrev pub opened_with : Header → Result Header Ending
opened_with h = elim (leb h.goals 16) [ true ↦ Ok h | false ↦ Err TooManyGoals ]

abbrev pub opened : reader.BookRead → Result Header Ending
opened (reader.Accepted b) = opened_with b.header
opened (reader.Rejected r) = Err (Book r)

-- ---- a question line: what is printed, whether another line is read, and cache and workspace afterwards
pub record Turned : Type 0 where
  pub line : List ℕ
  pub more : Bool
  pub cache : List ℕ
  pub work : List ℕ

-- the line of a question, after which another is read, or the line that ends the program
abbrev pub turned : Result (List ℕ) Ending → List ℕ → List ℕ → Turned
turned (Ok line) cache work = record { line = line; more = true; cache = cache; work = work }
turned (Err e) cache work = record { line = ending_line e; more = false; cache = cache; work = work }

-- after a query the program goes on, refused or not
abbrev pub replied : ℕ → ℕ → Reply → Turned
replied goal depth r =
    record { line = reply_line goal depth r.response; more = true; cache = r.cache; work = r.work }

-- 12 ends it
abbrev pub turn_by : List ℕ → List ℕ → List ℕ → Option Question → Turned
turn_by book cache work (Some q) = replied q.goal q.depth (query book cache work q.goal q.depth)
turn_by book cache work None = record { line = ending_line QuestionLine; more = false; cache = cache; work = work }

abbrev pub turn : List ℕ → List ℕ → List ℕ → List ℕ → Turned
turn book cache work line = turn_by book cache work (read_question line)

-- document 02's number of passes for the answer, where it is asked for
abbrev pub passes_asked : List ℕ → List ℕ → Option Question → ℕ
passes_asked book cache (Some q) = passes_of book cache q.goal q.depth
passes_asked book cache None = 0

-- ---- cache and workspace have the right lengths for a book that was opened
pub record Lent (bytes cache work : List ℕ) : Type 0 where
  pub book : part.Book
  pub accepted : reader.read_book bytes ≡ reader.Accepted book
  pub few : book.header.goals ≤ 16
  pub cache_length_lem : length cache ≡ cache_length book.header
  pub work_length_lem : length work ≡ work_length book.header.goals

-- and before each question the cache is what earlier queries left, from zeros
pub record Ready (bytes cache work : List ℕ) : Type 0 where
  pub lent : Lent bytes cache work
  pub carried : Carried bytes cache
