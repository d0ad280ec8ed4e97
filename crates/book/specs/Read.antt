-- What reading a book comes to.
use Rattle.std.specs.Prelude.{◌≡◌, ℕ, ◌≤◌, ◌<◌, Bool, true, false, List, [], ◌∷◌, length, get_or, drop, Result, Ok, Err}
use Rattle.std.proofs.Math.Option.{Option, none, some}
use Rattle.definition.specs.declared.format.Line.{Line}
use Rattle.definition.specs.declared.format.Header.{Header}
use Rattle.definition.specs.declared.replies.Refusal.{Refusal}
use Rattle.definition.specs.Part.{Part, Book, part_at}
use Rattle.definition.specs.Reader.{TakenGoals}
use Rattle.definition.specs.Reader as reader
use Rattle.book.specs.Parts.{part_in, Reads}

-- the book's header, or the refusal
abbrev pub header_read : reader.BookRead → Result Header Refusal
header_read (reader.Accepted b) = Ok b.header
header_read (reader.Rejected r) = Err r

-- ---- the places of the goals' parts

-- the part of a goal starts at a place of the book
pub record GoalStarts (goals : ℕ) (parts : List Part) (book : List ℕ) (goal place : ℕ) : Type 0 where
  pub within : place ≤ length book
  pub reads : Reads goals false (drop place book)
  pub part : part_at parts goal ≡ some (part_in goals false (drop place book))

abbrev pub Started : ℕ → List Part → List ℕ → List ℕ → Type 0
Started goals parts book starts = (goal : ℕ) → goal < goals → GoalStarts goals parts book goal (get_or starts goal 0)

-- where the book is accepted
abbrev pub StartedIf : reader.BookRead → List ℕ → List ℕ → Type 0
StartedIf (reader.Accepted b) book starts = Started b.header.goals b.parts book starts
StartedIf (reader.Rejected r) book starts = Unit {0}

-- ---- the body

-- every goal has its part, and no line is left
abbrev pub no_line : List Line → Bool
no_line [] = true
no_line (l ∷ ls) = false

abbrev pub whole_body : Option TakenGoals → Bool
whole_body none = false
whole_body (some t) = no_line t.rest

abbrev pub StartedBy : Option TakenGoals → ℕ → List ℕ → List ℕ → Type 0
StartedBy none goals book starts = Unit {0}
StartedBy (some t) goals book starts = Started goals t.parts book starts

-- ---- a book that was accepted
abbrev pub book_or : reader.BookRead → Book
book_or (reader.Accepted b) = b
book_or (reader.Rejected r) =
    record { header = record { provisional = false; goals = 0; top = 0; limit = 0; divisor = 0 }; parts = [] }

-- the book that bytes say
unfoldable pub book_in : List ℕ → Book
book_in bytes = book_or (reader.read_book bytes)

-- they do say one
abbrev pub IsAccepted : List ℕ → Type 0
IsAccepted bytes = reader.read_book bytes ≡ reader.Accepted (book_in bytes)

pub record HeaderInRange (h : Header) : Type 0 where
  pub some_goals : 1 ≤ h.goals
  pub few_goals : h.goals ≤ 64
  pub top_fits : h.top ≤ 63
  pub limit_fits : h.limit ≤ 99
  pub divides : 1 ≤ h.divisor
  pub divisor_fits : h.divisor ≤ 99

-- bytes say a book with this header, and the places of its goals' parts are in `starts`
pub record IsBook (bytes starts : List ℕ) (h : Header) : Type 0 where
  pub accepted : IsAccepted bytes
  pub header : (book_in bytes).header ≡ h
  pub in_range : HeaderInRange h
  pub started : Started h.goals (book_in bytes).parts bytes starts
