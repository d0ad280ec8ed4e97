-- What the engine's functions come to, in bytes.
use Rattle.std.specs.Prelude.{◌≡◌, Bool, true, false, ◌&&◌, List, ◌∷◌, ◌++◌, ℕ, ◌-◌, ◌≤◌, eqb, length, take, drop}
use Rattle.std.proofs.Math.Option.{some}
use Rattle.definition.specs.declared.format.Line.{Line}
use Rattle.definition.specs.Line.{columns}
use Rattle.book.specs.Read.{IsAccepted, book_in}
use Rattle.definition.specs.Reader.{TakenPart, read_goal, read_part}
use Rattle.buffer.specs.Regions.{overwrite, region}
use Rattle.book.specs.Codes.{code_of, is_group}
use Rattle.book.specs.Lines.{field_in, lines_in}
use Rattle.tidy.specs.declared.part.Sizes.{Sizes}
use Rattle.tidy.specs.declared.part.Joined.{Joined}
use Rattle.tidy.specs.Tidy.{tidy_part}
use Rattle.tidy.specs.Write.{line_with, part_lines, write_line, write_lines}
use Rattle.tidy.specs.Reply.{padded, tidy_bytes}

-- ---- a number, in the three columns from place i on
abbrev pub put_columns : List ℕ → ℕ → ℕ → List ℕ
put_columns s i n = overwrite s i (columns n)

-- ---- the first line of n bytes goes
abbrev pub line_dropped : ℕ → List ℕ → List ℕ
line_dropped n out = overwrite out 0 (region 16 (n - 16) out)

-- ---- the part at the front of the output joins a node with this code: whether it is spliced in
abbrev pub is_spliced : ℕ → List ℕ → Bool
is_spliced code out = is_group (code_of code) && eqb (field_in out 0) code

-- its parts are there then, without its line; else it counts for one
abbrev pub joined_if : Bool → ℕ → List ℕ → Joined
joined_if true n out = record { count = field_in out 3; bytes = n - 16 }
joined_if false n out = record { count = 1; bytes = n }

abbrev pub dropped_if : Bool → ℕ → List ℕ → List ℕ
dropped_if true n out = line_dropped n out
dropped_if false n out = out

-- ---- a node's own line: none, where the node becomes its only part
abbrev pub is_only : ℕ → ℕ → Bool
is_only code count = is_group (code_of code) && eqb count 1

abbrev pub headed_length : Bool → ℕ → ℕ
headed_length true n = n - 16
headed_length false n = n

abbrev pub headed : Bool → ℕ → ℕ → ℕ → List ℕ → List ℕ
headed true code count n out = line_dropped n out
headed false code count n out = write_line (line_with code count) ++ drop 16 out

-- ---- lines, written for what was read off the front of bytes
pub record WroteAs (lines : List Line) (rest : List Line) (bytes before after : List ℕ) (s : Sizes) : Type 0 where
  pub within : s.read ≤ length bytes
  pub rest_is : lines_in (drop s.read bytes) ≡ rest
  pub not_more : s.wrote ≤ s.read
  pub kept : length after ≡ length before
  pub written : take s.wrote after ≡ write_lines lines
  pub length_is : s.wrote ≡ length (write_lines lines)

-- a part that nests at most `nest` deep, of whatever book it is
pub record StartsWithin (nest : ℕ) (bytes : List ℕ) : Type 0 where
  pub goals : ℕ
  pub in_pick : Bool
  pub taken : TakenPart
  pub reads : read_part goals nest in_pick (lines_in bytes) ≡ some taken

abbrev pub WrotePart : ℕ → List ℕ → List ℕ → List ℕ → Sizes → Type 0
WrotePart nest bytes before after s =
    (goals : ℕ) (in_pick : Bool) (t : TakenPart) → read_part goals nest in_pick (lines_in bytes) ≡ some t
    → WroteAs (part_lines (tidy_part t.part)) t.rest bytes before after s

-- a goal's line and part, of a book with so many goals
pub record StartsGoal (goal : ℕ) (bytes : List ℕ) : Type 0 where
  pub goals : ℕ
  pub taken : TakenPart
  pub reads : read_goal goals goal (lines_in bytes) ≡ some taken

abbrev pub WroteGoal : ℕ → List ℕ → List ℕ → List ℕ → Sizes → Type 0
WroteGoal goal bytes before after s =
    (goals : ℕ) (t : TakenPart) → read_goal goals goal (lines_in bytes) ≡ some t
    → WroteAs (line_with 1 goal ∷ part_lines (tidy_part t.part)) t.rest bytes before after s

-- a book that was read, with so many goals
abbrev pub IsRead : List ℕ → ℕ → Type 0
IsRead bytes goals = IsAccepted bytes × ((book_in bytes).header.goals ≡ goals)

-- its tidy bytes, and zeros behind them
abbrev pub WroteBook : List ℕ → List ℕ → List ℕ → ℕ → Type 0
WroteBook bytes before after n =
    (n ≡ length (tidy_bytes (book_in bytes))) × (after ≡ padded (length before) (tidy_bytes (book_in bytes)))
