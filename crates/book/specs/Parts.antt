-- The part that bytes start with.
use Rattle.std.specs.Prelude.{◌≡◌, ℕ, ◌*◌, ◌-◌, ◌<◌, Bool, List, [], length, drop}
use Rattle.std.proofs.Math.Option.{Option, none, some}
use Rattle.definition.specs.declared.format.Line.{Line}
use Rattle.definition.specs.Part.{Part, Parts, UndecidedLine, End}
use Rattle.definition.specs.Reader.{TakenPart, TakenParts, read_part, read_parts, nesting_limit}
use Rattle.book.specs.Lines.{lines_in}

-- ---- one part, of a book with so many goals; `inPick`: it stands inside a pick
unfoldable pub part_read : ℕ → Bool → List ℕ → Option TakenPart
part_read goals in_pick bytes = read_part goals nesting_limit in_pick (lines_in bytes)

abbrev pub taken_or : Option TakenPart → TakenPart
taken_or none = record { part = UndecidedLine; rest = [] }
taken_or (some t) = t

unfoldable pub part_in : ℕ → Bool → List ℕ → Part
part_in goals in_pick bytes = (taken_or (part_read goals in_pick bytes)).part

-- the lines after it
unfoldable pub rest_in : ℕ → Bool → List ℕ → List Line
rest_in goals in_pick bytes = (taken_or (part_read goals in_pick bytes)).rest

-- the bytes do start with a part
abbrev pub Reads : ℕ → Bool → List ℕ → Type 0
Reads goals in_pick bytes =
    part_read goals in_pick bytes ≡ some (record { part = part_in goals in_pick bytes; rest = rest_in goals in_pick bytes })

-- the bytes after it are these: its lines are passed over
pub record PassedOver (goals : ℕ) (in_pick : Bool) (bytes rest : List ℕ) : Type 0 where
  pub place : rest ≡ drop (16 * (length (lines_in bytes) - length (rest_in goals in_pick bytes))) bytes
  pub lines : lines_in rest ≡ rest_in goals in_pick bytes
  pub shorter : length rest < length bytes

-- of whatever book it is a part
abbrev pub Passed : List ℕ → List ℕ → Type 0
Passed bytes rest = (goals : ℕ) (in_pick : Bool) → Reads goals in_pick bytes → PassedOver goals in_pick bytes rest

-- for some book
pub record StartsPart (bytes : List ℕ) : Type 0 where
  pub goals : ℕ
  pub in_pick : Bool
  pub reads : Reads goals in_pick bytes

-- ---- the parts below a part's first line
unfoldable pub parts_read : ℕ → Bool → ℕ → List ℕ → Option TakenParts
parts_read goals in_pick n bytes = read_parts (read_part goals 7 in_pick) n (lines_in bytes)

abbrev pub taken_parts_or : Option TakenParts → TakenParts
taken_parts_or none = record { parts = End; rest = [] }
taken_parts_or (some t) = t

unfoldable pub parts_in : ℕ → Bool → ℕ → List ℕ → Parts
parts_in goals in_pick n bytes = (taken_parts_or (parts_read goals in_pick n bytes)).parts

unfoldable pub rest_after : ℕ → Bool → ℕ → List ℕ → List Line
rest_after goals in_pick n bytes = (taken_parts_or (parts_read goals in_pick n bytes)).rest

-- the bytes do start with n parts
abbrev pub ReadsParts : ℕ → Bool → ℕ → List ℕ → Type 0
ReadsParts goals in_pick n bytes =
    parts_read goals in_pick n bytes ≡ some (record { parts = parts_in goals in_pick n bytes; rest = rest_after goals in_pick n bytes })
