-- What the grammar check says, by counts of bytes.
use Rattle.std.specs.Prelude.{ℕ, ◌≤◌, Bool, not, ◌&&◌, List, length, eqb, leb, ltb, drop, Some, None, IfSome}
use Rattle.std.specs.Prelude as prelude
use Rattle.std.proofs.Math.Option.{Option, none, some}
use Rattle.definition.specs.declared.format.Line.{Line}
use Rattle.definition.specs.Reader.{TakenPart, TakenParts, uses_first, read_parts}
use Rattle.book.specs.declared.grammar.Opened.{Opened}
use Rattle.book.specs.Lines.{lines_in}

-- ---- the lines after what was read
abbrev pub after_part : Option TakenPart → Option (List Line)
after_part none = none
after_part (some t) = some t.rest

abbrev pub after_parts : Option TakenParts → Option (List Line)
after_parts none = none
after_parts (some t) = some t.rest

-- the lines after so many bytes, where something was read
abbrev pub after_bytes : prelude.Option ℕ → List ℕ → Option (List Line)
after_bytes None s = none
after_bytes (Some n) s = some (lines_in (drop n s))

-- the bytes have so many
abbrev pub Within : prelude.Option ℕ → List ℕ → Type 0
Within r s = IfSome r (λ n. n ≤ length s)

-- the lines after the parts that a line opens
abbrev pub after_opened : prelude.Option Opened → (Bool → List Line → Option TakenPart) → List Line → Option (List Line)
after_opened None inner ls = none
after_opened (Some o) inner ls = after_parts (read_parts (inner o.in_pick) o.parts ls)

-- ---- the tests on a line
abbrev pub goal_fits : ℕ → Line → Bool
goal_fits goal l = eqb l.first goal && uses_first l

abbrev pub call_fits : ℕ → Line → Bool
call_fits goals l = ltb l.first goals && leb l.second 3 && leb l.third 1 && eqb l.fourth 0

abbrev pub undecided_fits : Line → Bool
undecided_fits l = eqb l.first 0 && eqb l.second 0 && eqb l.third 0 && eqb l.fourth 0

abbrev pub pick_fits : Bool → Line → Bool
pick_fits in_pick l = not in_pick && uses_first l
