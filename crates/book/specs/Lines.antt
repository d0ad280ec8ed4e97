-- The lines of bytes, whatever stands in them.
use Rattle.std.specs.Prelude.{ℕ, zero, suc, ◌+◌, ◌/◌, Bool, true, false, ◌&&◌, List, [], ◌∷◌, eqb, length, get_or, drop}
use Rattle.std.proofs.Math.Option.{Option, none, some}
use Rattle.definition.specs.declared.format.Line.{Line}
use Rattle.definition.specs.Line.{is_field, field_value}

-- the value of the field whose first column is at place i
abbrev pub field_in : List ℕ → ℕ → ℕ
field_in s i = field_value (get_or s i 0) (get_or s (i + 1) 0) (get_or s (i + 2) 0)

unfoldable pub line_in : List ℕ → Line
line_in s =
    record { code = field_in s 0; first = field_in s 3; second = field_in s 6; third = field_in s 9; fourth = field_in s 12 }

unfoldable pub lines_from : ℕ → List ℕ → List Line
lines_from zero s = []
lines_from (suc n) s = line_in s ∷ lines_from n (drop 16 s)

-- every whole line
unfoldable pub lines_in : List ℕ → List Line
lines_in s = lines_from (length s / 16) s

-- ---- whether they are well-formed
abbrev pub field_fits : List ℕ → ℕ → Bool
field_fits s i = is_field (get_or s i 0) (get_or s (i + 1) 0) (get_or s (i + 2) 0)

unfoldable pub line_fits : List ℕ → Bool
line_fits s =
    field_fits s 0 && (field_fits s 3 && (field_fits s 6 && (field_fits s 9 && (field_fits s 12 && eqb (get_or s 15 0) 10))))

unfoldable pub lines_fit : ℕ → List ℕ → Bool
lines_fit zero s = true
lines_fit (suc n) s = line_fits s && lines_fit n (drop 16 s)

-- every whole line is
unfoldable pub all_fit : List ℕ → Bool
all_fit s = lines_fit (length s / 16) s

-- the lines where they are well-formed
abbrev pub lines_if : Bool → List ℕ → Option (List Line)
lines_if true s = some (lines_in s)
lines_if false s = none
