-- A line of a book: 16 bytes, five fields of three columns and a newline.
use Rattle.std.specs.Prelude.{ℕ, zero, suc, ◌+◌, ◌-◌, ◌*◌, ◌/◌, ◌%◌, Bool, true, false, ◌&&◌, ◌||◌, not, List, [], ◌∷◌, eqb, leb, get_or, take, drop}
use Rattle.std.proofs.Math.Option.{Option, none, some}
use Rattle.definition.specs.declared.format.Line.{Line}

abbrev pub is_digit : ℕ → Bool
is_digit c = leb 48 c && leb c 57

abbrev pub is_space : ℕ → Bool
is_space c = eqb c 32

abbrev pub is_leading_digit : ℕ → Bool
is_leading_digit c = is_digit c && not (eqb c 48)

-- right-justified after spaces, with no leading zero; zero is "  0"
abbrev pub is_field : ℕ → ℕ → ℕ → Bool
is_field x y z = is_digit z && ((is_space x && (is_space y || is_leading_digit y)) || (is_leading_digit x && is_digit y))

-- a space counts as 0
abbrev pub digit_value : ℕ → ℕ
digit_value c = c - 48

abbrev pub field_value : ℕ → ℕ → ℕ → ℕ
field_value x y z = digit_value x * 100 + digit_value y * 10 + digit_value z

-- a number, written: right-justified after spaces, zero as "  0"
abbrev pub last_column : ℕ → ℕ
last_column n = 48 + n % 10

-- a space where nothing is left of the number
abbrev pub leading_column : ℕ → ℕ
leading_column zero = 32
leading_column (suc n) = last_column (suc n)

abbrev pub columns : ℕ → List ℕ
columns n = leading_column (n / 100) ∷ leading_column (n / 10) ∷ last_column n ∷ []

-- the field whose first column is at place i
abbrev pub field_at : List ℕ → ℕ → Option ℕ
field_at s i =
    elim (is_field (get_or s i 0) (get_or s (i + 1) 0) (get_or s (i + 2) 0)) [
      | true ↦ some (field_value (get_or s i 0) (get_or s (i + 1) 0) (get_or s (i + 2) 0))
      | false ↦ none
    ]

abbrev pub line_of : Option ℕ → Option ℕ → Option ℕ → Option ℕ → Option ℕ → Bool → Option Line
line_of (some a) (some b) (some c) (some d) (some e) true =
    some (record { code = a; first = b; second = c; third = d; fourth = e })
line_of (some a) (some b) (some c) (some d) (some e) false = none
line_of (some a) (some b) (some c) (some d) none newline = none
line_of (some a) (some b) (some c) none e newline = none
line_of (some a) (some b) none d e newline = none
line_of (some a) none c d e newline = none
line_of none b c d e newline = none

abbrev pub read_line : List ℕ → Option Line
read_line s = line_of (field_at s 0) (field_at s 3) (field_at s 6) (field_at s 9) (field_at s 12) (eqb (get_or s 15 0) 10)

-- n lines; nothing where one is ill-formed
abbrev pub read_lines : ℕ → List ℕ → Option (List Line)
read_lines zero s = some []
read_lines (suc n) s =
    elim (read_line (take 16 s)) [
      | none ↦ none
      | some l ↦ elim (read_lines n (drop 16 s)) [ none ↦ none | some ls ↦ some (l ∷ ls) ]
    ]
