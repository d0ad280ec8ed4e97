-- The lines of bytes: one by one, and as the definition reads them.
use mathlib.Core.Path.{◌≡◌, refl, sym, ap, ◌∙◌, subst}
use mathlib.Core.Bool.{Bool, true, false, ◌&&◌, and-eq-true_iff}
use mathlib.Core.Option.{Option, none, some}
use mathlib.Core.List.{List, [], ◌∷◌, ◌++◌}
use Prim.Native.Nat.{ℕ, zero, suc, ◌+◌, ◌-◌, ◌/◌, ◌≤◌, ◌<◌}
use native.Mathlib.Omega.{arith}
use lib.ListN.{length, get_or, take, drop, length-drop, length-append, get_or-append}
use lib.Seq.{get_or-take, drop-append_seam}
use lib.Dec.{eqb}
use Rattle.definition.specs.declared.format.Line.{Line}
use Rattle.definition.specs.Line.{is_field, field_value, field_at, line_of, read_line, read_lines}
use Rattle.definition.specs.Reader.{lines_of}
use Rattle.definition.proofs.Lists.{part_from_lem}
use Rattle.book.specs.Lines.{field_in, line_in, lines_from, lines_in, field_fits, line_fits, lines_fit, all_fit, lines_if}
use Rattle.book.proofs.Tests.{stop, pass}

-- ---- one line and the others
more_lines : (s : List ℕ) → 16 ≤ length s → length s / 16 ≡ suc (length (drop 16 s) / 16)
more_lines s h = rw length-drop (omega arith)

pub lines_cons : (s : List ℕ) → 16 ≤ length s → lines_in s ≡ line_in s ∷ lines_in (drop 16 s)
unfolding lines_in lines_from
lines_cons s h = rw (more_lines s h)

pub lines_none : (s : List ℕ) → length s < 16 → lines_in s ≡ []
unfolding lines_in lines_from
lines_none s h = let e : length s / 16 ≡ 0 = omega arith in rw e

lines_length_from : (n : ℕ) (s : List ℕ) → length (lines_from n s) ≡ n
unfolding lines_from
lines_length_from zero s = refl
lines_length_from (suc n) s = ap suc (lines_length_from n (drop 16 s))

pub lines_length : (s : List ℕ) → length (lines_in s) ≡ length s / 16
unfolding lines_in
lines_length s = lines_length_from (length s / 16) s

-- ---- whether they are well-formed
pub all_cons : (s : List ℕ) → 16 ≤ length s → all_fit s ≡ line_fits s && all_fit (drop 16 s)
unfolding all_fit lines_fit
all_cons s h = rw (more_lines s h)

pub all_none : (s : List ℕ) → length s < 16 → all_fit s ≡ true
unfolding all_fit lines_fit
all_none s h = let e : length s / 16 ≡ 0 = omega arith in rw e

-- ---- the definition's lines
abbrev field_if : Bool → ℕ → Option ℕ
field_if b n = elim b [ true ↦ some n | false ↦ none ]

abbrev line_if : Bool → Line → Option Line
line_if b l = elim b [ true ↦ some l | false ↦ none ]

field_take : (s : List ℕ) (i : ℕ) → i + 2 < 16 → field_at (take 16 s) i ≡ field_if (field_fits s i) (field_in s i)
field_take s i h =
    let a : get_or (take 16 s) i 0 ≡ get_or s i 0 = get_or-take 16 s i 0 (omega arith) in
    let b : get_or (take 16 s) (i + 1) 0 ≡ get_or s (i + 1) 0 = get_or-take 16 s (i + 1) 0 (omega arith) in
    let c : get_or (take 16 s) (i + 2) 0 ≡ get_or s (i + 2) 0 = get_or-take 16 s (i + 2) 0 (omega arith) in
    by a b c
  where
    by : {x y z x' y' z' : ℕ} → x ≡ x' → y ≡ y' → z ≡ z' → field_if (is_field x y z) (field_value x y z) ≡ field_if (is_field x' y' z') (field_value x' y' z')
    by a b c i = field_if (is_field (a i) (b i) (c i)) (field_value (a i) (b i) (c i))

six : (a b c d e f : Bool) (u v w x y : ℕ) → line_of (field_if a u) (field_if b v) (field_if c w) (field_if d x) (field_if e y) f ≡ line_if (a && (b && (c && (d && (e && f))))) (record { code = u; first = v; second = w; third = x; fourth = y })
six false b c d e f u v w x y = refl
six true false c d e f u v w x y = refl
six true true false d e f u v w x y = refl
six true true true false e f u v w x y = refl
six true true true true false f u v w x y = refl
six true true true true true false u v w x y = refl
six true true true true true true u v w x y = refl

read_line_lem : (s : List ℕ) → read_line (take 16 s) ≡ line_if (line_fits s) (line_in s)
unfolding line_fits line_in
read_line_lem s =
    by (field_take s 0 (omega arith)) (field_take s 3 (omega arith)) (field_take s 6 (omega arith)) (field_take s 9 (omega arith)) (field_take s 12 (omega arith)) (ap (λ (n : ℕ). eqb n 10) (get_or-take 16 s 15 0 (omega arith)))
    ∙ six (field_fits s 0) (field_fits s 3) (field_fits s 6) (field_fits s 9) (field_fits s 12) (eqb (get_or s 15 0) 10) (field_in s 0) (field_in s 3) (field_in s 6) (field_in s 9) (field_in s 12)
  where
    by : {a b c d e a' b' c' d' e' : Option ℕ} {f f' : Bool} → a ≡ a' → b ≡ b' → c ≡ c' → d ≡ d' → e ≡ e' → f ≡ f' → line_of a b c d e f ≡ line_of a' b' c' d' e' f'
    by a b c d e f i = line_of (a i) (b i) (c i) (d i) (e i) (f i)

abbrev some_if : Bool → List Line → Option (List Line)
some_if b ls = elim b [ true ↦ some ls | false ↦ none ]

abbrev joined : Option Line → Option (List Line) → Option (List Line)
joined x xs = elim x [ none ↦ none | some l ↦ elim xs [ none ↦ none | some ls ↦ some (l ∷ ls) ] ]

read_lines_lem : (n : ℕ) (s : List ℕ) → read_lines n s ≡ some_if (lines_fit n s) (lines_from n s)
unfolding lines_fit lines_from
read_lines_lem zero s = refl
read_lines_lem (suc n) s =
    by (line_fits s) (lines_fit n (drop 16 s)) (line_in s) (lines_from n (drop 16 s)) (read_line (take 16 s)) (read_lines n (drop 16 s)) (read_line_lem s) (read_lines_lem n (drop 16 s))
  where
    by : (a b : Bool) (l : Line) (ls : List Line) (x : Option Line) (xs : Option (List Line)) → x ≡ line_if a l → xs ≡ some_if b ls → joined x xs ≡ some_if (a && b) (l ∷ ls)
    by false b l ls x xs e f = rw e
    by true false l ls x xs e f = rw (e, f)
    by true true l ls x xs e f = rw (e, f)

pub lines_of_lem : (s : List ℕ) → lines_of s ≡ lines_if (all_fit s) s
unfolding all_fit lines_in
lines_of_lem s = read_lines_lem (length s / 16) s ∙ by (all_fit s)
  where
    by : (b : Bool) → some_if b (lines_in s) ≡ lines_if b s
    by true = refl
    by false = refl

-- where they were read, the first is well-formed
pub first_fits : (s : List ℕ) → 16 ≤ length s → lines_of s ≡ some (lines_in s) → line_fits s ≡ true
first_fits s h e = ((and-eq-true_iff _ _).0 (sym (all_cons s h) ∙ go (all_fit s) (sym (lines_of_lem s) ∙ e))).0
  where
    go : (b : Bool) → lines_if b s ≡ some (lines_in s) → b ≡ true
    go true q = refl
    go false q = let z : ◌≡◌ {A = ℕ} 0 1 = cc in absurd (omega arith)

-- ---- a turn of `all_fit`: the line x stands before the bytes t
module _ (x t : List ℕ) (h : length x ≡ 16) where
  column : (i : ℕ) → i < 16 → get_or (x ++ t) i 0 ≡ get_or x i 0
  column i l = get_or-append x t 0 i (omega arith)

  field_there : (i : ℕ) → i + 2 < 16 → field_fits (x ++ t) i ≡ field_fits x i
  field_there i l = λ k. is_field (column i (omega arith) k) (column (i + 1) (omega arith) k) (column (i + 2) (omega arith) k)

  line_there : line_fits (x ++ t) ≡ line_fits x
  unfolding line_fits
  line_there =
      λ k. field_there 0 (omega arith) k && (field_there 3 (omega arith) k && (field_there 6 (omega arith) k && (field_there 9 (omega arith) k
      && (field_there 12 (omega arith) k && eqb (column 15 (omega arith) k) 10))))

  others : drop 16 (x ++ t) ≡ t
  others = subst (λ (n : ℕ). drop n (x ++ t) ≡ t) h (drop-append_seam x t)

  room : 16 ≤ length (x ++ t)
  room = rw length-append (omega arith)

  module _ (book s : List ℕ) (is : s ≡ x ++ t) (inv : all_fit s ≡ all_fit book) where
    pub turn_bad : line_fits x ≡ false → lines_of book ≡ none
    turn_bad e =
        lines_of_lem book
        ∙ ap (λ (b : Bool). lines_if b book) (sym inv ∙ ap all_fit is ∙ all_cons (x ++ t) room ∙ sym (stop _ _ (line_there ∙ e)))

    pub turn_good : line_fits x ≡ true → all_fit t ≡ all_fit book
    turn_good e = pass _ _ _ (line_there ∙ e) (ap all_fit (sym others)) ∙ sym (all_cons (x ++ t) room) ∙ sym (ap all_fit is) ∙ inv

pub turn_end : (book t : List ℕ) → length t < 16 → all_fit t ≡ all_fit book → lines_of book ≡ some (lines_in book)
turn_end book t h inv = lines_of_lem book ∙ ap (λ (b : Bool). lines_if b book) (sym inv ∙ all_none t h)

pub shorter : (t : List ℕ) → 16 ≤ length t → length (take (length t - 16) (drop 16 t)) < length t
shorter t h = rw (part_from_lem, length-drop) (omega arith)
