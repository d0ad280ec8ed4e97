-- Bytes put behind others, and lines that stand at the front of bytes.
use mathlib.Core.List.{List, ◌∷◌, ◌++◌, append_assoc, append-nil}
use mathlib.Core.Path.{◌∙◌, ◌≡◌, ap, sym}
use Prim.Native.Nat.{◌+◌, ◌-◌, ◌≤◌, ℕ}
use native.Mathlib.Nat.{add-zero}
use native.Mathlib.Omega.{arith}
use lib.ListN.{drop, drop_of_length-le, length, length-append, length-drop, take, take-append-drop}
use lib.Seq.{drop-append-le, drop_at, length-take-le, take-append-add, take_at}
use Rattle.definition.specs.declared.format.Line.{Line}
use Rattle.definition.proofs.Lists.{part_from_lem}
use Rattle.buffer.specs.Regions.{region}
use Rattle.buffer.proofs.Regions.{drop_take, length_region}
use Rattle.book.specs.Lines.{field_in}
use Rattle.tidy.specs.Write.{write_line, write_lines}
use Rattle.tidy.specs.Engine.{line_dropped}
use Rattle.tidy.proofs.Fields.{value_back}

-- ---- a part `[at..]` of a buffer is lent, and comes back with ys in it
abbrev pub Back : List ℕ → ℕ → List ℕ → List ℕ
Back out at ys = take at out ++ (ys ++ drop (length out - at) (drop at out))

module _ (out : List ℕ) (at : ℕ) (h : at ≤ length out) where
  pub lent_length : length (take (length out - at) (drop at out)) ≡ length out - at
  lent_length = rw (part_from_lem, length-drop)

  front_length : length (take at out) ≡ at
  front_length = length-take-le at out h

  module _ (ys : List ℕ) where
    abbrev back : List ℕ
    back = Back out at ys

    pub back_is : back ≡ take at out ++ ys
    back_is =
        ap (λ l. take at out ++ (ys ++ l)) (drop_of_length-le (drop at out) {i = length out - at} (rw length-drop (omega arith)))
        ∙ ap (λ l. take at out ++ l) (append-nil ys)

    pub back_length : length ys ≡ length out - at → length back ≡ length out
    back_length e = ap length back_is ∙ length-append (take at out) ys ∙ omega (arith, front_length)

    pub back_take : (k : ℕ) → take (at + k) back ≡ take at out ++ take k ys
    back_take k =
        ap (take (at + k)) back_is
        ∙ ap (λ n. take (n + k) (take at out ++ ys)) (sym front_length)
        ∙ take-append-add (take at out) ys k

    pub back_drop : drop at back ≡ ys
    back_drop = ap (drop at) back_is ∙ drop_at (take at out) ys at front_length

    -- what stands behind the first line
    pub back_region : (k : ℕ) → 16 ≤ at → region 16 (at + k - 16) back ≡ region 16 (at - 16) out ++ take k ys
    back_region k l =
        let e : 16 + (at + k - 16) ≡ at + k = omega arith in
        let f : at ≡ 16 + (at - 16) = omega arith in
        sym (drop_take 16 (at + k - 16) back)
        ∙ ap (λ n. drop 16 (take n back)) e
        ∙ ap (drop 16) (back_take k)
        ∙ drop-append-le 16 (take at out) (take k ys) (omega (arith, front_length))
        ∙ ap (λ n. drop 16 (take n out) ++ take k ys) f
        ∙ ap (λ s. s ++ take k ys) (drop_take 16 (at - 16) out)

    pub back_same : 16 ≤ at → region 16 (at - 16) back ≡ region 16 (at - 16) out
    back_same l = ap (λ n. region 16 (n - 16) back) (sym (add-zero at)) ∙ back_region 0 l ∙ append-nil (region 16 (at - 16) out)

-- ---- n bytes are a line and others
module _ (s : List ℕ) (n : ℕ) (l : Line) (ls : List Line) (h : take n s ≡ write_lines (l ∷ ls)) (e : n ≡ length (write_lines (l ∷ ls))) where
  whole : s ≡ write_line l ++ (write_lines ls ++ drop n s)
  whole =
      sym (take-append-drop n s) ∙ ap (λ x. x ++ drop n s) h ∙ append_assoc (write_line l) (write_lines ls) (drop n s)

  pub code_in : l.code ≤ 999 → field_in s 0 ≡ l.code
  code_in b = ap (λ x. field_in x 0) whole ∙ value_back l.code b

  pub first_in : l.first ≤ 999 → field_in s 3 ≡ l.first
  first_in b = ap (λ x. field_in x 3) whole ∙ value_back l.first b

  pub line_room : 16 ≤ n
  line_room = omega (arith, e)

  pub others_in : region 16 (n - 16) s ≡ write_lines ls
  others_in =
      let f : 16 + (n - 16) ≡ n = omega (arith, line_room) in
      sym (drop_take 16 (n - 16) s) ∙ ap (λ m. drop 16 (take m s)) f ∙ ap (drop 16) h

-- the first line of n bytes goes
pub dropped_take : (s : List ℕ) (n : ℕ) → 16 ≤ n → n ≤ length s → take (n - 16) (line_dropped n s) ≡ region 16 (n - 16) s
dropped_take s n l r =
    take_at (region 16 (n - 16) s) (drop (length (region 16 (n - 16) s)) s) (n - 16) (length_region 16 (n - 16) s (omega arith))

-- a line comes before the others
pub headed_take : (s : List ℕ) (n : ℕ) (l : Line) → 16 ≤ n → take n (write_line l ++ drop 16 s) ≡ write_line l ++ region 16 (n - 16) s
headed_take s n l h =
    let e : n ≡ 16 + (n - 16) = omega arith in
    ap (λ m. take m (write_line l ++ drop 16 s)) e ∙ take-append-add (write_line l) (drop 16 s) (n - 16)
