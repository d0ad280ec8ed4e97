-- The flags of several bytes together tell a bound 2 ^ k - 1 of each.
use mathlib.Core.Path.{◌≡◌, refl, sym, ap, ap₂, ◌∙◌}
use mathlib.Core.Bool.{Bool, ◌&&◌, and_assoc, and-true, and-false}
use mathlib.Core.List.{List, [], ◌∷◌}
use Prim.Native.Nat.{ℕ, ◌-◌, ◌^◌, ◌≤◌}
use native.Mathlib.Decide.{dec_lt}
use native.Mathlib.Omega.{arith}
use borrow.Author.Tests.{le-leb, lt-leb, eq-eqb, ne_eqb}
use lib.Bits.{bit_or, or_lt, or_add_and, and_le_l, and_le_r}
use Rattle.std.specs.Prelude.{fold}
use lib.Dec
use lib.Dec.{leb, eqb}
use lib.Pow.{le_ones, lt_of_le_ones}
use Rattle.definition.specs.CacheForm.{all_at_most}
use Rattle.definition.specs.Nested.{nested_empty}

le_or_l : (a b : ℕ) → a ≤ bit_or a b
le_or_l a b = omega (arith, or_add_and a b, and_le_r a b)

le_or_r : (a b : ℕ) → b ≤ bit_or a b
le_or_r a b = omega (arith, or_add_and a b, and_le_l a b)

-- both flags are low where they are joined
pub or_low : (k a b : ℕ) → leb (bit_or a b) (2 ^ k - 1) ≡ (leb a (2 ^ k - 1) && leb b (2 ^ k - 1))
or_low k a b =
    let m : ℕ = 2 ^ k - 1 in
    elim (dec_lt m a) [
      | yes h ↦ lt-leb (bit_or a b) m (omega (arith, le_or_l a b)) ∙ sym (ap (λ (t : Bool). t && leb b m) (lt-leb a m h))
      | no ha ↦
          elim (dec_lt m b) [
            | yes h ↦ lt-leb (bit_or a b) m (omega (arith, le_or_r a b)) ∙ sym (ap (λ (t : Bool). leb a m && t) (lt-leb b m h) ∙ and-false (leb a m))
            | no hb ↦
                let la : a ≤ m = omega arith in
                let lb : b ≤ m = omega arith in
                le-leb (bit_or a b) m (le_ones k (or_lt k a b (lt_of_le_ones k la) (lt_of_le_ones k lb)))
                ∙ sym (ap₂ ◌&&◌ (le-leb a m la) (le-leb b m lb))
          ]
    ]

-- the join of a list's bytes
joined_from : (k a : ℕ) (s : List ℕ) → leb (fold bit_or a s) (2 ^ k - 1) ≡ (leb a (2 ^ k - 1) && all_at_most (2 ^ k - 1) s)
joined_from k a [] = sym (and-true (leb a (2 ^ k - 1)))
joined_from k a (x ∷ s) =
    let m : ℕ = 2 ^ k - 1 in
    joined_from k (bit_or a x) s
    ∙ ap (λ (t : Bool). t && all_at_most m s) (or_low k a x)
    ∙ and_assoc (leb a m) (leb x m) (all_at_most m s)

pub joined_low : (k : ℕ) (s : List ℕ) → leb (fold bit_or 0 s) (2 ^ k - 1) ≡ all_at_most (2 ^ k - 1) s
joined_low k s = joined_from k 0 s ∙ ap (λ (t : Bool). t && all_at_most (2 ^ k - 1) s) (Dec.leb-zero (2 ^ k - 1))

-- at most 0 is 0
pub leb_zero : (n : ℕ) → leb n 0 ≡ eqb n 0
leb_zero n =
    elim (dec_lt 0 n) [
      | yes h ↦ lt-leb n 0 h ∙ sym (ne_eqb n 0 (λ e. omega arith))
      | no h ↦ le-leb n 0 (omega arith) ∙ sym (eq-eqb n 0 (omega arith))
    ]

-- no flag is nested where no goal is
pub empty_flags : (s : List ℕ) → all_at_most 0 s ≡ nested_empty s
empty_flags [] = refl
empty_flags (x ∷ s) = ap₂ ◌&&◌ (leb_zero x) (empty_flags s)
