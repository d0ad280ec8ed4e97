-- Bytes that are all zeros.
use mathlib.Core.Path.{◌≡◌, refl, sym, ap, ap₂, ◌∙◌}
use mathlib.Core.Bool.{Bool, true, false, So, false≢true, ◌&&◌, and_assoc, and-eq-true_iff}
use mathlib.Core.List.{List, [], ◌∷◌, ◌++◌}
use Prim.Native.Nat.{ℕ, ◌+◌, ◌*◌, ◌-◌, ◌≤◌}
use native.Mathlib.Omega.{arith}
use borrow.Author.Tests.{eq-eqb, ne_eqb, eqb-true}
use lib.Bits.{bit_or, and_le_l, and_le_r, or_add_and}
use lib.Dec.{eqb}
use lib.ListN.{length, take, drop, length-drop, take-append-drop}
use lib.Seq.{take_all, take-take, take-add}
use Rattle.std.specs.List.{list_all}
use Rattle.buffer.specs.Numbers.{number_of}
use Rattle.buffer.specs.Regions.{region, all_zero}

-- two parts are all zeros where both are
zero_append : (xs ys : List ℕ) → all_zero (xs ++ ys) ≡ (all_zero xs && all_zero ys)
zero_append [] ys = refl
zero_append (x ∷ xs) ys = ap (λ (t : Bool). eqb x 0 && t) (zero_append xs ys) ∙ sym (and_assoc (eqb x 0) (all_zero xs) (all_zero ys))

pub zero_split : (k : ℕ) (bs : List ℕ) → (all_zero (take k bs) && all_zero (drop k bs)) ≡ all_zero bs
zero_split k bs = sym (zero_append (take k bs) (drop k bs)) ∙ ap all_zero (take-append-drop k bs)

zero_parts : (k : ℕ) (bs : List ℕ) → So (all_zero bs) → So (all_zero (take k bs)) × So (all_zero (drop k bs))
zero_parts k bs z = (and-eq-true_iff (all_zero (take k bs)) (all_zero (drop k bs))).0 (zero_split k bs ∙ z)

-- a part of zeros
pub zero_region : (a n : ℕ) (bs : List ℕ) → So (all_zero bs) → So (all_zero (region a n bs))
zero_region a n bs z = (zero_parts n (drop a bs) (zero_parts a bs z).1).0

-- what a number tells that is 0 just where t holds
tells_zero : (n : ℕ) (t : Bool) → (n ≡ 0 → So t) → (So t → n ≡ 0) → eqb n 0 ≡ t
tells_zero n true to from = eq-eqb n 0 (from refl)
tells_zero n false to from = ne_eqb n 0 (λ e. false≢true (to e))

-- a number is 0 where its bytes are
zero_number : (bs : List ℕ) → So (all_zero bs) → number_of bs ≡ 0
zero_number [] z = refl
zero_number (b ∷ bs) z =
    let both = (and-eq-true_iff (eqb b 0) (all_zero bs)).0 z in
    omega (arith, eqb-true b 0 both.0, zero_number bs both.1)

number_zero : (bs : List ℕ) → number_of bs ≡ 0 → So (all_zero bs)
number_zero [] e = refl
number_zero (b ∷ bs) e = (and-eq-true_iff (eqb b 0) (all_zero bs)).1 (eq-eqb b 0 (omega arith), number_zero bs (omega arith))

-- a test of each of the bytes
pub zero_each : (bs : List ℕ) → list_all (λ (b : ℕ). eqb b 0) bs ≡ all_zero bs
zero_each [] = refl
zero_each (b ∷ bs) = ap (λ (t : Bool). eqb b 0 && t) (zero_each bs)

-- ---- `all_zero`
-- what the first i words and the last 8 bytes, joined, tell
pub record Joined (bs : List ℕ) (all i : ℕ) : Type 0 where
  pub front : all ≡ 0 → So (all_zero (take (8 * i) bs))
  pub last : all ≡ 0 → So (all_zero (drop (length bs - 8) bs))
  pub none : So (all_zero bs) → all ≡ 0

module _ (bs : List ℕ) where
  pub join_last : (all : ℕ) → all ≡ number_of (region (length bs - 8) 8 bs) → Joined bs all 0
  join_last all e = record {
    front = λ z. refl;
    last = λ z. sym (ap all_zero (take_all 8 (drop (length bs - 8) bs) (rw length-drop (omega arith)))) ∙ number_zero (region (length bs - 8) 8 bs) (sym e ∙ z);
    none = λ z. e ∙ zero_number (region (length bs - 8) 8 bs) (zero_region (length bs - 8) 8 bs z);
  }

  module _ (all i : ℕ) (so_far : Joined bs all i) where
    pub join_more : (w : ℕ) → w ≡ number_of (region (8 * i) 8 bs) → Joined bs (bit_or all w) (i + 1)
    join_more w e = record {
      front = λ z. ap all_zero (grown ∙ take-add (8 * i) 8 bs) ∙ zero_append (take (8 * i) bs) (region (8 * i) 8 bs)
          ∙ (and-eq-true_iff (all_zero (take (8 * i) bs)) (all_zero (region (8 * i) 8 bs))).1
          (so_far.front (left z), number_zero (region (8 * i) 8 bs) (sym e ∙ right z));
      last = λ z. so_far.last (left z);
      none = λ z. ap₂ bit_or (so_far.none z) (e ∙ zero_number (region (8 * i) 8 bs) (zero_region (8 * i) 8 bs z));
    }
      where
        left : bit_or all w ≡ 0 → all ≡ 0
        left z = omega (arith, or_add_and all w, and_le_r all w)

        right : bit_or all w ≡ 0 → w ≡ 0
        right z = omega (arith, or_add_and all w, and_le_l all w)

        grown : take (8 * (i + 1)) bs ≡ take (8 * i + 8) bs
        grown = let n : 8 * (i + 1) ≡ 8 * i + 8 = omega arith in ap (λ (k : ℕ). take k bs) n

    -- the two cover all bytes
    pub joined_all : length bs - 8 ≤ 8 * i → eqb all 0 ≡ all_zero bs
    joined_all h = tells_zero all (all_zero bs) covered so_far.none
      where
        covered : all ≡ 0 → So (all_zero bs)
        covered z =
            let k : ℕ = length bs - 8 in
            sym (zero_split k bs)
            ∙ (and-eq-true_iff (all_zero (take k bs)) (all_zero (drop k bs))).1
            (sym (ap all_zero (take-take k (8 * i) bs h)) ∙ (zero_parts k (take (8 * i) bs) (so_far.front z)).0, so_far.last z)
