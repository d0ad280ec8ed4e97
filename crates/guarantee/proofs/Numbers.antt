-- A mask is the number of its goals.
use mathlib.Core.Path.{◌≡◌, refl, sym, ap, ap₂, ◌∙◌}
use mathlib.Core.Bool.{Bool, true, false, ◌&&◌}
use mathlib.Core.List.{List, [], ◌∷◌}
use Prim.Native.Nat.{ℕ, zero, suc, ◌+◌, ◌*◌, ◌/◌, ◌%◌, ◌^◌, ◌≤◌, ◌<◌}
use native.Mathlib.Nat.{pow-suc}
use native.Mathlib.Omega.{arith}
use lib.Dec.{ltb, leb-suc-suc}
use lib.ListN.{length, get_or}
use borrow.Author.Tests.{lt-ltb, le-ltb}
use Rattle.bits.specs.Masks.{flag, flags}
use Rattle.bits.proofs.Flags.{digit, length_flags, flags_zero}
use Rattle.bits.proofs.Marks.{only}
use Rattle.soundness.specs.Sets.{Goals}
use Rattle.guarantee.specs.Guarantee.{bit, mask_of}
use Rattle.guarantee.specs.Engine.{in_mask}

abbrev value : List Bool → ℕ
value [] = 0
value (x ∷ xs) = value xs * 2 + bit x

value_flags : (k a : ℕ) → a < 2 ^ k → value (flags k a) ≡ a
unfolding flags
value_flags zero a h = omega arith
value_flags (suc k) a h =
    let h' : a < 2 ^ k * 2 = rw pow-suc at h in
    let low : bit (flag (a % 2)) ≡ a % 2 = is_bit (a % 2) (omega arith) in
    let high : value (flags k (a / 2)) ≡ a / 2 = value_flags k (a / 2) (omega arith) in
    ap₂ (λ (x y : ℕ). x * 2 + y) high low ∙ omega arith
  where
    is_bit : (d : ℕ) → d < 2 → bit (flag d) ≡ d
    is_bit zero l = refl
    is_bit (suc zero) l = refl
    is_bit (suc (suc d)) l = absurd (omega arith)

value_none : (xs : List Bool) → ((i : ℕ) → get_or xs i false ≡ false) → value xs ≡ 0
value_none [] h = refl
value_none (x ∷ xs) h = ap₂ (λ (n : ℕ) (y : Bool). n * 2 + bit y) (value_none xs (λ i. h (suc i))) (h 0)

value_of : (n : ℕ) (s : Goals) (xs : List Bool) → n ≤ length xs → ((i : ℕ) → get_or xs i false ≡ (ltb i n && s i))
    → value xs ≡ mask_of n s
value_of zero s xs l h = value_none xs (λ i. h i ∙ ap (λ (t : Bool). t && s i) (le-ltb i 0 (omega arith)))
value_of (suc n) s [] l h = absurd (omega arith)
value_of (suc n) s (x ∷ xs) l h =
    ap₂ (λ (m : ℕ) (y : Bool). m * 2 + bit y)
    (value_of n (λ k. s (suc k)) xs (omega arith)
    (λ i. h (suc i) ∙ ap (λ (t : Bool). t && s (suc i)) (leb-suc-suc (suc i) n)))
    (h 0 ∙ ap (λ (t : Bool). t && s 0) (lt-ltb 0 (suc n) (omega arith)))

pub mask_of_lem : (n m : ℕ) (s : Goals) → n ≤ 64 → m < 2 ^ 64 → ((k : ℕ) → in_mask m k ≡ (ltb k n && s k)) → m ≡ mask_of n s
mask_of_lem n m s l small h = sym (value_flags 64 m small) ∙ value_of n s (flags 64 m) (rw length_flags l) h

-- and back
flags_of : (k n : ℕ) (s : Goals) → n ≤ k → (i : ℕ) → get_or (flags k (mask_of n s)) i false ≡ (ltb i n && s i)
flags_of k zero s l i =
    ap (λ (xs : List Bool). get_or xs i false) (flags_zero k) ∙ only false k i
    ∙ sym (ap (λ (t : Bool). t && s i) (le-ltb i 0 (omega arith)))
flags_of zero (suc n) s l i = absurd (omega arith)
flags_of (suc k) (suc n) s l i =
    ap (λ (xs : List Bool). get_or xs i false) (digit k (bit (s 0)) (mask_of n (λ j. s (suc j))) (small (s 0)) refl)
    ∙ at i (flags_of k n (λ j. s (suc j)) (omega arith))
  where
    small : (t : Bool) → bit t < 2
    small true = omega arith
    small false = omega arith

    back : (t : Bool) → flag (bit t) ≡ t
    back true = refl
    back false = refl

    at : (i : ℕ) → ((j : ℕ) → get_or (flags k (mask_of n (λ j. s (suc j)))) j false ≡ (ltb j n && s (suc j)))
        → get_or (flag (bit (s 0)) ∷ flags k (mask_of n (λ j. s (suc j)))) i false ≡ (ltb i (suc n) && s i)
    at zero ih = back (s 0) ∙ sym (ap (λ (t : Bool). t && s 0) (lt-ltb 0 (suc n) (omega arith)))
    at (suc i) ih = ih i ∙ sym (ap (λ (t : Bool). t && s (suc i)) (leb-suc-suc (suc i) n))

pub mask_goals : (n : ℕ) (s : Goals) → n ≤ 64 → (k : ℕ) → in_mask (mask_of n s) k ≡ (ltb k n && s k)
mask_goals n s l k = flags_of 64 n s l k
