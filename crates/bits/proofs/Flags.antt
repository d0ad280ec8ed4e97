-- The machine's operations on masks, as flags.
use mathlib.Core.Path.{◌≡◌, refl, sym, ap, ap₂, ◌∙◌}
use mathlib.Core.Bool.{Bool, true, false, not, ◌&&◌, ◌||◌, or-true, or-false}
use mathlib.Core.List.{List, [], ◌∷◌, ◌++◌, map, append-nil}
use Prim.Native.Nat.{ℕ, zero, suc, ◌+◌, ◌*◌, ◌-◌, ◌/◌, ◌%◌, ◌^◌, ◌≤◌, ◌<◌, min, max}
use native.Mathlib.Nat.{pow-suc, mod-lt, mod-eq_of_lt, one-mul}
use native.Mathlib.Numerals.{add-one, one-add}
use native.Mathlib.Omega.{arith}
use lib.ListN.{length, get_or, set, take, replicate, get_or-eq_default}
use lib.Seq.{take-nil, take_all, set_out}
use lib.Dec.{lit<, eqb}
use lib.Arith.{digits_mod, digits_div}
use lib.Pow.{shr-shr, pow-lt, mod-pow-add}
use lib.Bits.{bit_and, bit_or, and_step, or_step, or_zero_r, and_mask}
use Rattle.bits.specs.Masks.{flag, flags, pairwise, and_not}

-- a mask of k flags has k of them
pub length_flags : (k a : ℕ) → length (flags k a) ≡ k
unfolding flags
length_flags zero a = refl
length_flags (suc k) a = ap suc (length_flags k (a / 2))

-- the mask 0 has no flag
pub flags_zero : (k : ℕ) → flags k 0 ≡ replicate k false
unfolding flags
flags_zero zero = refl
flags_zero (suc k) = ap (λ (l : List Bool). false ∷ l) (flags_zero k)

-- one digit more, d below 2
pub digit : (k d n : ℕ) {a : ℕ} → d < 2 → a ≡ n * 2 + d → flags (suc k) a ≡ flag d ∷ flags k n
unfolding flags
digit k d n small e = ap₂ (λ (x y : ℕ). flag x ∷ flags k y) (ap (λ (x : ℕ). x % 2) e ∙ digits_mod n small) (ap (λ (x : ℕ). x / 2) e ∙ digits_div n small)

-- ---- an operation that goes by digits
module _ (op f : ℕ → ℕ → ℕ) (g : Bool → Bool → Bool) (by : (a b : ℕ) → op a b ≡ op (a / 2) (b / 2) * 2 + f (a % 2) (b % 2))
    (small : (d e : ℕ) → d < 2 → e < 2 → f d e < 2) (is : (d e : ℕ) → d < 2 → e < 2 → flag (f d e) ≡ g (flag d) (flag e)) where
  flags_op : (k a b : ℕ) → flags k (op a b) ≡ pairwise g (flags k a) (flags k b)
  unfolding flags pairwise
  flags_op zero a b = refl
  flags_op (suc k) a b =
      let da = mod-lt a {m = 2} (lit< tt) in
      let db = mod-lt b {m = 2} (lit< tt) in
      digit k (f (a % 2) (b % 2)) (op (a / 2) (b / 2)) (small (a % 2) (b % 2) da db) (by a b)
      ∙ ap₂ (λ (x : Bool) (l : List Bool). x ∷ l) (is (a % 2) (b % 2) da db) (flags_op k (a / 2) (b / 2))

-- what holds of 0 and 1 holds of a digit
two : (P : ℕ → Type 0) → P 0 → P 1 → (d : ℕ) → d < 2 → P d
two P p q zero h = p
two P p q (suc zero) h = q
two P p q (suc (suc d)) h = absurd (omega arith)

pub flags_or : (k a b : ℕ) → flags k (bit_or a b) ≡ pairwise ◌||◌ (flags k a) (flags k b)
flags_or =
    flags_op bit_or max ◌||◌ or_step (λ d e p q. omega arith)
    (λ d e p q. two (λ (d : ℕ). flag (max d e) ≡ (flag d || flag e)) (two (λ (e : ℕ). flag (max 0 e) ≡ flag e) refl refl e q) (two (λ (e : ℕ). flag (max 1 e) ≡ true) refl refl e q) d p)

pub flags_and : (k a b : ℕ) → flags k (bit_and a b) ≡ pairwise ◌&&◌ (flags k a) (flags k b)
flags_and =
    flags_op bit_and min ◌&&◌ and_step (λ d e p q. omega arith)
    (λ d e p q. two (λ (d : ℕ). flag (min d e) ≡ (flag d && flag e)) (two (λ (e : ℕ). flag (min 0 e) ≡ false) refl refl e q) (two (λ (e : ℕ). flag (min 1 e) ≡ flag e) refl refl e q) d p)

-- ---- the complement
flags_not : (k b : ℕ) → b < 2 ^ k → flags k (2 ^ k - 1 - b) ≡ map not (flags k b)
unfolding flags
flags_not zero b h = refl
flags_not (suc k) b h =
    let h' : b < 2 ^ k * 2 = rw pow-suc at h in
    let d = mod-lt b {m = 2} (lit< tt) in
    let e : 2 ^ k * 2 - 1 - b ≡ (2 ^ k - 1 - b / 2) * 2 + (1 - b % 2) = omega arith in
    digit k (1 - b % 2) (2 ^ k - 1 - b / 2) (omega arith) (ap (λ (p : ℕ). p - 1 - b) (pow-suc 2 k) ∙ e)
    ∙ ap₂ (λ (x : Bool) (l : List Bool). x ∷ l) (two (λ (d : ℕ). flag (1 - d) ≡ not (flag d)) refl refl (b % 2) d) (flags_not k (b / 2) (omega arith))

and_not_lem : (xs ys : List Bool) → pairwise ◌&&◌ xs (map not ys) ≡ pairwise and_not xs ys
unfolding pairwise
and_not_lem [] ys = refl
and_not_lem (x ∷ xs) [] = refl
and_not_lem (true ∷ xs) (true ∷ ys) = ap (λ (l : List Bool). false ∷ l) (and_not_lem xs ys)
and_not_lem (true ∷ xs) (false ∷ ys) = ap (λ (l : List Bool). true ∷ l) (and_not_lem xs ys)
and_not_lem (false ∷ xs) (true ∷ ys) = ap (λ (l : List Bool). false ∷ l) (and_not_lem xs ys)
and_not_lem (false ∷ xs) (false ∷ ys) = ap (λ (l : List Bool). false ∷ l) (and_not_lem xs ys)

-- the machine's `a & !b`
pub flags_and_not : (k a b : ℕ) → b < 2 ^ k → flags k (bit_and a (2 ^ k - 1 - b)) ≡ pairwise and_not (flags k a) (flags k b)
flags_and_not k a b h = flags_and k a (2 ^ k - 1 - b) ∙ ap (pairwise ◌&&◌ (flags k a)) (flags_not k b h) ∙ and_not_lem (flags k a) (flags k b)

-- ---- one bit
power : (k i : ℕ) → flags (suc k) (2 ^ suc i) ≡ false ∷ flags k (2 ^ i)
power k i = digit k 0 (2 ^ i) (lit< tt) (pow-suc 2 i ∙ omega arith)

or_none : (k a : ℕ) → pairwise ◌||◌ (flags k a) (flags k 0) ≡ flags k a
or_none k a = sym (flags_or k a 0) ∙ ap (flags k) (or_zero_r a)

and_not_none : (k a : ℕ) → pairwise and_not (flags k a) (flags k 0) ≡ flags k a
unfolding flags pairwise
and_not_none zero a = refl
and_not_none (suc k) a = ap (λ (l : List Bool). flag (a % 2) ∷ l) (and_not_none k (a / 2))

-- the flag of 2 ^ i joined to others
or_one : (k i a : ℕ) → i < k → pairwise ◌||◌ (flags k a) (flags k (2 ^ i)) ≡ set (flags k a) i true
unfolding flags pairwise
or_one zero i a h = absurd (omega arith)
or_one (suc k) zero a h = ap₂ (λ (x : Bool) (l : List Bool). x ∷ l) (or-true (flag (a % 2))) (or_none k (a / 2))
or_one (suc k) (suc i) a h =
    ap (pairwise ◌||◌ (flag (a % 2) ∷ flags k (a / 2))) (power k i)
    ∙ ap₂ (λ (x : Bool) (l : List Bool). x ∷ l) (or-false (flag (a % 2))) (or_one k i (a / 2) (omega arith))

-- and taken from them
and_not_one : (k i a : ℕ) → i < k → pairwise and_not (flags k a) (flags k (2 ^ i)) ≡ set (flags k a) i false
unfolding flags pairwise
and_not_one zero i a h = absurd (omega arith)
and_not_one (suc k) zero a h = ap (λ (l : List Bool). false ∷ l) (and_not_none k (a / 2))
and_not_one (suc k) (suc i) a h =
    ap (pairwise and_not (flag (a % 2) ∷ flags k (a / 2))) (power k i)
    ∙ ap (λ (l : List Bool). flag (a % 2) ∷ l) (and_not_one k i (a / 2) (omega arith))

pub one_shifted : (k i : ℕ) → i < k → 1 * 2 ^ i % 2 ^ k ≡ 2 ^ i
one_shifted k i h = rw one-mul (mod-eq_of_lt (pow-lt h))

-- `m | 1 << i`
pub flags_with : (k i a : ℕ) → i < k → flags k (bit_or a (1 * 2 ^ i % 2 ^ k)) ≡ set (flags k a) i true
flags_with k i a h = ap (λ (n : ℕ). flags k (bit_or a n)) (one_shifted k i h) ∙ flags_or k a (2 ^ i) ∙ or_one k i a h

-- `m & !(1 << i)`
pub flags_without : (k i a : ℕ) → i < k → flags k (bit_and a (2 ^ k - 1 - 1 * 2 ^ i % 2 ^ k)) ≡ set (flags k a) i false
flags_without k i a h = ap (λ (n : ℕ). flags k (bit_and a (2 ^ k - 1 - n))) (one_shifted k i h) ∙ flags_and_not k a (2 ^ i) (pow-lt h) ∙ and_not_one k i a h

flag_at : (k i a : ℕ) → i < k → flag (a / 2 ^ i % 2) ≡ get_or (flags k a) i false
unfolding flags
flag_at zero i a h = absurd (omega arith)
flag_at (suc k) zero a h = let e : a / 1 ≡ a = omega arith in ap (λ (n : ℕ). flag (n % 2)) e
flag_at (suc k) (suc i) a h = ap (λ (n : ℕ). flag (n % 2)) (ap (λ (j : ℕ). a / 2 ^ j) (sym (one-add i)) ∙ sym (shr-shr a 1 i)) ∙ flag_at k i (a / 2) (omega arith)

-- `(m >> i) & 1 == 1`
pub has_at : (k i a : ℕ) → i < k → eqb (bit_and (a / 2 ^ i) 1) 1 ≡ get_or (flags k a) i false
has_at k i a h =
    let d = a / 2 ^ i in
    ap (λ (n : ℕ). eqb n 1) (and_mask d 1) ∙ two (λ (n : ℕ). eqb n 1 ≡ flag n) refl refl (d % 2) (mod-lt d (lit< tt)) ∙ flag_at k i a h

-- the i lowest bits of a number
pub flags_low : (k i a : ℕ) → flags k (a % 2 ^ i) ≡ take i (flags k a) ++ replicate (k - i) false
unfolding flags
flags_low zero i a = let e : 0 - i ≡ 0 = omega arith in rw (e, take-nil i)
flags_low (suc k) zero a =
    let e : a % 1 ≡ 0 = omega arith in
    let all : suc k ≡ suc k - 0 = omega arith in
    ap (flags (suc k)) e ∙ flags_zero (suc k) ∙ ap (λ (n : ℕ). replicate n false) all
flags_low (suc k) (suc i) a =
    digit k (a % 2) (a / 2 % 2 ^ i) (mod-lt a (lit< tt)) (ap (λ (n : ℕ). a % 2 ^ n) (sym (add-one i)) ∙ mod-pow-add a i 1)
    ∙ ap (λ (l : List Bool). flag (a % 2) ∷ l) (flags_low k i (a / 2) ∙ ap (λ (n : ℕ). take i (flags k (a / 2)) ++ replicate n false) (rest k i))
  where
    rest : (k i : ℕ) → k - i ≡ suc k - suc i
    rest k i = omega arith

-- `m & ((1 << i) - 1)`
pub flags_below : (k i a : ℕ) → i < k → flags k (bit_and a (1 * 2 ^ i % 2 ^ k - 1)) ≡ take i (flags k a) ++ replicate (k - i) false
flags_below k i a h = ap (λ (n : ℕ). flags k (bit_and a (n - 1))) (one_shifted k i h) ∙ ap (flags k) (and_mask a i) ∙ flags_low k i a

-- ---- a place past the flags
module _ (k i a : ℕ) (past : k ≤ i) where
  outside : length (flags k a) ≤ i
  outside = rw length_flags past

  pub has_past : false ≡ get_or (flags k a) i false
  has_past = sym (get_or-eq_default (flags k a) false outside)

  pub set_past : (x : Bool) → flags k a ≡ set (flags k a) i x
  set_past x = sym (set_out (flags k a) i x outside)

  pub below_past : flags k a ≡ take i (flags k a) ++ replicate (k - i) false
  below_past =
      let e : 0 ≡ k - i = omega arith in
      sym (append-nil (flags k a)) ∙ ap₂ (λ (l : List Bool) (n : ℕ). l ++ replicate n false) (sym (take_all i (flags k a) outside)) e
