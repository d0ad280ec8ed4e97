-- Masks of goals: what they have in common, one goal more, and loops that add goals.
use mathlib.Core.Path.{◌≡◌, refl, sym, ap, ◌∙◌}
use mathlib.Core.Bool.{Bool, true, false, not, ◌&&◌, ◌||◌, or_assoc, or-false, or-true, and-true, and-false}
use mathlib.Core.List.{List, [], ◌∷◌}
use Prim.Native.Nat.{ℕ, zero, suc, ◌+◌, ◌*◌, ◌/◌, ◌%◌, ◌^◌, ◌≤◌, ◌<◌}
use native.Mathlib.Nat.{pow-suc}
use native.Mathlib.Decide.{ℕ_discrete, dec_lt}
use native.Mathlib.Omega.{arith}
use lib.Bits.{bit_and, and_le_r}
use lib.Dec.{eqb, ltb}
use lib.ListN.{length, get_or, set, replicate}
use lib.Seq.{get_or-set_same, get_or-set_other}
use borrow.Author.Tests.{eq-eqb, ne_eqb, lt-ltb, le-ltb}
use Rattle.bits.specs.Masks.{flag, flags, pairwise}
use Rattle.bits.proofs.Flags.{length_flags, flags_zero, flags_and, has_past}
use Rattle.bits.proofs.Marks.{only}
use Rattle.soundness.specs.Sets.{Goals}
use Rattle.guarantee.specs.Engine.{in_mask, some_set, meets}

-- ---- what two masks have in common
some_flags : (k a : ℕ) → a < 2 ^ k → some_set (flags k a) ≡ not (eqb a 0)
unfolding some_set flags
some_flags zero a h = let z : a ≡ 0 = omega arith in rw z
some_flags (suc k) a h =
    let h' : a < 2 ^ k * 2 = rw pow-suc at h in
    go (a % 2) refl (some_flags k (a / 2) (omega arith))
  where
    go : (d : ℕ) → a % 2 ≡ d → some_set (flags k (a / 2)) ≡ not (eqb (a / 2) 0)
        → (flag d || some_set (flags k (a / 2))) ≡ not (eqb a 0)
    go (suc d) e ih = sym (ap not (ne_eqb a 0 (λ z. omega arith)))
    go zero e ih = ih ∙ ap not (same (ℕ_discrete a 0))
      where
        same : Dec (a ≡ 0) → eqb (a / 2) 0 ≡ eqb a 0
        same (yes z) = let y : a / 2 ≡ 0 = omega arith in rw (eq-eqb (a / 2) 0 y, eq-eqb a 0 z)
        same (no n) = rw (ne_eqb (a / 2) 0 (λ z. n (omega arith)), ne_eqb a 0 n)

-- `m & n != 0`
pub meets_and : (m n : ℕ) → n < 2 ^ 64 → not (eqb (bit_and m n) 0) ≡ meets m n
meets_and m n h = sym (some_flags 64 (bit_and m n) (omega (arith, and_le_r m n))) ∙ ap some_set (flags_and 64 m n)

none_common : (k : ℕ) (ys : List Bool) → some_set (pairwise ◌&&◌ (replicate k false) ys) ≡ false
unfolding some_set pairwise
none_common zero ys = refl
none_common (suc k) [] = refl
none_common (suc k) (y ∷ ys) = none_common k ys

pub meets_none : (m : ℕ) → meets 0 m ≡ false
meets_none m =
    ap (λ (xs : List Bool). some_set (pairwise ◌&&◌ xs (flags 64 m))) (flags_zero 64) ∙ none_common 64 (flags 64 m)

one_common : (j : ℕ) (xs ys : List Bool) → length xs ≡ length ys
    → some_set (pairwise ◌&&◌ (set xs j true) ys) ≡ (some_set (pairwise ◌&&◌ xs ys) || get_or ys j false)
unfolding some_set pairwise
one_common j [] [] e = refl
one_common j [] (y ∷ ys) e = let z : ◌≡◌ {A = ℕ} 0 1 = omega arith in absurd (omega arith)
one_common j (x ∷ xs) [] e = let z : ◌≡◌ {A = ℕ} 0 1 = omega arith in absurd (omega arith)
one_common zero (x ∷ xs) (y ∷ ys) e = by x y (some_set (pairwise ◌&&◌ xs ys))
  where
    by : (x y s : Bool) → (y || s) ≡ ((x && y || s) || y)
    by true true s = refl
    by true false true = refl
    by true false false = refl
    by false true true = refl
    by false true false = refl
    by false false true = refl
    by false false false = refl
one_common (suc j) (x ∷ xs) (y ∷ ys) e =
    ap (λ (t : Bool). x && y || t) (one_common j xs ys (omega arith))
    ∙ sym (or_assoc (x && y) (some_set (pairwise ◌&&◌ xs ys)) (get_or ys j false))

-- a goal more in the first
pub meets_with : (m' m n j : ℕ) → flags 64 m' ≡ set (flags 64 m) j true → meets m' n ≡ (meets m n || in_mask n j)
meets_with m' m n j e =
    ap (λ (xs : List Bool). some_set (pairwise ◌&&◌ xs (flags 64 n))) e
    ∙ one_common j (flags 64 m) (flags 64 n) (length_flags 64 m ∙ sym (length_flags 64 n))

-- ---- the goals of a mask
pub mask_none : (k : ℕ) → in_mask 0 k ≡ false
mask_none k = ap (λ (xs : List Bool). get_or xs k false) (flags_zero 64) ∙ only false 64 k

pub mask_past : (m k : ℕ) → 64 ≤ k → in_mask m k ≡ false
mask_past m k h = sym (has_past 64 k m h)

-- one more
pub mask_with : (m' m i : ℕ) → i < 64 → flags 64 m' ≡ set (flags 64 m) i true → (k : ℕ)
    → in_mask m' k ≡ (in_mask m k || (eqb k i && true))
mask_with m' m i h e k = ap (λ (xs : List Bool). get_or xs k false) e ∙ go (ℕ_discrete k i)
  where
    long : i < length (flags 64 m)
    long = rw length_flags h

    go : Dec (k ≡ i) → get_or (set (flags 64 m) i true) k false ≡ (in_mask m k || (eqb k i && true))
    go (yes z) =
        ap (λ (j : ℕ). get_or (set (flags 64 m) i true) j false) z ∙ get_or-set_same (flags 64 m) i true false long
        ∙ sym (ap (λ (t : Bool). in_mask m k || (t && true)) (eq-eqb k i z) ∙ or-true (in_mask m k))
    go (no n) =
        get_or-set_other (flags 64 m) i k true false n
        ∙ sym (ap (λ (t : Bool). in_mask m k || (t && true)) (ne_eqb k i n) ∙ or-false (in_mask m k))

-- ---- a loop over the goals, which adds those that pass a test
abbrev pub Upto : Goals → Goals → ℕ → ℕ → Type 0
Upto start p i m = (k : ℕ) → in_mask m k ≡ (start k || (ltb k i && p k))

module _ (start p : Goals) where
  pub upto_none : (m : ℕ) → ((k : ℕ) → in_mask m k ≡ start k) → Upto start p 0 m
  upto_none m h k = h k ∙ sym (ap (λ (t : Bool). start k || (t && p k)) (le-ltb k 0 (omega arith)) ∙ or-false (start k))

  upto_more : (m m' i : ℕ) (yes : Bool) → Upto start p i m → p i ≡ yes
      → ((k : ℕ) → in_mask m' k ≡ (in_mask m k || (eqb k i && yes))) → Upto start p (i + 1) m'
  upto_more m m' i t inv is step k = step k ∙ ap (λ (x : Bool). x || (eqb k i && t)) (inv k) ∙ go (ℕ_discrete k i)
    where
      go : Dec (k ≡ i) → ((start k || (ltb k i && p k)) || (eqb k i && t)) ≡ (start k || (ltb k (i + 1) && p k))
      go (yes z) =
          let a : ltb k i ≡ false = le-ltb k i (omega arith) in
          let b : ltb k (i + 1) ≡ true = lt-ltb k (i + 1) (omega arith) in
          let c : p k ≡ t = ap p z ∙ is in
          rw (a, b, c, eq-eqb k i z, or-false)
      go (no n) =
          let c : eqb k i ≡ false = ne_eqb k i n in
          rw (c, or-false) (ap (λ (x : Bool). start k || (x && p k)) (same (dec_lt k i)))
        where
          same : Dec (k < i) → ltb k i ≡ ltb k (i + 1)
          same (yes l) = lt-ltb k i l ∙ sym (lt-ltb k (i + 1) (omega arith))
          same (no l) = le-ltb k i (omega arith) ∙ sym (le-ltb k (i + 1) (omega arith))

  pub upto_with : (m m' i : ℕ) → Upto start p i m → p i ≡ true → i < 64 → flags 64 m' ≡ set (flags 64 m) i true
      → Upto start p (i + 1) m'
  upto_with m m' i inv is l e = upto_more m m' i true inv is (mask_with m' m i l e)

  pub upto_still : (m m' i : ℕ) → Upto start p i m → p i ≡ false → m' ≡ m → Upto start p (i + 1) m'
  upto_still m m' i inv is e = upto_more m m' i false inv is λ k.
      ap (λ (n : ℕ). in_mask n k) e ∙ sym (ap (λ (t : Bool). in_mask m k || t) (and-false (eqb k i)) ∙ or-false (in_mask m k))

  -- after the last
  pub upto_all : (m i : ℕ) → 64 ≤ i → Upto start p i m → (k : ℕ) → k < 64 → in_mask m k ≡ (start k || p k)
  upto_all m i h inv k l = inv k ∙ ap (λ (t : Bool). start k || (t && p k)) (lt-ltb k i (omega arith))

-- one goal only
pub mask_one : (m goal : ℕ) → goal < 64 → flags 64 m ≡ set (flags 64 0) goal true → (k : ℕ) → in_mask m k ≡ eqb k goal
mask_one m goal h e k =
    mask_with m 0 goal h e k ∙ ap (λ (x : Bool). x || (eqb k goal && true)) (mask_none k) ∙ and-true (eqb k goal)
