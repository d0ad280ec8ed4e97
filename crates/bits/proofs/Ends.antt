-- The lowest and the highest bit of a mask as places, and the loop over the bits.
use mathlib.Core.Path.{◌≡◌, refl, sym, ap, ap₂, ◌∙◌}
use mathlib.Core.Bool.{Bool, true, false}
use mathlib.Core.List.{List, [], ◌∷◌, ◌++◌}
use mathlib.Core.Option.{Option, none, some, some-injective, none-ne-some}
use Prim.Native.Nat.{ℕ, zero, suc, ◌+◌, ◌*◌, ◌-◌, ◌/◌, ◌%◌, ◌^◌, ◌≤◌, ◌<◌, min}
use native.Mathlib.Nat.{pow-suc}
use native.Mathlib.Omega.{arith}
use native.Mathlib.Decide.{dec_lt}
use lib.ListN.{get_or, set, replicate}
use lib.Dec.{lit<}
use lib.Pow.{pow_mono, pow_pos}
use lib.Bits.{bit_and, bit_or, and_step, and_self, and_le_r, or_lt, or_add_and}
use lib.Count.{count_trailing_zeros, count_leading_zeros, under, leading_top}
use Rattle.bits.specs.Masks.{flag, flags, first_place, last_place, next_place, place_or}
use Rattle.bits.proofs.Flags.{flags_zero, digit}

-- ---- no flag
pub first_none : (k : ℕ) → first_place (replicate k false) ≡ none
unfolding first_place
first_none zero = refl
first_none (suc k) = ap next_place (first_none k)

pub last_none : (k : ℕ) → last_place (replicate k false) ≡ none
unfolding last_place
last_none zero = refl
last_none (suc k) = ap next_place (last_none k)

last_zero : (k : ℕ) → last_place (flags k 0) ≡ none
last_zero k = ap last_place (flags_zero k) ∙ last_none k

-- ---- flags that are not set, past the others, change nothing
pub first_more : (xs : List Bool) (n : ℕ) → first_place (xs ++ replicate n false) ≡ first_place xs
unfolding first_place
first_more [] n = first_none n
first_more (true ∷ xs) n = refl
first_more (false ∷ xs) n = ap next_place (first_more xs n)

pub last_more : (xs : List Bool) (n : ℕ) → last_place (xs ++ replicate n false) ≡ last_place xs
unfolding last_place
last_more [] n = last_none n
last_more (true ∷ xs) n = ap (λ (o : Option ℕ). elim o [ none ↦ some 0 | some i ↦ some (suc i) ]) (last_more xs n)
last_more (false ∷ xs) n = ap next_place (last_more xs n)

-- ---- the lowest
step_place : (k : ℕ) (o : Option ℕ) → suc (place_or k o) ≡ place_or (suc k) (next_place o)
step_place k none = refl
step_place k (some i) = refl

-- trailing zeros lead to the lowest place
pub trailing : (k a : ℕ) → count_trailing_zeros k a ≡ place_or k (first_place (flags k a))
unfolding count_trailing_zeros flags first_place
trailing zero a = refl
trailing (suc k) a = go (a % 2) (trailing k (a / 2))
  where
    go : (d : ℕ) → count_trailing_zeros k (a / 2) ≡ place_or k (first_place (flags k (a / 2))) → under d (count_trailing_zeros k (a / 2)) ≡ place_or (suc k) (first_place (flag d ∷ flags k (a / 2)))
    go zero ih = ap suc ih ∙ step_place k (first_place (flags k (a / 2)))
    go (suc d) ih = refl

-- a number that is not 0 has a lowest place
pub first_some : (k a : ℕ) → 0 < a → a < 2 ^ k → (i : ℕ) × (first_place (flags k a) ≡ some i) × (i < k)
unfolding flags first_place
first_some zero a p h = absurd (omega arith)
first_some (suc k) a p h = go (first_some k (a / 2)) (a % 2) refl
  where
    small : a < 2 ^ k * 2
    small = rw pow-suc at h

    go : (0 < a / 2 → a / 2 < 2 ^ k → (i : ℕ) × (first_place (flags k (a / 2)) ≡ some i) × (i < k)) → (d : ℕ) → a % 2 ≡ d → (i : ℕ) × (first_place (flag d ∷ flags k (a / 2)) ≡ some i) × (i < suc k)
    go ih zero e = let r = ih (omega arith) (omega (arith, small)) in (suc r.0, ap next_place r.1, omega (arith, r.2))
    go ih (suc d) e = (0, refl, omega arith)

-- ---- the highest
-- the last place of a number between two powers
last_top : (k j a : ℕ) → j < k → 2 ^ j ≤ a → a < 2 ^ suc j → last_place (flags k a) ≡ some j
unfolding flags last_place
last_top zero j a h lo hi = absurd (omega arith)
last_top (suc k) zero a h lo hi =
    let e : a ≡ 1 = omega arith in
    rw e (ap (λ (o : Option ℕ). elim o [ none ↦ some 0 | some i ↦ some (suc i) ]) (last_zero k))
last_top (suc k) (suc j) a h lo hi =
    let lo' : 2 ^ j * 2 ≤ a = rw pow-suc at lo in
    let hi' : a < 2 ^ suc j * 2 = rw (pow-suc 2 (suc j)) at hi in
    go (flag (a % 2)) (last_top k j (a / 2) (omega arith) (omega arith) (omega arith))
  where
    go : (x : Bool) → last_place (flags k (a / 2)) ≡ some j → last_place (x ∷ flags k (a / 2)) ≡ some (suc j)
    go true ih = rw (ih, last_place)
    go false ih = rw (ih, last_place)

-- a number that is not 0 has a highest place
pub last_some : (k a : ℕ) → 0 < a → a < 2 ^ k → (j : ℕ) × (last_place (flags k a) ≡ some j) × (j < k)
last_some k a p h = let t = leading_top k a p h in (t.0, last_top k t.0 a (omega (arith, t.1)) t.2 t.3, omega (arith, t.1))

-- a join with 1 stands between the same powers
same_top : (j a : ℕ) → 0 < a → 2 ^ j ≤ bit_or a 1 → bit_or a 1 < 2 ^ suc j → (2 ^ j ≤ a) × (a < 2 ^ suc j)
same_top zero a p lo hi = (omega arith, omega (arith, or_add_and a 1, and_le_r a 1))
same_top (suc j) a p lo hi = (
  elim (dec_lt a (2 ^ suc j)) [ yes l ↦ absurd (omega (arith, or_lt (suc j) a 1 l (omega (arith, pow-suc 2 j, pow_pos j)))) | no g ↦ omega arith ],
  omega (arith, or_add_and a 1, and_le_r a 1),
)

one_top : (j : ℕ) → 2 ^ j ≤ 1 → j ≡ 0
one_top zero h = refl
one_top (suc j) h = absurd (omega (arith, pow-suc 2 j, pow_pos j))

-- leading zeros of a join with 1 lead to the highest place, or to 0
pub leading : (k a : ℕ) → 0 < k → a < 2 ^ k → count_leading_zeros k (bit_or a 1) + suc (place_or 0 (last_place (flags k a))) ≡ k
leading k zero pos h =
    let t = leading_top k 1 (lit< tt) (omega (arith, pow_mono pos)) in
    let z = one_top t.0 t.2 in
    rw (last_zero k) (sym (ap (λ (j : ℕ). count_leading_zeros k 1 + suc j) z) ∙ t.1)
leading k (suc n) pos h =
    let a : ℕ = suc n in
    let t = leading_top k (bit_or a 1) (omega (arith, or_add_and a 1, and_le_r a 1)) (or_lt k a 1 h (omega (arith, pow_mono pos))) in
    let s = same_top t.0 a (omega arith) t.2 t.3 in
    rw (last_top k t.0 a (omega (arith, t.1)) s.0 s.1) t.1

-- ---- the loop over the bits: the lowest is handled and cleared
-- `m & (m - 1)` clears the lowest place
pub flags_clear : (k a : ℕ) → 0 < a → flags k (bit_and a (a - 1)) ≡ set (flags k a) (place_or k (first_place (flags k a))) false
unfolding flags first_place
flags_clear zero a p = refl
flags_clear (suc k) a p = go (flags_clear k (a / 2)) (a % 2) refl
  where
    cleared : (h d : ℕ) → (a - 1) / 2 ≡ h → min (a % 2) ((a - 1) % 2) ≡ 0 → bit_and a (a - 1) ≡ bit_and (a / 2) h * 2 + 0
    cleared h d e f = and_step a (a - 1) ∙ ap₂ (λ (x y : ℕ). bit_and (a / 2) x * 2 + y) e f

    go : (0 < a / 2 → flags k (bit_and (a / 2) (a / 2 - 1)) ≡ set (flags k (a / 2)) (place_or k (first_place (flags k (a / 2)))) false) → (d : ℕ) → a % 2 ≡ d
        → flags (suc k) (bit_and a (a - 1)) ≡ set (flag d ∷ flags k (a / 2)) (place_or (suc k) (first_place (flag d ∷ flags k (a / 2)))) false
    go ih zero e =
        digit k 0 (bit_and (a / 2) (a / 2 - 1)) (lit< tt) (cleared (a / 2 - 1) 0 (omega arith) (omega arith))
        ∙ ap (λ (l : List Bool). false ∷ l) (ih (omega arith))
        ∙ ap (λ (i : ℕ). set (false ∷ flags k (a / 2)) i false) (step_place k (first_place (flags k (a / 2))))
    go ih (suc d) e = digit k 0 (a / 2) (lit< tt) (cleared (a / 2) 0 (omega arith) (omega arith) ∙ ap (λ (x : ℕ). x * 2 + 0) (and_self (a / 2)))

-- and is smaller
pub clear_less : (a : ℕ) → 0 < a → bit_and a (a - 1) < a
clear_less a p = omega (arith, and_le_r a (a - 1))

next_some : (o : Option ℕ) (j : ℕ) → next_place o ≡ some j → (i : ℕ) × (o ≡ some i) × (suc i ≡ j)
next_some none j e = absurd (none-ne-some j e)
next_some (some i) j e = (i, refl, some-injective (suc i) j e)

-- the first place is set
pub first_set : (xs : List Bool) (j : ℕ) → first_place xs ≡ some j → get_or xs j false ≡ true
unfolding first_place
first_set [] j e = absurd (none-ne-some j e)
first_set (true ∷ xs) j e = sym (ap (λ (k : ℕ). get_or (true ∷ xs) k false) (some-injective 0 j e))
first_set (false ∷ xs) j e =
    let n = next_some (first_place xs) j e in
    sym (ap (λ (k : ℕ). get_or (false ∷ xs) k false) n.2) ∙ first_set xs n.0 n.1
