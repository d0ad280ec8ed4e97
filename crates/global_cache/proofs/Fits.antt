-- The form of a slot, of a goal's slots and of the cache.
use mathlib.Core.Path.{◌≡◌, refl, sym, ap, ap₂, ◌∙◌}
use mathlib.Core.Bool.{Bool, true, false, So, ◌&&◌, ◌||◌, and-false}
use mathlib.Core.List.{List, [], ◌∷◌}
use Prim.Native.Nat.{ℕ, zero, suc, ◌+◌, ◌*◌, ◌-◌, ◌^◌, ◌≤◌, ◌<◌}
use native.Mathlib.Nat.{add-mul}
use native.Mathlib.Decide.{ℕ_discrete}
use native.Mathlib.Numerals.{add-one}
use native.Mathlib.Omega.{arith}
use borrow.Author.Tests.{lt-leb, ne_eqb}
use lib.Dec.{leb, eqb}
use lib.ListN.{length, get_or, take, drop}
use Rattle.buffer.specs.Regions.{region, all_zero}
use Rattle.buffer.proofs.Regions.{region_region}
use Rattle.buffer.proofs.Tables.{apart}
use Rattle.buffer.proofs.Zeros.{zero_split, zero_region}
use Rattle.definition.specs.declared.format.Header.{Header}
use Rattle.definition.specs.CacheForm.{all_at_most, depth_fits, passes_fit, slot_fits, slots_fit, goals_fit}
use Rattle.definition.specs.GlobalCache.{slot_size, slots_per_goal, slot_start, slot_at}
use Rattle.definition.proofs.Lists.{part_from_lem}
use Rattle.global_cache.specs.Cache.{overflow_slots}
use Rattle.global_cache.proofs.Slots.{slot_room}

-- ---- bytes that are all zeros
none_below : (n : ℕ) → eqb n 0 ≡ leb n 0
none_below zero = refl
none_below (suc n) = ne_eqb (suc n) 0 (λ e. omega arith) ∙ sym (lt-leb (suc n) 0 (omega arith))

at_most_zero : (s : List ℕ) → all_at_most 0 s ≡ all_zero s
at_most_zero [] = refl
at_most_zero (x ∷ xs) = ap₂ ◌&&◌ (sym (none_below x)) (at_most_zero xs)

-- ---- `slot_fits`
abbrev or_held : Header → ℕ → List ℕ → Bool → Bool
or_held h k s t =
    t
    || (eqb (get_or s 0 0) 1 && leb (get_or s 1 0) 3 && depth_fits h k (get_or s 2 0) && passes_fit h (get_or s 3 0) && all_at_most 31 (drop 4 s))

-- a slot of zeros is vacant
zeros_fit : (h : Header) (k : ℕ) (s : List ℕ) → all_at_most 0 s ≡ true → true ≡ slot_fits h k s
zeros_fit h k s e = sym (ap (or_held h k s) e)

-- the tests one after the other; n tells the bounds of the nested goals, and t whether all bytes are zeros
module _ (h : Header) (k : ℕ) (s : List ℕ) (n : ℕ) (tells : (j : ℕ) → leb n (2 ^ j - 1) ≡ all_at_most (2 ^ j - 1) (drop 4 s))
    (zeros : Bool) (is-zeros : zeros ≡ (all_at_most 0 (take 4 s) && eqb n 0)) where
  abbrev depth : Bool
  depth = depth_fits h k (get_or s 2 0)

  abbrev passes : Bool
  passes = passes_fit h (get_or s 3 0)

  all_zeros : all_at_most 0 s ≡ zeros
  all_zeros =
      at_most_zero s
      ∙ sym (is-zeros ∙ ap₂ ◌&&◌ (at_most_zero (take 4 s)) (none_below n ∙ tells 0 ∙ at_most_zero (drop 4 s)) ∙ zero_split 4 s)

  pub vacant : zeros ≡ true → true ≡ slot_fits h k s
  vacant e = zeros_fit h k s (all_zeros ∙ e)

  pub held : zeros ≡ false → (eqb (get_or s 0 0) 1 && leb (get_or s 1 0) 3 && depth && passes && leb n 31) ≡ slot_fits h k s
  held some =
      ap (λ (t : Bool). eqb (get_or s 0 0) 1 && leb (get_or s 1 0) 3 && depth && passes && t) (tells 5)
      ∙ sym (ap (or_held h k s) (all_zeros ∙ some))

-- the flags of the part `[4..]`
pub part_tells : (s : List ℕ) (n : ℕ) → ((j : ℕ) → leb n (2 ^ j - 1) ≡ all_at_most (2 ^ j - 1) (take (length s - 4) (drop 4 s)))
    → (j : ℕ) → leb n (2 ^ j - 1) ≡ all_at_most (2 ^ j - 1) (drop 4 s)
part_tells s n e j = e j ∙ ap (all_at_most (2 ^ j - 1)) (part_from_lem 4 s)

-- ---- a test of all numbers below one
module _ (f all : ℕ → Bool) (step : (k : ℕ) → all (suc k) ≡ (f k && all k)) where
  -- one more passes
  pub all_more : (k : ℕ) → true ≡ all k → f k ≡ true → true ≡ all (k + 1)
  all_more k a e = sym (ap all (add-one k) ∙ step k ∙ ap₂ ◌&&◌ e (sym a))

  -- one fails
  pub all_fails : (n k : ℕ) → k < n → f k ≡ false → false ≡ all n
  all_fails zero k h e = absurd (omega arith)
  all_fails (suc n) k h e =
      elim (ℕ_discrete k n) [
        | yes same ↦ sym (step n ∙ ap (λ (t : Bool). t && all n) (ap f (sym same) ∙ e))
        | no other ↦ sym (step n ∙ ap (λ (t : Bool). f n && t) (sym (all_fails n k (omega arith) e)) ∙ and-false (f n))
      ]

-- ---- `slots_fit`, whose test of a slot's bytes s came to t
module _ (h : Header) (cache : List ℕ) (goal slot : ℕ) (s : List ℕ) (t : Bool) (is-slot : s ≡ slot_at h cache goal slot) (told : t ≡ slot_fits h slot s) where
  tested : slot_fits h slot (slot_at h cache goal slot) ≡ t
  tested = sym (told ∙ ap (slot_fits h slot) is-slot)

  pub slots_fail : (n : ℕ) → slot < n → t ≡ false → false ≡ slots_fit h cache goal n
  slots_fail n lt e = all_fails (λ k. slot_fits h k (slot_at h cache goal k)) (slots_fit h cache goal) (λ k. refl) n slot lt (tested ∙ e)

  pub slots_more : true ≡ slots_fit h cache goal slot → t ≡ true → true ≡ slots_fit h cache goal (slot + 1)
  slots_more a e = all_more (λ k. slot_fits h k (slot_at h cache goal k)) (slots_fit h cache goal) (λ k. refl) slot a (tested ∙ e)

-- a row of overflow slots whose test for zeros came to t
module _ (h : Header) (cache : List ℕ) (goal : ℕ) (row : List ℕ) (t : Bool) (is_row : row ≡ overflow_slots h cache goal) (told : t ≡ all_zero row)
    (zeros : t ≡ true) where
  -- each is all zeros
  row_zero : (k : ℕ) → k < h.top + 1 → So (all_zero (slot_at h cache goal (suc k)))
  row_zero k l =
      let size : ℕ = slot_size h in
      let place : goal * slots_per_goal h + 1 + k ≡ goal * slots_per_goal h + suc k = omega arith in
      let e : slot_start h goal 1 + k * size ≡ slot_start h goal (suc k) = sym (add-mul (goal * slots_per_goal h + 1) k size) ∙ ap (λ (n : ℕ). n * size) place in
      sym (ap all_zero
      (region_region (slot_start h goal 1) ((h.top + 1) * size) (k * size) size cache (apart k (h.top + 1) size l)
      ∙ ap (λ (a : ℕ). region a size cache) e))
      ∙ zero_region (k * size) size (overflow_slots h cache goal) (ap all_zero (sym is_row) ∙ sym told ∙ zeros)

  row_fit : true ≡ slots_fit h cache goal 1 → (k : ℕ) → k ≤ h.top + 1 → true ≡ slots_fit h cache goal (suc k)
  row_fit a zero l = a
  row_fit a (suc k) l =
      let s : List ℕ = slot_at h cache goal (suc k) in
      ap₂ ◌&&◌ (zeros_fit h (suc k) s (at_most_zero s ∙ row_zero k (omega arith))) (row_fit a k (omega arith))

  pub slots_vacant : true ≡ slots_fit h cache goal 1 → true ≡ slots_fit h cache goal (slots_per_goal h)
  slots_vacant a =
      let e : suc (h.top + 1) ≡ h.top + 2 = omega arith in
      row_fit a (h.top + 1) (omega arith) ∙ ap (slots_fit h cache goal) e

-- ---- `cache_fits`, whose test of a goal's slots came to t
module _ (h : Header) (cache : List ℕ) (goal : ℕ) (t : Bool) (told : t ≡ slots_fit h cache goal (slots_per_goal h)) where
  pub goals_fail : (n : ℕ) → goal < n → t ≡ false → false ≡ goals_fit h cache n
  goals_fail n lt e = all_fails (λ k. slots_fit h cache k (slots_per_goal h)) (goals_fit h cache) (λ k. refl) n goal lt (sym told ∙ e)

  pub goals_more : true ≡ goals_fit h cache goal → t ≡ true → true ≡ goals_fit h cache (goal + 1)
  goals_more a e = all_more (λ k. slots_fit h cache k (slots_per_goal h)) (goals_fit h cache) (λ k. refl) goal a (sym told ∙ e)

pub ruleset by_slot = (slots_fail, slots_more, slots_vacant, slot_room)

pub ruleset by_goal = (goals_fail, goals_more)
