-- Loops over the bits of a mask: what stands at the places that are left.
use mathlib.Core.Path.{◌≡◌, refl, sym, ap, ◌∙◌}
use mathlib.Core.Bool.{Bool, true, false, false≢true}
use mathlib.Core.List.{List, [], ◌∷◌}
use Prim.Native.Nat.{ℕ, zero, suc, ◌^◌, ◌≤◌, ◌<◌}
use native.Mathlib.Omega.{arith}
use lib.ListN.{get_or, set, replicate}
use Rattle.bits.specs.Masks.{flags, first_place, place_or}
use Rattle.bits.proofs.Flags.{flags_zero}
use Rattle.bits.proofs.Ends.{first_some, first_set}

-- a flag that is still set was set
still_set : (xs : List Bool) (i j : ℕ) → get_or (set xs i false) j false ≡ true → get_or xs j false ≡ true
still_set [] i j e = e
still_set (x ∷ xs) zero zero e = absurd (false≢true e)
still_set (x ∷ xs) zero (suc j) e = e
still_set (x ∷ xs) (suc i) zero e = e
still_set (x ∷ xs) (suc i) (suc j) e = still_set xs i j e

-- a list of d only
pub only : {A : Type 0} (d : A) (n j : ℕ) → get_or (replicate n d) j d ≡ d
only d zero j = refl
only d (suc n) zero = refl
only d (suc n) (suc j) = only d n j

module _ {A : Type 0} (d : A) where
  -- d where it was written
  pub set_only : (ys : List A) (j : ℕ) → get_or (set ys j d) j d ≡ d
  set_only [] j = refl
  set_only (y ∷ ys) zero = refl
  set_only (y ∷ ys) (suc j) = set_only ys j

  -- what has its flag set; d for the others
  abbrev pub keep : List Bool → List A → List A
  keep [] ys = []
  keep (x ∷ xs) [] = []
  keep (true ∷ xs) (y ∷ ys) = y ∷ keep xs ys
  keep (false ∷ xs) (y ∷ ys) = d ∷ keep xs ys

  pub keep_nil : (xs : List Bool) → keep xs [] ≡ []
  keep_nil [] = refl
  keep_nil (x ∷ xs) = refl

  pub keep_get : (xs : List Bool) (ys : List A) (j : ℕ) → get_or (keep xs ys) j d ≡ elim (get_or xs j false) [ true ↦ get_or ys j d | false ↦ d ]
  keep_get [] ys j = refl
  keep_get (x ∷ xs) [] j = none (get_or (x ∷ xs) j false)
    where
      none : (t : Bool) → d ≡ elim t [ true ↦ d | false ↦ d ]
      none true = refl
      none false = refl
  keep_get (true ∷ xs) (y ∷ ys) zero = refl
  keep_get (false ∷ xs) (y ∷ ys) zero = refl
  keep_get (true ∷ xs) (y ∷ ys) (suc j) = keep_get xs ys j
  keep_get (false ∷ xs) (y ∷ ys) (suc j) = keep_get xs ys j

  keep_set : (xs : List Bool) (ys : List A) (j : ℕ) → keep (set xs j false) ys ≡ set (keep xs ys) j d
  keep_set [] ys j = refl
  keep_set (x ∷ xs) [] zero = refl
  keep_set (x ∷ xs) [] (suc j) = refl
  keep_set (true ∷ xs) (y ∷ ys) zero = refl
  keep_set (false ∷ xs) (y ∷ ys) zero = refl
  keep_set (true ∷ xs) (y ∷ ys) (suc j) = ap (λ (l : List A). y ∷ l) (keep_set xs ys j)
  keep_set (false ∷ xs) (y ∷ ys) (suc j) = ap (λ (l : List A). d ∷ l) (keep_set xs ys j)

  -- ---- after the last turn
  pub none_left : (left : ℕ) → left ≤ 0 → (ys : List A) (j : ℕ) → get_or (keep (flags 64 left) ys) j d ≡ d
  none_left left h ys j =
      let z : left ≡ 0 = omega arith in
      keep_get (flags 64 left) ys j
      ∙ ap (λ (t : Bool). elim t [ true ↦ get_or ys j d | false ↦ d ]) (ap (λ (xs : List Bool). get_or xs j false) (ap (flags 64) z ∙ flags_zero 64) ∙ only false 64 j)

-- ---- a turn, at index i
module _ (left i : ℕ) (pos : 0 < left) (small : left < 2 ^ 64) (is : i ≡ place_or 64 (first_place (flags 64 left))) where
  pub turn_set : get_or (flags 64 left) i false ≡ true
  turn_set =
      let s = first_some 64 left pos small in
      ap (λ (k : ℕ). get_or (flags 64 left) k false) (is ∙ ap (place_or 64) s.1) ∙ first_set (flags 64 left) s.0 s.1

  pub turn_at : {A : Type 0} (d : A) (ys : List A) → get_or (keep d (flags 64 left) ys) i d ≡ get_or ys i d
  turn_at d ys = keep_get d (flags 64 left) ys i ∙ ap (λ (t : Bool). elim t [ true ↦ get_or ys i d | false ↦ d ]) turn_set

  module _ (left' : ℕ) (is-left : flags 64 left' ≡ set (flags 64 left) (place_or 64 (first_place (flags 64 left))) false) where
    pub turn_still : (j : ℕ) → get_or (flags 64 left') j false ≡ true → get_or (flags 64 left) j false ≡ true
    turn_still j h = still_set (flags 64 left) (place_or 64 (first_place (flags 64 left))) j (ap (λ (xs : List Bool). get_or xs j false) (sym is-left) ∙ h)

    pub turn_rest : {A : Type 0} (d : A) (ys : List A) → keep d (flags 64 left') ys ≡ set (keep d (flags 64 left) ys) i d
    turn_rest d ys = ap (λ (xs : List Bool). keep d xs ys) (is-left ∙ ap (λ (k : ℕ). set (flags 64 left) k false) (sym is)) ∙ keep_set d (flags 64 left) ys i
