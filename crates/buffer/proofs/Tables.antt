-- Records of one size, one after the other: once, over the size, the base and what reads a record.
use mathlib.Core.Path.{◌≡◌, refl, sym, ap, ap₂, ◌∙◌}
use mathlib.Core.List.{List, [], ◌∷◌, ◌++◌}
use Prim.Native.Nat.{ℕ, zero, suc, ◌+◌, ◌*◌, ◌≤◌, ◌<◌}
use native.Mathlib.Nat.{add-zero, suc-mul, mul-le-mul_right}
use native.Mathlib.Omega.{arith}
use native.Mathlib.Decide.{dec_lt}
use lib.ListN.{length, get_or, set}
use Rattle.buffer.specs.Regions.{region, overwrite}
use Rattle.buffer.specs.Tables.{list_up, list_down, record_at, table, table_down}
use Rattle.buffer.proofs.Regions.{region_same, region_before, region_after}

-- ---- lists of f's values
module _ {A : Type 0} where
  pub length_up : (f : ℕ → A) (n : ℕ) → length (list_up f n) ≡ n
  unfolding list_up
  length_up f zero = refl
  length_up f (suc n) = ap suc (length_up (λ i. f (suc i)) n)

  pub up_at : (d : A) (f : ℕ → A) (n i : ℕ) → i < n → get_or (list_up f n) i d ≡ f i
  unfolding list_up
  up_at d f zero i h = absurd (omega arith)
  up_at d f (suc n) zero h = refl
  up_at d f (suc n) (suc i) h = up_at d (λ i. f (suc i)) n i (omega arith)

  -- functions that agree below n
  pub up_same : (f g : ℕ → A) (n : ℕ) → ((i : ℕ) → i < n → f i ≡ g i) → list_up f n ≡ list_up g n
  unfolding list_up
  up_same f g zero h = refl
  up_same f g (suc n) h = ap₂ (λ (x : A) (l : List A). x ∷ l) (h 0 (omega arith)) (up_same (λ i. f (suc i)) (λ i. g (suc i)) n (λ i lt. h (suc i) (omega arith)))

  -- functions that agree but at i
  pub up_set : (f g : ℕ → A) (n i : ℕ) → i < n → ((j : ℕ) → j < n → (j ≡ i → ⊥) → g j ≡ f j) → list_up g n ≡ set (list_up f n) i (g i)
  unfolding list_up
  up_set f g zero i lt h = absurd (omega arith)
  up_set f g (suc n) zero lt h = ap (λ (l : List A). g 0 ∷ l) (up_same (λ i. g (suc i)) (λ i. f (suc i)) n (λ j l. h (suc j) (omega arith) (λ e. omega arith)))
  up_set f g (suc n) (suc i) lt h =
      ap₂ (λ (x : A) (l : List A). x ∷ l) (h 0 (omega arith) (λ e. omega arith))
      (up_set (λ i. f (suc i)) (λ i. g (suc i)) n i (omega arith) (λ j l ne. h (suc j) (omega arith) (λ e. ne (omega arith))))

  -- one more, at the end
  pub up_snoc : (f : ℕ → A) (n : ℕ) → list_up f (suc n) ≡ list_up f n ++ (f n ∷ [])
  unfolding list_up
  up_snoc f zero = refl
  up_snoc f (suc n) = ap (λ (l : List A). f 0 ∷ l) (up_snoc (λ i. f (suc i)) n)

  pub length_down : (f : ℕ → A) (n : ℕ) → length (list_down f n) ≡ n
  length_down f zero = refl
  length_down f (suc n) = ap suc (length_down f n)

  pub down_same : (f g : ℕ → A) (n : ℕ) → ((i : ℕ) → i < n → f i ≡ g i) → list_down f n ≡ list_down g n
  down_same f g zero h = refl
  down_same f g (suc n) h = ap₂ (λ (x : A) (l : List A). x ∷ l) (h n (omega arith)) (down_same f g n (λ i lt. h i (omega arith)))

-- ---- records in bytes
-- a record below another ends where that starts, or before
pub apart : (j i size : ℕ) → j < i → j * size + size ≤ i * size
apart j i size h = let m = mul-le-mul_right size h in let e = suc-mul j size in omega arith

module _ {A : Type 0} (dec : List ℕ → A) (size base : ℕ) where
  -- a write of ys at a that meets no record
  module _ (bs : List ℕ) (a : ℕ) (ys : List ℕ) (fits : a + length ys ≤ length bs) where
    pub record_before : (i : ℕ) → base + i * size + size ≤ a → record_at dec size base (overwrite bs a ys) i ≡ record_at dec size base bs i
    record_before i h = ap dec (region_before bs a ys fits (base + i * size) size h)

    pub record_after : (i : ℕ) → a + length ys ≤ base + i * size → record_at dec size base (overwrite bs a ys) i ≡ record_at dec size base bs i
    record_after i h = ap dec (region_after bs a ys fits (base + i * size) size h)

    below : (n : ℕ) → base + n * size ≤ a → (i : ℕ) → i < n → record_at dec size base (overwrite bs a ys) i ≡ record_at dec size base bs i
    below n h i lt = record_before i (omega (arith, apart i n size lt))

    above : (n : ℕ) → a + length ys ≤ base → (i : ℕ) → i < n → record_at dec size base (overwrite bs a ys) i ≡ record_at dec size base bs i
    above n h i lt = record_after i (omega arith)

    -- the write lies above the table
    pub table_below : (n : ℕ) → base + n * size ≤ a → table dec size base n (overwrite bs a ys) ≡ table dec size base n bs
    table_below n h = up_same (record_at dec size base (overwrite bs a ys)) (record_at dec size base bs) n (below n h)

    pub table_down_below : (n : ℕ) → base + n * size ≤ a → table_down dec size base n (overwrite bs a ys) ≡ table_down dec size base n bs
    table_down_below n h = down_same (record_at dec size base (overwrite bs a ys)) (record_at dec size base bs) n (below n h)

    -- the write lies below the table
    pub table_above : (n : ℕ) → a + length ys ≤ base → table dec size base n (overwrite bs a ys) ≡ table dec size base n bs
    table_above n h = up_same (record_at dec size base (overwrite bs a ys)) (record_at dec size base bs) n (above n h)

  -- a write of ys inside record i, k bytes into it
  module _ (bs : List ℕ) (i k : ℕ) (ys : List ℕ) (inner : k + length ys ≤ size) (room : base + i * size + size ≤ length bs) where
    abbrev written : List ℕ
    written = overwrite bs (base + i * size + k) ys

    -- another
    pub record_other : (j : ℕ) → (j ≡ i → ⊥) → record_at dec size base written j ≡ record_at dec size base bs j
    record_other j ne =
        elim (dec_lt j i) [
          | yes lo ↦ record_before bs (base + i * size + k) ys (omega arith) j (omega (arith, apart j i size lo))
          | no hi ↦ record_after bs (base + i * size + k) ys (omega arith) j (omega (arith, apart i j size (omega arith)))
        ]

  -- a write of a whole record
  module _ (bs : List ℕ) (i : ℕ) (ys : List ℕ) (whole : length ys ≡ size) (room : base + i * size + size ≤ length bs) where
    pub record_whole : record_at dec size base (overwrite bs (base + i * size) ys) i ≡ dec ys
    record_whole = ap dec (ap (λ (n : ℕ). region (base + i * size) n (overwrite bs (base + i * size) ys)) (sym whole) ∙ region_same bs (base + i * size) ys (omega arith))

    pub table_whole : (n : ℕ) → i < n → table dec size base n (overwrite bs (base + i * size) ys) ≡ set (table dec size base n bs) i (dec ys)
    table_whole n lt =
        up_set (record_at dec size base bs) (record_at dec size base (overwrite bs (base + i * size) ys)) n i lt (λ j l ne. ap (λ (x : ℕ). record_at dec size base (overwrite bs x ys) j) (sym (add-zero (base + i * size))) ∙ record_other bs i 0 ys (omega arith) room j ne)
        ∙ ap (set (table dec size base n bs) i) record_whole

    -- above the others: one more in front
    pub table_down_push : table_down dec size base (suc i) (overwrite bs (base + i * size) ys) ≡ dec ys ∷ table_down dec size base i bs
    table_down_push = ap₂ (λ (x : A) (l : List A). x ∷ l) record_whole (table_down_below bs (base + i * size) ys (omega arith) i (omega arith))
