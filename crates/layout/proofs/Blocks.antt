-- Blocks: a mask and a record for each index; once, over the size of a record and what it reads as.
use mathlib.Core.Path.{◌≡◌, sym, ap, ap₂, ◌∙◌}
use mathlib.Core.Bool.{Bool, true, false}
use mathlib.Core.List.{List}
use Prim.Native.Nat.{ℕ, ◌+◌, ◌*◌, ◌^◌, ◌≤◌, ◌<◌}
use native.Mathlib.Nat.{add-zero}
use native.Mathlib.Omega.{arith}
use lib.ListN.{length, get_or, set, replicate, length-replicate, get_or-replicate}
use lib.Seq.{get_or-set_same, get_or-set_other, ext_get_or}
use Rattle.bits.specs.Masks.{flags}
use Rattle.bits.proofs.Flags.{length_flags, flags_zero}
use Rattle.buffer.specs.Numbers.{number_of, bytes_of}
use Rattle.buffer.specs.Regions.{region, overwrite}
use Rattle.buffer.specs.Tables.{list_up}
use Rattle.buffer.proofs.Regions.{region_before, region_after, length_overwrite}
use Rattle.buffer.proofs.Tables.{length_up, up_at, up_set, record_whole, record_other}
use Rattle.layout.specs.Blocks.{flag_at, kept_at}
use Rattle.layout.proofs.Written.{number_back}

-- ---- a mask that is written
module _ (bs : List ℕ) (m : ℕ) (small : m < 2 ^ 64) (long : 8 ≤ length bs) where
  abbrev masked : List ℕ
  masked = overwrite bs 0 (bytes_of 8 m)

  pub flag_written : (i : ℕ) → flag_at masked i ≡ get_or (flags 64 m) i false
  unfolding flag_at
  flag_written i = ap (λ (n : ℕ). get_or (flags 64 n) i false) (number_back bs 0 m (omega arith) small)

  -- no record changes
  pub record_stays : (a n : ℕ) → 8 ≤ a → region a n masked ≡ region a n bs
  record_stays a n h = region_after bs 0 (bytes_of 8 m) (omega arith) a n (omega arith)

module _ {A : Type 0} (dec : List ℕ → A) (absent : A) (size : ℕ) where
  abbrev pub chosen : Bool → List ℕ → A
  chosen t r = elim t [ true ↦ dec r | false ↦ absent ]

  -- an index, by its flag
  pub kept_set : (bs : List ℕ) (i : ℕ) → flag_at bs i ≡ true → kept_at dec absent size bs i ≡ dec (region (8 + i * size) size bs)
  unfolding kept_at
  kept_set bs i e = ap (λ (t : Bool). chosen t (region (8 + i * size) size bs)) e

  pub kept_clear : (bs : List ℕ) (i : ℕ) → flag_at bs i ≡ false → kept_at dec absent size bs i ≡ absent
  unfolding kept_at
  kept_clear bs i e = ap (λ (t : Bool). chosen t (region (8 + i * size) size bs)) e

  -- an index whose flag and whose record stay
  pub kept_same : (xs ys : List ℕ) (i : ℕ) → flag_at xs i ≡ flag_at ys i → region (8 + i * size) size xs ≡ region (8 + i * size) size ys → kept_at dec absent size xs i ≡ kept_at dec absent size ys i
  unfolding kept_at
  kept_same xs ys i f r = ap₂ chosen f r

  -- ---- a block with a new mask
  module _ (bs : List ℕ) (m : ℕ) (small : m < 2 ^ 64) (long : 8 ≤ length bs) where
    new_mask : (i : ℕ) → get_or (flags 64 m) i false ≡ flag_at bs i → kept_at dec absent size (overwrite bs 0 (bytes_of 8 m)) i ≡ kept_at dec absent size bs i
    new_mask i e = kept_same (overwrite bs 0 (bytes_of 8 m)) bs i (flag_written bs m small long i ∙ e) (record_stays bs m small long (8 + i * size) size (omega arith))

    -- an index is taken out
    pub block_remove : (goals i : ℕ) → i < goals → goals ≤ 64 → flags 64 m ≡ set (flags 64 (number_of (region 0 8 bs))) i false
        → list_up (kept_at dec absent size (overwrite bs 0 (bytes_of 8 m))) goals ≡ set (list_up (kept_at dec absent size bs) goals) i absent
    unfolding flag_at
    block_remove goals i lt few e =
        up_set (kept_at dec absent size bs) (kept_at dec absent size (overwrite bs 0 (bytes_of 8 m))) goals i lt
        (λ j l ne. new_mask j (ap (λ (fs : List Bool). get_or fs j false) e ∙ get_or-set_other (flags 64 (number_of (region 0 8 bs))) i j false false ne))
        ∙ ap (set (list_up (kept_at dec absent size bs) goals) i) (kept_clear (overwrite bs 0 (bytes_of 8 m)) i
        (flag_written bs m small long i ∙ ap (λ (fs : List Bool). get_or fs i false) e ∙ get_or-set_same (flags 64 (number_of (region 0 8 bs))) i false false (rw length_flags (omega arith))))

  -- every index is taken out
  pub block_clear : (bs : List ℕ) (goals : ℕ) → 8 ≤ length bs → goals ≤ 64 → list_up (kept_at dec absent size (overwrite bs 0 (bytes_of 8 0))) goals ≡ replicate goals absent
  block_clear bs goals long few =
      let new : List ℕ = overwrite bs 0 (bytes_of 8 0) in
      let len : length (list_up (kept_at dec absent size new) goals) ≡ goals = length_up (kept_at dec absent size new) goals in
      ext_get_or absent (list_up (kept_at dec absent size new) goals) (replicate goals absent) (len ∙ sym (length-replicate goals absent))
      (λ i l. let lt : i < goals = omega arith in
      up_at absent (kept_at dec absent size new) goals i lt
      ∙ kept_clear new i (flag_written bs 0 (omega arith) long i ∙ ap (λ (fs : List Bool). get_or fs i false) (flags_zero 64) ∙ get_or-replicate 64 i false false (omega arith))
      ∙ sym (get_or-replicate goals i absent absent lt))

  -- ---- record i is written, and then its flag is set
  module _ (bs : List ℕ) (goals i : ℕ) (ys : List ℕ) (m : ℕ) (few : goals ≤ 64) (lt : i < goals) (room : 8 + i * size + size ≤ length bs) (whole : length ys ≡ size) (small : m < 2 ^ 64) where
    abbrev half : List ℕ
    half = overwrite bs (8 + i * size) ys

    abbrev full : List ℕ
    full = overwrite half 0 (bytes_of 8 m)

    fits : 8 + i * size + length ys ≤ length bs
    fits = omega arith

    long : 8 ≤ length half
    long = rw (length_overwrite bs (8 + i * size) ys fits) (omega arith)

    same_mask : region 0 8 half ≡ region 0 8 bs
    same_mask = region_before bs (8 + i * size) ys fits 0 8 (omega arith)

    flag_half : (j : ℕ) → flag_at half j ≡ flag_at bs j
    unfolding flag_at
    flag_half j = ap (λ (r : List ℕ). get_or (flags 64 (number_of r)) j false) same_mask

    other : (j : ℕ) → (j ≡ i → ⊥) → region (8 + j * size) size half ≡ region (8 + j * size) size bs
    other j ne = ap (λ (x : ℕ). region (8 + j * size) size (overwrite bs x ys)) (sym (add-zero (8 + i * size))) ∙ record_other (λ r. r) size 8 bs i 0 ys (omega arith) room j ne

    flag_put : flags 64 m ≡ set (flags 64 (number_of (region 0 8 half))) i true → flag_at full i ≡ true
    flag_put e = flag_written half m small long i ∙ ap (λ (fs : List Bool). get_or fs i false) e ∙ get_or-set_same (flags 64 (number_of (region 0 8 half))) i true false (rw length_flags (omega arith))

    pub block_put : flags 64 m ≡ set (flags 64 (number_of (region 0 8 half))) i true → list_up (kept_at dec absent size full) goals ≡ set (list_up (kept_at dec absent size bs) goals) i (dec ys)
    unfolding flag_at
    block_put e =
        up_set (kept_at dec absent size bs) (kept_at dec absent size full) goals i lt
        (λ j l ne.
        new_mask half m small long j (ap (λ (fs : List Bool). get_or fs j false) e ∙ get_or-set_other (flags 64 (number_of (region 0 8 half))) i j true false ne)
        ∙ kept_same half bs j (flag_half j) (other j ne))
        ∙ ap (set (list_up (kept_at dec absent size bs) goals) i) (kept_set full i (flag_put e) ∙ ap dec (record_stays half m small long (8 + i * size) size (omega arith) ∙ record_whole (λ r. r) size 8 bs i ys whole room))

    -- where its flag was set already
    pub block_record : flag_at bs i ≡ true → list_up (kept_at dec absent size half) goals ≡ set (list_up (kept_at dec absent size bs) goals) i (dec ys)
    block_record e =
        up_set (kept_at dec absent size bs) (kept_at dec absent size half) goals i lt (λ j l ne. kept_same half bs j (flag_half j) (other j ne))
        ∙ ap (set (list_up (kept_at dec absent size bs) goals) i) (kept_set half i (flag_half i ∙ e) ∙ ap dec (record_whole (λ r. r) size 8 bs i ys whole room))

    -- by what the calls say
    pub flag_set_by : (b1 b2 : List ℕ) (n : ℕ) → b1 ≡ half → n ≡ number_of (region 0 8 b1) → flags 64 m ≡ set (flags 64 n) i true → b2 ≡ overwrite b1 0 (bytes_of 8 m) → flag_at b2 i ≡ true
    flag_set_by b1 b2 n e1 en ef e2 =
        ap (λ (l : List ℕ). flag_at l i) (e2 ∙ ap (λ (l : List ℕ). overwrite l 0 (bytes_of 8 m)) e1)
        ∙ flag_put (ef ∙ ap (λ (k : ℕ). set (flags 64 k) i true) (en ∙ ap (λ (l : List ℕ). number_of (region 0 8 l)) e1))

    pub block_written : (b1 b2 : List ℕ) (n : ℕ) → b1 ≡ half → n ≡ number_of (region 0 8 b1) → flags 64 m ≡ set (flags 64 n) i true → b2 ≡ overwrite b1 0 (bytes_of 8 m)
        → list_up (kept_at dec absent size b2) goals ≡ set (list_up (kept_at dec absent size bs) goals) i (dec ys)
    block_written b1 b2 n e1 en ef e2 =
        ap (λ (l : List ℕ). list_up (kept_at dec absent size l) goals) (e2 ∙ ap (λ (l : List ℕ). overwrite l 0 (bytes_of 8 m)) e1)
        ∙ block_put (ef ∙ ap (λ (k : ℕ). set (flags 64 k) i true) (en ∙ ap (λ (l : List ℕ). number_of (region 0 8 l)) e1))
