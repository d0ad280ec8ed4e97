-- Numbers and usages in bytes: what is written is read back.
use mathlib.Core.Path.{◌≡◌, ap, ◌∙◌}
use mathlib.Core.List.{List, [], ◌∷◌, ◌++◌, append-nil}
use Prim.Native.Nat.{ℕ, ◌+◌, ◌^◌, ◌≤◌, ◌<◌}
use native.Mathlib.Omega.{arith}
use lib.ListN.{length, set, drop_of_length-le}
use lib.Seq.{take_all}
use Rattle.definition.specs.declared.usages.HeadUsages.{HeadUsages}
use Rattle.definition.specs.declared.heads.CycleHead.{CycleHead}
use Rattle.buffer.specs.Numbers.{number_of, bytes_of}
use Rattle.buffer.specs.Regions.{region, overwrite}
use Rattle.buffer.proofs.Numbers.{length_bytes, number_bytes}
use Rattle.buffer.proofs.Regions.{region_same, region_before, length_overwrite}
use Rattle.layout.specs.Blocks.{usages_of, head_of}

-- ---- a number written at a
module _ (bs : List ℕ) (a n : ℕ) (fits : a + 8 ≤ length bs) where
  inside : a + length (bytes_of 8 n) ≤ length bs
  inside = rw length_bytes fits

  pub number_length : length (overwrite bs a (bytes_of 8 n)) ≡ length bs
  number_length = length_overwrite bs a (bytes_of 8 n) inside

  -- it is read back
  pub number_back : n < 2 ^ 64 → number_of (region a 8 (overwrite bs a (bytes_of 8 n))) ≡ n
  number_back small =
      ap number_of (region_same bs a (bytes_of 8 n) inside) ∙ number_bytes 8 n small

  -- what stands before it stays
  pub number_before : (b k : ℕ) → b + k ≤ a → region b k (overwrite bs a (bytes_of 8 n)) ≡ region b k bs
  number_before b k h = region_before bs a (bytes_of 8 n) inside b k h

-- ---- usages
pub record Small (u : HeadUsages) : Type 0 where
  pub inductive : u.inductive < 2 ^ 64
  pub unknown : u.unknown < 2 ^ 64
  pub coinductive : u.coinductive < 2 ^ 64
  pub forced : u.forced < 2 ^ 64

-- four numbers, written one after the other
usages_back : (bs : List ℕ) (u : HeadUsages) → length bs ≡ 32 → Small u
    → usages_of (overwrite (overwrite (overwrite (overwrite bs 0 (bytes_of 8 u.inductive)) 8 (bytes_of 8 u.unknown)) 16 (bytes_of 8 u.coinductive)) 24 (bytes_of 8 u.forced)) ≡ u
unfolding usages_of
usages_back bs u len small =
    let b1 : List ℕ = overwrite bs 0 (bytes_of 8 u.inductive) in
    let b2 : List ℕ = overwrite b1 8 (bytes_of 8 u.unknown) in
    let b3 : List ℕ = overwrite b2 16 (bytes_of 8 u.coinductive) in
    let f0 : 0 + 8 ≤ length bs = omega arith in
    let l1 = number_length bs 0 u.inductive f0 in
    let f1 : 8 + 8 ≤ length b1 = omega arith in
    let l2 = number_length b1 8 u.unknown f1 in
    let f2 : 16 + 8 ≤ length b2 = omega arith in
    let l3 = number_length b2 16 u.coinductive f2 in
    let f3 : 24 + 8 ≤ length b3 = omega arith in
    let p0 =
    ap number_of (number_before b3 24 u.forced f3 0 8 (omega arith) ∙ number_before b2 16 u.coinductive f2 0 8 (omega arith) ∙ number_before b1 8 u.unknown f1 0 8 (omega arith))
    ∙ number_back bs 0 u.inductive f0 small.inductive in
    let p1 =
    ap number_of (number_before b3 24 u.forced f3 8 8 (omega arith) ∙ number_before b2 16 u.coinductive f2 8 8 (omega arith)) ∙ number_back b1 8 u.unknown f1 small.unknown in
    let p2 = ap number_of (number_before b3 24 u.forced f3 16 8 (omega arith)) ∙ number_back b2 16 u.coinductive f2 small.coinductive in
    let p3 = number_back b3 24 u.forced f3 small.forced in
    λ i. record { inductive = p0 i; unknown = p1 i; coinductive = p2 i; forced = p3 i }

pub usages_written : (bs : List ℕ) (u : HeadUsages) → length bs ≡ 32 → Small u
    → (b1 : List ℕ) → b1 ≡ overwrite bs 0 (bytes_of 8 u.inductive)
    → (b2 : List ℕ) → b2 ≡ overwrite b1 8 (bytes_of 8 u.unknown)
    → (b3 : List ℕ) → b3 ≡ overwrite b2 16 (bytes_of 8 u.coinductive)
    → (b4 : List ℕ) → b4 ≡ overwrite b3 24 (bytes_of 8 u.forced)
    → usages_of b4 ≡ u
usages_written bs u len small b1 e1 b2 e2 b3 e3 b4 e4 =
    ap usages_of
    (e4 ∙ ap (λ (l : List ℕ). overwrite l 24 (bytes_of 8 u.forced))
    (e3 ∙ ap (λ (l : List ℕ). overwrite l 16 (bytes_of 8 u.coinductive))
    (e2 ∙ ap (λ (l : List ℕ). overwrite l 8 (bytes_of 8 u.unknown)) e1)))
    ∙ usages_back bs u len small

-- ---- a head
-- its usages are written, then its paths
head_bytes : (bs ys : List ℕ) (p : ℕ) → length bs ≡ 33 → length ys ≡ 32 → set (overwrite bs 1 ys) 0 p ≡ p ∷ ys
head_bytes [] ys p len n = absurd (omega arith)
head_bytes (b ∷ bs) ys p len n = ap (λ (l : List ℕ). p ∷ (ys ++ l)) (drop_of_length-le bs {i = length ys} (omega arith)) ∙ ap (λ (l : List ℕ). p ∷ l) (append-nil ys)

pub head_back : (bs ys : List ℕ) (h : CycleHead) → length bs ≡ 33 → length ys ≡ 32 → usages_of ys ≡ h.usages → head_of (set (overwrite bs 1 ys) 0 h.paths) ≡ h
unfolding head_of
head_back bs ys h len n u =
    ap head_of (head_bytes bs ys h.paths len n)
    ∙ (λ i. record { paths = h.paths; usages = (ap usages_of (take_all 32 ys (omega arith)) ∙ u) i })
