-- Usages whose flag is set, and a mask that names them.
use mathlib.Core.Path.{◌≡◌, refl, sym, ap, ap₂, ◌∙◌}
use mathlib.Core.Bool.{Bool, true, false, false≢true}
use mathlib.Core.List.{List, [], ◌∷◌, ◌++◌}
use Prim.Native.Nat.{ℕ, zero, suc, ◌-◌, ◌≤◌, ◌<◌}
use native.Mathlib.Omega.{arith}
use lib.ListN.{length, get_or, take, replicate}
use Rattle.definition.specs.declared.usages.HeadUsages.{HeadUsages}
use Rattle.definition.specs.Usages.{no_usages}
use Rattle.definition.specs.Candidates.{no_candidate_usages}
use Rattle.bits.specs.Masks.{flags}
use Rattle.bits.proofs.Flags.{length_flags, flags_zero}
use Rattle.bits.proofs.Marks.{only}
use Rattle.bits.proofs.Marks as marks
use Rattle.buffer.specs.Numbers.{number_of}
use Rattle.buffer.specs.Regions.{region}
use Rattle.buffer.specs.Tables.{list_up}
use Rattle.layout.specs.Blocks.{usages_size, usages_of, flag_at, usages_in, candidate_of}
use Rattle.layout.specs.AtIndex.{Names, keep}
use Rattle.layout.proofs.Blocks.{kept_clear}

-- the usages whose flag is set
pub keep_is : (xs : List Bool) (us : List HeadUsages) → keep xs us ≡ marks.keep no_usages xs us
keep_is [] us = refl
keep_is (x ∷ xs) [] = refl
keep_is (true ∷ xs) (u ∷ us) = ap (λ (l : List HeadUsages). u ∷ l) (keep_is xs us)
keep_is (false ∷ xs) (u ∷ us) = ap (λ (l : List HeadUsages). no_usages ∷ l) (keep_is xs us)

keep_nil : (xs : List Bool) → keep xs [] ≡ []
keep_nil xs = keep_is xs [] ∙ marks.keep_nil no_usages xs

-- no flag, of no usages
pub keep_no_usages : (k n : ℕ) → n ≤ k → keep (replicate k false) (no_candidate_usages n) ≡ no_candidate_usages n
keep_no_usages k zero h = keep_nil (replicate k false)
keep_no_usages zero (suc n) h = absurd (omega arith)
keep_no_usages (suc k) (suc n) h = ap (λ (l : List HeadUsages). no_usages ∷ l) (keep_no_usages k n (omega arith))

-- the first n flags, of n usages that are none where the flag is clear
pub keep_up : (f : ℕ → HeadUsages) (n : ℕ) (xs : List Bool) (k : ℕ) → n ≤ length xs → ((i : ℕ) → i < n → get_or xs i false ≡ false → f i ≡ no_usages)
    → keep (take n xs ++ replicate k false) (list_up f n) ≡ list_up f n
unfolding list_up
keep_up f zero xs k h clear = keep_nil (replicate k false)
keep_up f (suc n) [] k h clear = absurd (omega arith)
keep_up f (suc n) (true ∷ xs) k h clear = ap (λ (l : List HeadUsages). f 0 ∷ l) (keep_up (λ i. f (suc i)) n xs k (omega arith) (λ i l. clear (suc i) (omega arith)))
keep_up f (suc n) (false ∷ xs) k h clear =
    ap₂ (λ (u : HeadUsages) (l : List HeadUsages). u ∷ l) (sym (clear 0 (omega arith) refl)) (keep_up (λ i. f (suc i)) n xs k (omega arith) (λ i l. clear (suc i) (omega arith)))

-- ---- flags below n
pub below_only : (n : ℕ) (xs : List Bool) (k i : ℕ) → get_or (take n xs ++ replicate k false) i false ≡ true → i < n
below_only zero xs k i e = absurd (false≢true (sym (only false k i) ∙ e))
below_only (suc n) [] k i e = absurd (false≢true (sym (only false k i) ∙ e))
below_only (suc n) (x ∷ xs) k zero e = omega arith
below_only (suc n) (x ∷ xs) k (suc i) e = omega (arith, below_only n xs k i e)

pub below_same : (n : ℕ) (xs : List Bool) (k i : ℕ) → i < n → n ≤ length xs → get_or (take n xs ++ replicate k false) i false ≡ get_or xs i false
below_same zero xs k i lt h = absurd (omega arith)
below_same (suc n) [] k i lt h = absurd (omega arith)
below_same (suc n) (x ∷ xs) k zero lt h = refl
below_same (suc n) (x ∷ xs) k (suc i) lt h = below_same n xs k i (omega arith) (omega arith)

-- ---- a block's mask
pub mask_names : (goals : ℕ) (bs : List ℕ) (n m : ℕ) → goals ≤ 64 → n ≡ number_of (region 0 8 bs) → flags 64 m ≡ take goals (flags 64 n) ++ replicate (64 - goals) false → Names goals m (candidate_of goals bs)
unfolding candidate_of flag_at
mask_names goals bs n m few is-n is_m =
    let xs : List Bool = flags 64 (number_of (region 0 8 bs)) in
    let e : flags 64 m ≡ take goals xs ++ replicate (64 - goals) false = is_m ∙ ap (λ (k : ℕ). take goals (flags 64 k) ++ replicate (64 - goals) false) is-n in
    record {
      all =
          ap (λ (l : List Bool). keep l (candidate_of goals bs)) e
          ∙ keep_up (usages_in bs) goals xs (64 - goals) (rw length_flags few) (λ i l c. kept_clear usages_of no_usages usages_size bs i c);
      below = λ i h. below_only goals xs (64 - goals) i (ap (λ (l : List Bool). get_or l i false) (sym e) ∙ h);
    }

-- no flag names no usages
pub names_no_usages : (goals : ℕ) → goals ≤ 64 → Names goals 0 (no_candidate_usages goals)
names_no_usages goals few =
    record {
      all = ap (λ (l : List Bool). keep l (no_candidate_usages goals)) (flags_zero 64) ∙ keep_no_usages 64 goals few;
      below = λ i h. absurd (false≢true (sym (ap (λ (l : List Bool). get_or l i false) (flags_zero 64) ∙ only false 64 i) ∙ h));
    }
