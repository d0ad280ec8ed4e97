-- Usages are merged, ignored and covered, one index after the other.
use mathlib.Core.Path.{◌≡◌, refl, sym, ap, ap₂, ◌∙◌}
use mathlib.Core.Bool.{Bool, true, false, ◌&&◌, and-false}
use mathlib.Core.Option.{Option}
use mathlib.Core.List.{List, [], ◌∷◌}
use Prim.Native.Nat.{ℕ, zero, suc, ◌<◌}
use native.Mathlib.Omega.{arith}
use native.Mathlib.Decide.{ℕ_discrete}
use lib.ListN.{get_or, set}
use lib.Seq.{get_or-set_other}
use Rattle.definition.specs.declared.usages.HeadUsages.{HeadUsages}
use Rattle.definition.specs.declared.heads.CycleHead.{CycleHead}
use Rattle.definition.specs.Usages.{no_usages, add_usages, usages_cover, merge_usages}
use Rattle.definition.specs.Heads.{CycleHeads, usages_at, ignore_at_head, ignore_at_heads}
use Rattle.definition.specs.Candidates.{heads_cover}
use Rattle.definition.proofs.Counters.{add_no_usages, ignore_nothing, cover_no_usages}
use Rattle.bits.proofs.Marks.{set_only}
use Rattle.layout.specs.AtIndex.{add_at, ignore_at}

-- ---- merging
pub merge_none : (us vs : List HeadUsages) → ((i : ℕ) → get_or vs i no_usages ≡ no_usages) → merge_usages us vs ≡ us
merge_none [] vs h = refl
merge_none (u ∷ us) [] h = refl
merge_none (u ∷ us) (v ∷ vs) h =
    ap₂ (λ (x : HeadUsages) (l : List HeadUsages). x ∷ l) (ap (add_usages u) (h 0) ∙ add_no_usages u) (merge_none us vs (λ i. h (suc i)))

add_nothing_at : (i : ℕ) (u : HeadUsages) (us : List HeadUsages) → u ≡ no_usages → add_at i u us ≡ us
add_nothing_at i u [] e = refl
add_nothing_at zero u (v ∷ us) e = ap (λ (x : HeadUsages). x ∷ us) (ap (add_usages v) e ∙ add_no_usages v)
add_nothing_at (suc i) u (v ∷ us) e = ap (λ (l : List HeadUsages). v ∷ l) (add_nothing_at i u us e)

pub merge_one : (us vs : List HeadUsages) (i : ℕ) (u : HeadUsages) → u ≡ get_or vs i no_usages → merge_usages (add_at i u us) (set vs i no_usages) ≡ merge_usages us vs
merge_one [] vs i u e = refl
merge_one (x ∷ us) [] zero u e = add_nothing_at 0 u (x ∷ us) e
merge_one (x ∷ us) [] (suc i) u e = ap (λ (l : List HeadUsages). x ∷ l) (add_nothing_at i u us e)
merge_one (x ∷ us) (v ∷ vs) zero u e = ap (λ (w : HeadUsages). w ∷ merge_usages us vs) (add_no_usages (add_usages x u) ∙ ap (add_usages x) e)
merge_one (x ∷ us) (v ∷ vs) (suc i) u e = ap (λ (l : List HeadUsages). add_usages x v ∷ l) (merge_one us vs i u e)

-- ---- ignoring
pub ignore_none : (hs : CycleHeads) (us : List HeadUsages) → ((i : ℕ) → get_or us i no_usages ≡ no_usages) → ignore_at_heads hs us ≡ hs
ignore_none [] us h = refl
ignore_none (x ∷ hs) [] h = refl
ignore_none (x ∷ hs) (u ∷ us) h =
    ap₂ (λ (y : Option CycleHead) (l : CycleHeads). y ∷ l) (ap (ignore_at_head x) (h 0) ∙ ignore_nothing x) (ignore_none hs us (λ i. h (suc i)))

ignore_nothing_at : (i : ℕ) (u : HeadUsages) (hs : CycleHeads) → u ≡ no_usages → ignore_at i u hs ≡ hs
ignore_nothing_at i u [] e = refl
ignore_nothing_at zero u (h ∷ hs) e = ap (λ (x : Option CycleHead). x ∷ hs) (ap (ignore_at_head h) e ∙ ignore_nothing h)
ignore_nothing_at (suc i) u (h ∷ hs) e = ap (λ (l : CycleHeads). h ∷ l) (ignore_nothing_at i u hs e)

pub ignore_one : (hs : CycleHeads) (us : List HeadUsages) (i : ℕ) (u : HeadUsages) → u ≡ get_or us i no_usages → ignore_at_heads (ignore_at i u hs) (set us i no_usages) ≡ ignore_at_heads hs us
ignore_one [] us i u e = refl
ignore_one (x ∷ hs) [] zero u e = ignore_nothing_at 0 u (x ∷ hs) e
ignore_one (x ∷ hs) [] (suc i) u e = ap (λ (l : CycleHeads). x ∷ l) (ignore_nothing_at i u hs e)
ignore_one (x ∷ hs) (v ∷ us) zero u e = ap (λ (y : Option CycleHead). y ∷ ignore_at_heads hs us) (ignore_nothing (ignore_at_head x u) ∙ ap (ignore_at_head x) e)
ignore_one (x ∷ hs) (v ∷ us) (suc i) u e = ap (λ (l : CycleHeads). ignore_at_head x v ∷ l) (ignore_one hs us i u e)

-- ---- covering
abbrev covered_at : CycleHeads → List HeadUsages → ℕ → Bool
covered_at hs us i = usages_cover (usages_at hs i) (get_or us i no_usages)

pub cover_same : (n : ℕ) (hs : CycleHeads) (us vs : List HeadUsages) → ((i : ℕ) → i < n → covered_at hs us i ≡ covered_at hs vs i) → heads_cover n hs us ≡ heads_cover n hs vs
cover_same zero hs us vs h = refl
cover_same (suc n) hs us vs h = ap₂ (λ (a b : Bool). a && b) (h n (omega arith)) (cover_same n hs us vs (λ i l. h i (omega arith)))

-- an index that is covered is left out
pub cover_one : (n : ℕ) (hs : CycleHeads) (us : List HeadUsages) (i : ℕ) → covered_at hs us i ≡ true → heads_cover n hs (set us i no_usages) ≡ heads_cover n hs us
cover_one n hs us i e = cover_same n hs (set us i no_usages) us same
  where
    same : (j : ℕ) → j < n → covered_at hs (set us i no_usages) j ≡ covered_at hs us j
    same j l =
        elim (ℕ_discrete j i) [
          | yes q ↦ ap (covered_at hs (set us i no_usages)) q ∙ ap (usages_cover (usages_at hs i)) (set_only no_usages us i) ∙ cover_no_usages (usages_at hs i) ∙ sym e ∙ sym (ap (covered_at hs us) q)
          | no ne ↦ ap (usages_cover (usages_at hs j)) (get_or-set_other us i j no_usages no_usages ne)
        ]

pub cover_none : (n : ℕ) (hs : CycleHeads) (us : List HeadUsages) → ((i : ℕ) → get_or us i no_usages ≡ no_usages) → heads_cover n hs us ≡ true
cover_none zero hs us h = refl
cover_none (suc n) hs us h = ap₂ (λ (a b : Bool). a && b) (ap (usages_cover (usages_at hs n)) (h n) ∙ cover_no_usages (usages_at hs n)) (cover_none n hs us h)

-- one that is not
pub cover_fails : (n : ℕ) (hs : CycleHeads) (us : List HeadUsages) (i : ℕ) → i < n → covered_at hs us i ≡ false → heads_cover n hs us ≡ false
cover_fails zero hs us i lt e = absurd (omega arith)
cover_fails (suc n) hs us i lt e =
    elim (ℕ_discrete i n) [
      | yes q ↦ ap (λ (t : Bool). t && heads_cover n hs us) (sym (ap (covered_at hs us) q) ∙ e)
      | no ne ↦ ap (λ (t : Bool). covered_at hs us n && t) (cover_fails n hs us i (omega arith) e) ∙ and-false (covered_at hs us n)
    ]
