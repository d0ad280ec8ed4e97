-- One head of the child after the other: the heads that are left, and the frame so far, make the whole.
use mathlib.Core.Path.{◌≡◌, refl, sym, ap, ap₂, ◌∙◌}
use mathlib.Core.Bool.{Bool, true, false}
use mathlib.Core.Option.{Option, none, some, none-ne-some, some-ne-none}
use mathlib.Core.List.{List, [], ◌∷◌}
use Prim.Native.Nat.{ℕ, zero, suc}
use native.Mathlib.Decide.{ℕ_discrete}
use borrow.Author.Tests.{eq-eqb, ne_eqb, ltb-true, ltb-false}
use lib.Dec.{eqb, ltb}
use lib.ListN.{get_or, set, take}
use lib.Seq.{get_or-set_other, get_or-take, take-set-le, take-set-lt}
use Rattle.definition.specs.declared.paths.PathKind.{PathKind}
use Rattle.definition.specs.declared.usages.HeadUsages.{HeadUsages}
use Rattle.definition.specs.declared.heads.CycleHead.{CycleHead}
use Rattle.definition.specs.Heads.{CycleHeads, for_each_head}
use Rattle.definition.specs.Stack.{Frame, with_heads, with_usages, with_candidate_usages}
use Rattle.definition.specs.Parent.{track_usages, add_to_candidate, add_to_usages, join_child, add_heads}
use Rattle.bits.proofs.Marks.{set_only}
use Rattle.layout.proofs.Marks.{each_one, each_clear}
use Rattle.layout.specs.AtIndex.{add_from_nested_at}
use Rattle.stack.specs.Child.{tracked_at, joined, used, add_head_at}

-- ---- one head c of the heads ms, at index i
tracked_one : (us : List HeadUsages) (ms : CycleHeads) (i : ℕ) (c : CycleHead) → get_or ms i none ≡ some c → track_usages (add_from_nested_at us i c.usages) (set ms i none) ≡ track_usages us ms
tracked_one [] ms i c e = refl
tracked_one (u ∷ us) [] i c e = absurd (none-ne-some c e)
tracked_one (u ∷ us) (none ∷ ms) zero c e = absurd (none-ne-some c e)
tracked_one (u ∷ us) (some d ∷ ms) zero c e =
    let q : c ≡ d = cc in
    ap (λ (x : CycleHead). add_from_nested_at (u ∷ track_usages us ms) 0 x.usages) q
tracked_one (u ∷ us) (none ∷ ms) (suc i) c e = ap (λ (l : List HeadUsages). u ∷ l) (tracked_one us ms i c e)
tracked_one (u ∷ us) (some d ∷ ms) (suc i) c e = ap (λ (l : List HeadUsages). add_from_nested_at (u ∷ l) 0 d.usages) (tracked_one us ms i c e)

candidate_one : (o : Option (List HeadUsages)) (ms : CycleHeads) (i : ℕ) (c : CycleHead) → get_or ms i none ≡ some c → add_to_candidate (tracked_at o i c.usages) (set ms i none) ≡ add_to_candidate o ms
candidate_one none ms i c e = refl
candidate_one (some us) ms i c e = ap (λ (l : List HeadUsages). some l) (tracked_one us ms i c e)

usages_one : (u : Option HeadUsages) (ms : CycleHeads) (own i : ℕ) (c : CycleHead) → get_or ms i none ≡ some c
    → add_to_usages (elim (eqb i own) [ true ↦ used c.usages u | false ↦ u ]) (get_or (set ms i none) own none) ≡ add_to_usages u (get_or ms own none)
usages_one u ms own i c e =
    elim (ℕ_discrete i own) [
      | yes q ↦
          ap₂ (λ (t : Bool) (o : Option CycleHead). add_to_usages (elim t [ true ↦ used c.usages u | false ↦ u ]) o) (eq-eqb i own q) (ap (λ (k : ℕ). get_or (set ms i none) k none) (sym q) ∙ set_only none ms i)
          ∙ sym (ap (add_to_usages u) (ap (λ (k : ℕ). get_or ms k none) (sym q) ∙ e))
      | no ne ↦
          ap₂ (λ (t : Bool) (o : Option CycleHead). add_to_usages (elim t [ true ↦ used c.usages u | false ↦ u ]) o) (ne_eqb i own ne) (get_or-set_other ms i own none none (λ q. ne (sym q)))
    ]

below_one : (step : PathKind) (hs ms : CycleHeads) (own i : ℕ) (c : CycleHead) → get_or ms i none ≡ some c
    → for_each_head (join_child step) (elim (ltb i own) [ true ↦ joined step i c hs | false ↦ hs ]) (take own (set ms i none)) ≡ for_each_head (join_child step) hs (take own ms)
below_one step hs ms own i c e = go (ltb i own) refl
  where
    go : (t : Bool) → ltb i own ≡ t → for_each_head (join_child step) (elim t [ true ↦ joined step i c hs | false ↦ hs ]) (take own (set ms i none)) ≡ for_each_head (join_child step) hs (take own ms)
    go true q =
        let l = ltb-true i own q in
        ap (for_each_head (join_child step) (joined step i c hs)) (take-set-lt own ms i none l)
        ∙ each_one (join_child step) hs (take own ms) i c (get_or-take own ms i none l ∙ e)
    go false q = ap (for_each_head (join_child step) hs) (take-set-le own ms i none (ltb-false i own q))

pub one_head : (step : PathKind) (own : ℕ) (ms : CycleHeads) (i : ℕ) (c : CycleHead) (f : Frame) → get_or ms i none ≡ some c
    → add_heads step own (set ms i none) (add_head_at step own i c f) ≡ add_heads step own ms f
one_head step own ms i c f e =
    let eh = below_one step f.heads ms own i c e in
    let eu = usages_one f.usages ms own i c e in
    let ec = candidate_one f.candidate_usages ms i c e in
    λ t. with_candidate_usages (with_usages (with_heads f (eh t)) (eu t)) (ec t)

-- ---- no head
taken_clear : (ms : CycleHeads) (n : ℕ) → ((i : ℕ) → get_or ms i none ≡ none) → (i : ℕ) → get_or (take n ms) i none ≡ none
taken_clear ms zero h i = refl
taken_clear [] (suc n) h i = refl
taken_clear (m ∷ ms) (suc n) h zero = h 0
taken_clear (m ∷ ms) (suc n) h (suc i) = taken_clear ms n (λ j. h (suc j)) i

track_clear : (us : List HeadUsages) (ms : CycleHeads) → ((i : ℕ) → get_or ms i none ≡ none) → track_usages us ms ≡ us
track_clear [] ms h = refl
track_clear (u ∷ us) [] h = refl
track_clear (u ∷ us) (none ∷ ms) h = ap (λ (l : List HeadUsages). u ∷ l) (track_clear us ms (λ i. h (suc i)))
track_clear (u ∷ us) (some c ∷ ms) h = absurd (some-ne-none c (h 0))

candidate_clear : (o : Option (List HeadUsages)) (ms : CycleHeads) → ((i : ℕ) → get_or ms i none ≡ none) → add_to_candidate o ms ≡ o
candidate_clear none ms h = refl
candidate_clear (some us) ms h = ap (λ (l : List HeadUsages). some l) (track_clear us ms h)

pub no_head_lem : (step : PathKind) (own : ℕ) (ms : CycleHeads) (f : Frame) → ((i : ℕ) → get_or ms i none ≡ none) → add_heads step own ms f ≡ f
no_head_lem step own ms f h =
    let eh = each_clear (join_child step) f.heads (take own ms) (taken_clear ms own h) in
    let eu = ap (add_to_usages f.usages) (h own) in
    let ec = candidate_clear f.candidate_usages ms h in
    λ t. with_candidate_usages (with_usages (with_heads f (eh t)) (eu t)) (ec t)
