-- The indices that have a head, as flags of the mask, and as places.
use mathlib.Core.Path.{◌≡◌, refl, sym, ap, ◌∙◌}
use mathlib.Core.Bool.{Bool, true, false}
use mathlib.Core.List.{List, [], ◌∷◌, ◌++◌}
use mathlib.Core.Option.{Option, none, some}
use Prim.Native.Nat.{ℕ, zero, suc, ◌+◌, ◌*◌, ◌^◌, ◌≤◌, ◌<◌}
use native.Mathlib.Omega.{arith}
use native.Mathlib.Decide.{ℕ_discrete}
use borrow.Author.Tests.{eq-eqb, ne_eqb}
use lib.Dec.{eqb, lit<}
use lib.ListN.{length, get_or, set, take, replicate}
use Rattle.definition.specs.declared.usages.HeadUsages.{HeadUsages}
use Rattle.definition.specs.declared.heads.CycleHead.{CycleHead}
use Rattle.definition.specs.Heads.{CycleHeads, opt_lowest_index, opt_highest_index, heads_empty, highest_index, join_head, insert_head}
use Rattle.bits.specs.Masks.{flags, first_place, last_place, next_place, place_or}
use Rattle.bits.proofs.Flags.{length_flags, flags_zero}
use Rattle.bits.proofs.Ends.{last_more, last_none, last_some}
use Rattle.buffer.specs.Numbers.{number_of}
use Rattle.buffer.specs.Regions.{region, overwrite}
use Rattle.buffer.specs.Tables.{list_up}
use Rattle.buffer.proofs.Tables.{up_at}
use Rattle.layout.specs.Blocks.{flag_at, head_of, head_at, heads_of, present}
use Rattle.layout.proofs.Blocks.{kept_set, kept_clear, block_record}

-- a list's first flags
firsts : (xs : List Bool) (n : ℕ) → n ≤ length xs → take n xs ≡ list_up (λ i. get_or xs i false) n
unfolding list_up
firsts xs zero h = refl
firsts [] (suc n) h = absurd (omega arith)
firsts (x ∷ xs) (suc n) h = ap (λ (l : List Bool). x ∷ l) (firsts xs n (omega arith))

-- flags that say of each index whether it has a head
present_up : (f : ℕ → Option CycleHead) (g : ℕ → Bool) (n : ℕ) → ((i : ℕ) → i < n → present (f i ∷ []) ≡ g i ∷ []) → present (list_up f n) ≡ list_up g n
unfolding list_up
present_up f g zero h = refl
present_up f g (suc n) h = step (f 0) (g 0) (present_up (λ i. f (suc i)) (λ i. g (suc i)) n (λ i l. h (suc i) (omega arith))) (h 0 (omega arith))
  where
    step : (o : Option CycleHead) (t : Bool) → present (list_up (λ i. f (suc i)) n) ≡ list_up (λ i. g (suc i)) n → present (o ∷ []) ≡ t ∷ []
        → present (o ∷ list_up (λ i. f (suc i)) n) ≡ t ∷ list_up (λ i. g (suc i)) n
    step none t e d = cc
    step (some x) t e d = cc

pub present_one : (bs : List ℕ) (i : ℕ) → present (head_at bs i ∷ []) ≡ flag_at bs i ∷ []
present_one bs i = go (flag_at bs i) refl
  where
    go : (t : Bool) → flag_at bs i ≡ t → present (head_at bs i ∷ []) ≡ flag_at bs i ∷ []
    go true e = rw (e, kept_set (λ r. some (head_of r)) none 33 bs i e)
    go false e = rw (e, kept_clear (λ r. some (head_of r)) none 33 bs i e)

pub present_flags : (goals : ℕ) (bs : List ℕ) → present (heads_of goals bs) ≡ list_up (flag_at bs) goals
unfolding heads_of
present_flags goals bs = present_up (head_at bs) (flag_at bs) goals (λ i l. present_one bs i)

-- the mask's flags
pub present_mask : (goals : ℕ) (bs : List ℕ) → goals ≤ 64 → take goals (flags 64 (number_of (region 0 8 bs))) ≡ present (heads_of goals bs)
unfolding flag_at
present_mask goals bs few = firsts (flags 64 (number_of (region 0 8 bs))) goals (rw length_flags few) ∙ sym (present_flags goals bs)

pub present_at : (goals : ℕ) (bs : List ℕ) (i : ℕ) → i < goals → get_or (present (heads_of goals bs)) i false ≡ flag_at bs i
present_at goals bs i lt = ap (λ (l : List Bool). get_or l i false) (present_flags goals bs) ∙ up_at false (flag_at bs) goals i lt

-- ---- the places
next : (o : Option ℕ) → next_place o ≡ elim o [ none ↦ none | some i ↦ some (suc i) ]
next none = refl
next (some i) = refl

pub lowest_place : (hs : CycleHeads) → first_place (present hs) ≡ opt_lowest_index hs
unfolding first_place
lowest_place [] = refl
lowest_place (some h ∷ hs) = refl
lowest_place (none ∷ hs) = ap next_place (lowest_place hs) ∙ next (opt_lowest_index hs)

pub highest_place : (hs : CycleHeads) → last_place (present hs) ≡ opt_highest_index hs
unfolding last_place
highest_place [] = refl
highest_place (some h ∷ hs) = ap (λ (o : Option ℕ). elim o [ none ↦ some 0 | some i ↦ some (suc i) ]) (highest_place hs)
highest_place (none ∷ hs) = ap next_place (highest_place hs) ∙ next (opt_highest_index hs)

-- a mask of the heads
module _ (hs : CycleHeads) (n m : ℕ) (is : flags 64 m ≡ present hs ++ replicate n false) where
  mask_last : last_place (flags 64 m) ≡ opt_highest_index hs
  mask_last = ap last_place is ∙ last_more (present hs) n ∙ highest_place hs

  pub mask_highest : place_or 0 (last_place (flags 64 m)) ≡ highest_index hs
  mask_highest = ap (place_or 0) mask_last ∙ place (opt_highest_index hs)
    where
      place : (o : Option ℕ) → place_or 0 o ≡ elim o [ none ↦ 0 | some i ↦ i ]
      place none = refl
      place (some i) = refl

  abbrev without : Option ℕ → Bool
  without o = elim o [ none ↦ true | some i ↦ false ]

  pub mask_empty : m < 2 ^ 64 → eqb m 0 ≡ heads_empty hs
  mask_empty small =
      elim (ℕ_discrete m 0) [
        | yes e ↦ eq-eqb m 0 e ∙ ap without (sym (sym mask_last ∙ ap (λ (k : ℕ). last_place (flags 64 k)) e ∙ ap last_place (flags_zero 64) ∙ last_none 64))
        | no ne ↦ let l = last_some 64 m (omega arith) small in ne_eqb m 0 ne ∙ ap without (sym (sym mask_last ∙ l.1))
      ]

-- ---- the head of an index
module _ (goals : ℕ) (bs : List ℕ) (i : ℕ) (lt : i < goals) where
  pub heads_at : get_or (heads_of goals bs) i none ≡ head_at bs i
  unfolding heads_of
  heads_at = up_at none (head_at bs) goals i lt

  -- there is one
  pub head_known : get_or (present (heads_of goals bs)) i false ≡ true → get_or (heads_of goals bs) i none ≡ some (head_of (region (8 + i * 33) 33 bs))
  head_known e = heads_at ∙ kept_set (λ r. some (head_of r)) none 33 bs i (sym (present_at goals bs i lt) ∙ e)

  -- there is none
  pub head_unknown : get_or (present (heads_of goals bs)) i false ≡ false → get_or (heads_of goals bs) i none ≡ none
  head_unknown e = heads_at ∙ kept_clear (λ r. some (head_of r)) none 33 bs i (sym (present_at goals bs i lt) ∙ e)

  -- the bytes of a head
  pub head_bytes : (h : CycleHead) → get_or (heads_of goals bs) i none ≡ some h → head_of (region (8 + i * 33) 33 bs) ≡ h
  head_bytes h e = go (get_or (present (heads_of goals bs)) i false) refl
    where
      go : (t : Bool) → get_or (present (heads_of goals bs)) i false ≡ t → head_of (region (8 + i * 33) 33 bs) ≡ h
      go true f = let k = head_known f in cc
      go false f = let k = head_unknown f in let z : ◌≡◌ {A = ℕ} 0 1 = cc in absurd (omega arith)

  -- `insert`: the record of a known head is written
  pub head_inserted : (ys : List ℕ) (p : ℕ) (u : HeadUsages) → goals ≤ 64 → 8 + i * 33 + 33 ≤ length bs → length ys ≡ 33 → get_or (present (heads_of goals bs)) i false ≡ true
      → (b1 : List ℕ) → b1 ≡ overwrite bs (8 + i * 33) ys → head_of ys ≡ join_head (some (head_of (region (8 + i * 33) 33 bs))) p u
      → heads_of goals b1 ≡ insert_head (heads_of goals bs) i p u
  unfolding heads_of
  head_inserted ys p u few room whole t b1 e1 e =
      ap (heads_of goals) e1
      ∙ block_record (λ r. some (head_of r)) none 33 bs goals i ys 0 few lt room whole (lit< tt) (sym (present_at goals bs i lt) ∙ t)
      ∙ ap (λ (x : CycleHead). set (heads_of goals bs) i (some x)) (e ∙ ap (λ (o : Option CycleHead). join_head o p u) (sym (head_known t)))

  pub insert_unknown : (p : ℕ) (u : HeadUsages) → get_or (present (heads_of goals bs)) i false ≡ false → set (heads_of goals bs) i (some (record { paths = p; usages = u })) ≡ insert_head (heads_of goals bs) i p u
  insert_unknown p u t = ap (λ (o : Option CycleHead). set (heads_of goals bs) i (some (join_head o p u))) (sym (head_unknown t))
