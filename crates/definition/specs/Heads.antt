-- `CycleHeads` of mod.rs: at place i of the list, the head at stack index i. The list is as long as there are goals.
use Rattle.std.specs.Prelude.{ℕ, suc, Bool, true, false, List, [], ◌∷◌, get_or, set, replicate}
use Rattle.std.proofs.Math.Option.{Option, none, some}
use Rattle.std.specs.Int.Bits.{bit_or}
use Rattle.definition.specs.declared.usages.HeadUsages.{HeadUsages}
use Rattle.definition.specs.declared.heads.CycleHead.{CycleHead}
use Rattle.definition.specs.Usages.{no_usages, add_usages_from_nested, ignore_usages}

abbrev pub CycleHeads : Type 0
CycleHeads = List (Option CycleHead)

abbrev pub no_heads : ℕ → CycleHeads
no_heads goals = replicate goals none

abbrev pub opt_lowest_index : CycleHeads → Option ℕ
opt_lowest_index [] = none
opt_lowest_index (some h ∷ hs) = some 0
opt_lowest_index (none ∷ hs) = elim (opt_lowest_index hs) [ none ↦ none | some i ↦ some (suc i) ]

abbrev pub opt_highest_index : CycleHeads → Option ℕ
opt_highest_index [] = none
opt_highest_index (some h ∷ hs) = elim (opt_highest_index hs) [ none ↦ some 0 | some i ↦ some (suc i) ]
opt_highest_index (none ∷ hs) = elim (opt_highest_index hs) [ none ↦ none | some i ↦ some (suc i) ]

abbrev pub heads_empty : CycleHeads → Bool
heads_empty hs = elim (opt_highest_index hs) [ none ↦ true | some i ↦ false ]

-- highest_cycle_head_index, of heads that are not empty
abbrev pub highest_index : CycleHeads → ℕ
highest_index hs = elim (opt_highest_index hs) [ none ↦ 0 | some i ↦ i ]

abbrev pub usages_at : CycleHeads → ℕ → HeadUsages
usages_at hs i = elim (get_or hs i none) [ none ↦ no_usages | some h ↦ h.usages ]

abbrev pub paths_at : CycleHeads → ℕ → ℕ
paths_at hs i = elim (get_or hs i none) [ none ↦ 0 | some h ↦ h.paths ]

abbrev pub remove_head : CycleHeads → ℕ → CycleHeads
remove_head hs i = set hs i none

-- CycleHeads::insert, at one index: a new head takes the counters whole, a known one gains at most 1 of each kind
abbrev pub join_head : Option CycleHead → ℕ → HeadUsages → CycleHead
join_head none p u = record { paths = p; usages = u }
join_head (some h) p u = record { paths = bit_or h.paths p; usages = add_usages_from_nested h.usages u }

abbrev pub insert_head : CycleHeads → ℕ → ℕ → HeadUsages → CycleHeads
insert_head hs i p u = set hs i (some (join_head (get_or hs i none) p u))

-- a loop over the heads cs: at each head c of them, the head of hs there becomes `f c` of what it was
abbrev pub for_each_head : (CycleHead → Option CycleHead → CycleHead) → CycleHeads → CycleHeads → CycleHeads
for_each_head f [] cs = []
for_each_head f (h ∷ hs) [] = h ∷ hs
for_each_head f (h ∷ hs) (none ∷ cs) = h ∷ for_each_head f hs cs
for_each_head f (h ∷ hs) (some c ∷ cs) = some (f c h) ∷ for_each_head f hs cs

abbrev pub ignore_at_head : Option CycleHead → HeadUsages → Option CycleHead
ignore_at_head none u = none
ignore_at_head (some h) u = some (record { paths = h.paths; usages = ignore_usages h.usages u })

-- CycleHeads::ignore_usages, at every index
abbrev pub ignore_at_heads : CycleHeads → List HeadUsages → CycleHeads
ignore_at_heads [] us = []
ignore_at_heads (h ∷ hs) [] = h ∷ hs
ignore_at_heads (h ∷ hs) (u ∷ us) = ignore_at_head h u ∷ ignore_at_heads hs us
