-- The turns of the loops over the heads of the popped frame.
use mathlib.Core.Path.{◌≡◌, refl, sym, ap, ap₂, ◌∙◌}
use mathlib.Core.Bool.{Bool, true, false, ◌&&◌, and-true, and_assoc}
use mathlib.Core.Option.{none, some, none-ne-some, some-ne-none}
use mathlib.Core.List.{List, [], ◌∷◌, ◌++◌}
use Prim.Native.Nat.{ℕ, zero, suc, ◌+◌, ◌^◌, ◌≤◌, ◌<◌, min, max}
use native.Mathlib.Nat.{zero-add, add-zero}
use native.Mathlib.Omega.{arith}
use lib.ListN.{length, get_or, set, replicate}
use Rattle.definition.specs.declared.paths.PathKind.{PathKind}
use Rattle.definition.specs.declared.heads.CycleHead.{CycleHead}
use Rattle.definition.specs.Paths.{kind_number, extend, iter_paths}
use Rattle.definition.specs.Heads.{CycleHeads, join_head, for_each_head}
use Rattle.definition.specs.Stack.{Stack, Frame, cycle_path_kind}
use Rattle.definition.specs.Graph.{Entry, with_entry_heads}
use Rattle.definition.specs.ProvisionalCache.{every_ph_keeps, paths_keep_kind}
use Rattle.bits.specs.Masks.{flags, first_place, place_or}
use Rattle.layout.specs.Blocks.{present}
use Rattle.layout.proofs.Marks.{keep, Within, start_all, start_within, turn_small, turn_head, turn_kept, turn_rest}
use Rattle.layout.proofs.Marks.{turn_within, end_none, each_one, each_clear}
use Rattle.layout.specs.Frame.{frame_size}
use Rattle.layout.specs.Work.{entry_from}
use Rattle.provisional_cache.specs.Entries.{with_joined_head}
use Rattle.pop.specs.Popped.{popped_frame, PoppedHead, bound_keeps, lowest_of}
use Rattle.pop.specs.Heads.{gained_head, gain_head, gained_entry}
use Rattle.pop.specs.Rebased.{OthersKept, EntryWritten}
use Rattle.pop.proofs.Bounds.{bound_highest, bound_both, ph_bound}
use Rattle.pop.proofs.Writes.{others_same, others_then, frame_after, popped_length}

-- ---- `lowest_cycle`
and_swap : (a b c : Bool) → (a && (b && c)) ≡ (b && (a && c))
and_swap true b c = refl
and_swap false true c = refl
and_swap false false c = refl

module _ (s : Stack) (step path : PathKind) (ep : ℕ) where
  -- whether the paths from the head c at index i keep their kind
  abbrev keeps_at : ℕ → CycleHead → Bool
  keeps_at i c =
      every_ph_keeps (cycle_path_kind s step i) (extend (cycle_path_kind s step i) path) (iter_paths ep) (iter_paths c.paths)

  -- one head c of the heads ms
  keep_one : (ms : CycleHeads) (j i : ℕ) (c : CycleHead) → get_or ms i none ≡ some c
      → paths_keep_kind s step path ep j ms ≡ (keeps_at (j + i) c && paths_keep_kind s step path ep j (set ms i none))
  keep_one [] j i c e = absurd (none-ne-some c e)
  keep_one (none ∷ ms) j zero c e = absurd (none-ne-some c e)
  keep_one (some d ∷ ms) j zero c e =
      let q : d ≡ c = cc in
      ap₂ (λ (k : ℕ) (x : CycleHead). keeps_at k x && paths_keep_kind s step path ep (suc j) ms) (sym (add-zero j)) q
  keep_one (none ∷ ms) j (suc i) c e =
      let m : suc j + i ≡ j + suc i = omega arith in
      keep_one ms (suc j) i c e ∙ ap (λ (k : ℕ). keeps_at k c && paths_keep_kind s step path ep (suc j) (set ms i none)) m
  keep_one (some d ∷ ms) j (suc i) c e =
      let m : suc j + i ≡ j + suc i = omega arith in
      ap (λ (x : Bool). keeps_at j d && x)
      (keep_one ms (suc j) i c e ∙ ap (λ (k : ℕ). keeps_at k c && paths_keep_kind s step path ep (suc j) (set ms i none)) m)
      ∙ and_swap (keeps_at j d) (keeps_at (j + suc i) c) (paths_keep_kind s step path ep (suc j) (set ms i none))

  keep_clear : (ms : CycleHeads) (j : ℕ) → ((i : ℕ) → get_or ms i none ≡ none) → paths_keep_kind s step path ep j ms ≡ true
  keep_clear [] j h = refl
  keep_clear (none ∷ ms) j h = keep_clear ms (suc j) (λ i. h (suc i))
  keep_clear (some c ∷ ms) j h = absurd (some-ne-none c (h 0))

-- of every stack that Left allows
module _ (Left : Stack → Type 0) (step : PathKind) (cs : CycleHeads) where
  -- the bound so far, and the heads that are left, make the whole
  pub record Lowering (lowest left : ℕ) : Type 0 where
    pub small : left < 2 ^ 64
    pub within : Within left cs
    pub rest : (s : Stack) → Left s → (path : PathKind) (ep : ℕ)
        → (bound_keeps lowest path (iter_paths ep) && paths_keep_kind s step path ep 0 (keep (flags 64 left) cs))
        ≡ paths_keep_kind s step path ep 0 cs

  pub lowering_start : (left n : ℕ) → left < 2 ^ 64 → flags 64 left ≡ present cs ++ replicate n false → Lowering 3 left
  lowering_start left n small is =
      record {
        small = small;
        within = start_within cs left n is;
        rest = λ s m path ep.
            ap₂ (λ (x : Bool) (hs : CycleHeads). x && paths_keep_kind s step path ep 0 hs)
            (bound_highest path 3 (omega arith) (iter_paths ep)) (start_all cs left n is);
      }

  pub lowering_next : (lowest left i : ℕ) → Lowering lowest left → 0 < left
      → i ≡ place_or 64 (first_place (flags 64 left))
      → (hp : ℕ) → ((s : Stack) → Left s → hp ≡ kind_number (cycle_path_kind s step i))
      → (head : CycleHead) → ((c : CycleHead) → get_or cs i none ≡ some c → head ≡ c)
      → (lowest' : ℕ) → lowest' ≡ min lowest (max (lowest_of (iter_paths head.paths)) hp)
      → (left' : ℕ) → flags 64 left' ≡ set (flags 64 left) (place_or 64 (first_place (flags 64 left))) false → left' < left
      → Lowering lowest' left'
  lowering_next lowest left i inv pos is hp is-hp head is_head lowest' is-lowest left' is-left less =
      let old = inv.small in
      record {
        small = omega arith;
        within = turn_within cs left i pos inv.small inv.within is left' is-left;
        rest = λ s m path ep.
            ap₂ (λ (b : ℕ) (hs : CycleHeads). bound_keeps b path (iter_paths ep) && paths_keep_kind s step path ep 0 hs) is-lowest
            (turn_rest cs left i pos inv.small inv.within is left' is-left)
            ∙ opened s m path ep ∙ inv.rest s m path ep;
      }
    where
      kind : ℕ
      kind = max (lowest_of (iter_paths head.paths)) hp

      ms : CycleHeads
      ms = keep (flags 64 left) cs

      -- the bound of the head at i stands for whether its paths keep their kind
      opened : (s : Stack) → Left s → (path : PathKind) (ep : ℕ)
          → (bound_keeps (min lowest kind) path (iter_paths ep) && paths_keep_kind s step path ep 0 (set ms i none))
          ≡ (bound_keeps lowest path (iter_paths ep) && paths_keep_kind s step path ep 0 ms)
      opened s m path ep =
          let t = turn_head cs left i pos inv.small inv.within is in
          let eps : List PathKind = iter_paths ep in
          let rest : Bool = paths_keep_kind s step path ep 0 (set ms i none) in
          let one : bound_keeps kind path eps ≡ keeps_at s step path ep (0 + i) t.0 =
          ap₂ (λ (h : CycleHead) (n : ℕ). bound_keeps (max (lowest_of (iter_paths h.paths)) n) path eps) (is_head t.0 t.1)
          (is-hp s m)
          ∙ sym (ph_bound path (cycle_path_kind s step i) eps (iter_paths t.0.paths))
          ∙ ap (λ (k : ℕ). keeps_at s step path ep k t.0) (sym (zero-add i)) in
          ap (λ (x : Bool). x && rest) (bound_both path lowest kind eps)
          ∙ and_assoc (bound_keeps lowest path eps) (bound_keeps kind path eps) rest
          ∙ ap (λ (x : Bool). bound_keeps lowest path eps && x)
          (ap (λ (x : Bool). x && rest) one
          ∙ sym (keep_one s step path ep ms 0 i t.0 (turn_kept cs left i pos inv.small inv.within is ∙ t.1)))

  pub lowering_done : (lowest left : ℕ) → Lowering lowest left → left ≡ 0 → (s : Stack) → Left s
      → (path : PathKind) (ep : ℕ) → paths_keep_kind s step path ep 0 cs ≡ bound_keeps lowest path (iter_paths ep)
  lowering_done lowest left inv h s m path ep =
      sym (inv.rest s m path ep)
      ∙ ap (λ (x : Bool). bound_keeps lowest path (iter_paths ep) && x)
      (keep_clear s step path ep (keep (flags 64 left) cs) 0 (end_none cs left (omega arith)))
      ∙ and-true (bound_keeps lowest path (iter_paths ep))

-- ---- `gain_heads`
module _ (goals base k : ℕ) (used : Bool) (ep : ℕ) (old : List ℕ) where
  abbrev cs : CycleHeads
  cs = (popped_frame goals old).heads

  -- the entry so far, and the heads that are left, make the whole
  pub record Gaining (new : List ℕ) (left : ℕ) : Type 0 where
    pub same_length : length new ≡ length old
    pub small : left < 2 ^ 64
    pub within : Within left (popped_frame goals old).heads
    pub others : OthersKept goals base k old new
    pub entry : entry_from goals base k new ≡ with_entry_heads (entry_from goals base k old)
        (entry_from goals base k new).heads
    pub rest : for_each_head (gain_head used ep) (entry_from goals base k new).heads
        (keep (flags 64 left) (popped_frame goals old).heads)
        ≡ for_each_head (gain_head used ep) (entry_from goals base k old).heads (popped_frame goals old).heads

  pub gaining_start : (left n : ℕ) → left < 2 ^ 64 → flags 64 left ≡ present cs ++ replicate n false → Gaining old left
  gaining_start left n small is =
      record {
        same_length = refl;
        small = small;
        within = start_within cs left n is;
        others = others_same goals base k old;
        entry = refl;
        rest = ap (for_each_head (gain_head used ep) (entry_from goals base k old).heads) (start_all cs left n is);
      }

  module _ (now : List ℕ) (left i : ℕ) (inv : Gaining now left) (pos : 0 < left)
      (is : i ≡ place_or 64 (first_place (flags 64 left))) where
    pub gaining_small : i < goals
    gaining_small = turn_small cs left i pos inv.small inv.within is goals (popped_length goals old)

    module _ (wide : frame_size goals ≤ base) (r head : CycleHead)
        (is-r : (c : CycleHead) → PoppedHead goals now i c → r ≡ c) (is_head : head ≡ gained_head used ep r)
        (new : List ℕ) (joined : EntryWritten goals base k (with_joined_head (entry_from goals base k now) i head) now new) where
      abbrev hs : CycleHeads
      hs = (entry_from goals base k now).heads

      same_heads : (popped_frame goals now).heads ≡ cs
      same_heads = ap (λ (x : Frame). x.heads) (frame_after goals base old now wide inv.others.below)

      new_heads : (c : CycleHead) → get_or cs i none ≡ some c
          → (entry_from goals base k new).heads ≡ set hs i (some (gain_head used ep c (get_or hs i none)))
      new_heads c e =
          ap (λ (x : Entry). x.heads) joined.entry
          ∙ ap (λ (x : CycleHead). set hs i (some (join_head (get_or hs i none) x.paths x.usages)))
          (is_head ∙ ap (gained_head used ep) (is-r c (ap (λ (l : CycleHeads). get_or l i none) same_heads ∙ e)))

      pub gaining_next : length new ≡ length now → (left' : ℕ)
          → flags 64 left' ≡ set (flags 64 left) (place_or 64 (first_place (flags 64 left))) false → left' < left
          → Gaining new left'
      gaining_next len left' is-left less =
          let was = inv.small in
          let t = turn_head cs left i pos inv.small inv.within is in
          let ms : CycleHeads = keep (flags 64 left) cs in
          record {
            same_length = len ∙ inv.same_length;
            small = omega arith;
            within = turn_within cs left i pos inv.small inv.within is left' is-left;
            others = others_then goals base k old now new inv.others joined.others;
            entry =
                joined.entry
                ∙ ap₂ with_entry_heads inv.entry (sym (ap (λ (x : Entry). x.heads) joined.entry));
            rest =
                ap₂ (for_each_head (gain_head used ep)) (new_heads t.0 t.1)
                (turn_rest cs left i pos inv.small inv.within is left' is-left)
                ∙ each_one (gain_head used ep) hs ms i t.0
                (turn_kept cs left i pos inv.small inv.within is ∙ t.1)
                ∙ inv.rest;
          }

  pub gaining_done : (now : List ℕ) (left : ℕ) → Gaining now left → left ≡ 0
      → EntryWritten goals base k (gained_entry goals base k used ep old) old now
  gaining_done now left inv h =
      record {
        entry =
            inv.entry
            ∙ ap (with_entry_heads (entry_from goals base k old))
            (sym (each_clear (gain_head used ep) (entry_from goals base k now).heads (keep (flags 64 left) cs) (end_none cs left (omega arith))) ∙ inv.rest);
        others = inv.others;
      }
