-- The loop of `add_heads`, and `updateParentGoal` by the frame on top.
use mathlib.Core.Path.{◌≡◌, refl, sym, ap, ap₂, ◌∙◌, subst}
use mathlib.Core.Bool.{Bool, false}
use mathlib.Core.Option.{Option, none, some}
use mathlib.Core.List.{List, ◌∷◌, ◌++◌}
use Prim.Native.Nat.{ℕ, ◌+◌, ◌*◌, ◌-◌, ◌^◌, ◌≤◌, ◌<◌}
use native.Mathlib.Omega.{arith}
use native.Mathlib.Decide.{ℕ_discrete}
use lib.ListN.{length, get_or, set, replicate, length-replicate}
use lib.Seq.{get_or-set_same, get_or-set_other}
use Rattle.definition.specs.declared.paths.PathKind.{PathKind}
use Rattle.definition.specs.declared.usages.HeadUsages.{HeadUsages}
use Rattle.definition.specs.declared.heads.CycleHead.{CycleHead}
use Rattle.definition.specs.Heads.{CycleHeads, no_heads, insert_head, join_head}
use Rattle.definition.specs.Stack.{Frame, Stack}
use Rattle.definition.specs.Paths.{flag_of}
use Rattle.definition.specs.Parent.{UpdateParentGoalCtxt, CycleOnStack, ProvisionalCacheHit, add_heads, add_rest, update_parent_goal}
use Rattle.bits.specs.Masks.{flags, first_place, place_or}
use Rattle.bits.proofs.Marks.{only, set_only}
use Rattle.buffer.specs.Regions.{region}
use Rattle.buffer.proofs.Regions.{region_region}
use Rattle.buffer.proofs.Tables.{apart}
use Rattle.layout.specs.Blocks.{heads_size, head_of, heads_of, present}
use Rattle.layout.specs.Frame.{frame_size, frame_of}
use Rattle.layout.specs.Entry.{entry_heads_start, entry_size, entry_of}
use Rattle.layout.specs.Work.{frame_start, entries_start, entry_start, graph_length, stack_of}
use Rattle.layout.proofs.Frames.{length_heads}
use Rattle.layout.proofs.Graphs.{length_stack, entry_room}
use Rattle.layout.proofs.Marks.{keep, Within}
use Rattle.layout.proofs.Marks as marks
use Rattle.layout.proofs.Present.{head_known}
use Rattle.stack.specs.Bytes.{frame_at}
use Rattle.stack.proofs.Parts.{part}
use Rattle.stack.proofs.Loops.{top, none_left}
use Rattle.stack.specs.Child.{add_head_at}
use Rattle.stack.specs.Written.{TopWritten}
use Rattle.parent.specs.Updated.{Updated}
use Rattle.parent.proofs.Heads.{one_head, no_head_lem}
use Rattle.parent.proofs.Top.{top_frame, top_again, top_same}

-- ---- the block of heads
pub block_is : (goals start size : ℕ) (bs : List ℕ) → size ≡ heads_size goals → part bs start (start + size) ≡ region start (heads_size goals) bs
block_is goals start size bs e = let w : start + size - start ≡ size = omega arith in ap (λ (m : ℕ). region start m bs) (w ∙ e)

-- ---- the loop
-- before the first turn
pub loop_first : (cs : CycleHeads) (left n : ℕ) → flags 64 left ≡ present cs ++ replicate n false → (step : PathKind) (own : ℕ) (f : Frame) → add_heads step own (keep (flags 64 left) cs) f ≡ add_heads step own cs f
loop_first cs left n is step own f = ap (λ (ms : CycleHeads). add_heads step own ms f) (marks.start_all cs left n is)

-- a turn, at index i
module _ (left i : ℕ) (pos : 0 < left) (small : left < 2 ^ 64) (is : i ≡ place_or 64 (first_place (flags 64 left))) (goals : ℕ) (block : List ℕ) (within : Within left (heads_of goals block)) where
  abbrev cs : CycleHeads
  cs = heads_of goals block

  pub turn_small : i < goals
  turn_small = marks.turn_small cs left i pos small within is goals (length_heads goals block)

  pub turn_rest : (step : PathKind) (own left' : ℕ) (head : CycleHead) (f f' whole : Frame) (b : List ℕ) → b ≡ block → head ≡ head_of (region (8 + i * 33) 33 b)
      → add_heads step own (keep (flags 64 left) (heads_of goals block)) f ≡ whole → f' ≡ add_head_at step own i head f
      → flags 64 left' ≡ set (flags 64 left) (place_or 64 (first_place (flags 64 left))) false
      → add_heads step own (keep (flags 64 left') (heads_of goals block)) f' ≡ whole
  turn_rest step own left' head f f' whole b is_b is_head rest is_f is-left =
      let known : get_or cs i none ≡ some head = head_known goals block i turn_small (marks.turn_present cs left i pos small within is) ∙ sym (ap (λ (h : CycleHead). some h) (is_head ∙ ap (λ (l : List ℕ). head_of (region (8 + i * 33) 33 l)) is_b)) in
      ap₂ (λ (ms : CycleHeads) (x : Frame). add_heads step own ms x) (marks.turn_rest cs left i pos small within is left' is-left) is_f
      ∙ one_head step own (keep (flags 64 left) cs) i head f (marks.turn_kept cs left i pos small within is ∙ known)
      ∙ rest

  pub turn_within : (left' : ℕ) → flags 64 left' ≡ set (flags 64 left) (place_or 64 (first_place (flags 64 left))) false → Within left' (heads_of goals block)
  turn_within = marks.turn_within cs left i pos small within is

-- after the last turn
pub loop_last : (step : PathKind) (own left : ℕ) (cs : CycleHeads) (f whole : Frame) → left ≡ 0 → add_heads step own (keep (flags 64 left) cs) f ≡ whole → f ≡ whole
loop_last step own left cs f whole h rest = sym (no_head_lem step own (keep (flags 64 left) cs) f (marks.end_none cs left (omega arith))) ∙ rest

-- ---- the stack
-- the frame below the one at `height`
pub below_ends : (goals height : ℕ) → 0 < height → frame_start goals (height - 1) + frame_size goals ≤ frame_start goals height
below_ends goals height pos = apart (height - 1) height (frame_size goals) (omega arith)

module _ (goals height : ℕ) (bs : List ℕ) (step : PathKind) (hs : CycleHeads) (o : Bool) (ctxt : UpdateParentGoalCtxt) (r : ℕ) where
  pub update_none : height ≡ 0 → Updated goals height step hs o ctxt r bs bs
  update_none z =
      let e = none_left goals bs height (omega arith) in
      record { stack = e ∙ sym (ap (λ (s : Stack). update_parent_goal s step hs o ctxt r) e); entries = λ n. refl; above = refl }

  update_top : (out : List ℕ) → 0 < height → TopWritten goals (height - 1) (add_rest step o ctxt r (add_heads step (height - 1) hs (frame_at goals (height - 1) bs))) bs out
      → stack_of goals height out ≡ update_parent_goal (stack_of goals height bs) step hs o ctxt r
  update_top out pos w =
      let e : height ≡ height - 1 + 1 = omega arith in
      ap (λ (k : ℕ). stack_of goals k out) e ∙ w.stack
      ∙ ap (λ (n : ℕ). add_rest step o ctxt r (add_heads step n hs (frame_at goals (height - 1) bs)) ∷ stack_of goals (height - 1) bs) (sym (length_stack goals (height - 1) bs))
      ∙ sym (ap (λ (s : Stack). update_parent_goal s step hs o ctxt r) (top goals bs height pos))

  -- in one step
  pub update_once : (out : List ℕ) → 0 < height → TopWritten goals (height - 1) (add_rest step o ctxt r (add_heads step (height - 1) hs (frame_at goals (height - 1) bs))) bs out
      → Updated goals height step hs o ctxt r bs out
  update_once out pos w = record { stack = update_top out pos w; entries = w.entries; above = w.above (frame_start goals height) (frame_size goals) (below_ends goals height pos) }

  -- the heads, then the rest
  pub update_both : (mid out : List ℕ) → 0 < height → TopWritten goals (height - 1) (add_heads step (height - 1) hs (frame_at goals (height - 1) bs)) bs mid
      → TopWritten goals (height - 1) (add_rest step o ctxt r (frame_at goals (height - 1) mid)) mid out
      → Updated goals height step hs o ctxt r bs out
  update_both mid out pos w v =
      let f : Frame = add_heads step (height - 1) hs (frame_at goals (height - 1) bs) in
      let g : Frame = add_rest step o ctxt r (frame_at goals (height - 1) mid) in
      update_once out pos (top_same goals (height - 1) g bs out (top_again goals (height - 1) f bs mid w g out v) (add_rest step o ctxt r f) (ap (add_rest step o ctxt r) (top_frame goals (height - 1) f bs mid w)))

-- ---- no head: a slot
pub update_slot : (goals height : ℕ) (bs out : List ℕ) (step : PathKind) (o : Bool) (ctxt : UpdateParentGoalCtxt) (r : ℕ) → 0 < height
    → TopWritten goals (height - 1) (add_rest step o ctxt r (frame_at goals (height - 1) bs)) bs out
    → Updated goals height step (no_heads goals) o ctxt r bs out
update_slot goals height bs out step o ctxt r pos v =
    let f : Frame = frame_at goals (height - 1) bs in
    let rest : Frame → Frame = add_rest step o ctxt r in
    update_once goals height bs step (no_heads goals) o ctxt r out pos
    (top_same goals (height - 1) (rest f) bs out v (rest (add_heads step (height - 1) (no_heads goals) f)) (ap rest (sym (no_head_lem step (height - 1) (no_heads goals) f (only none goals)))))

-- ---- one head: a goal on the stack
module _ (goals head : ℕ) (lt : head < goals) (step : PathKind) (own : ℕ) (c : CycleHead) (f : Frame) where
  clear : (i : ℕ) → get_or (set (set (no_heads goals) head (some c)) head none) i none ≡ none
  clear i =
      elim (ℕ_discrete i head) [
        | yes e ↦ ap (λ (k : ℕ). get_or (set (set (no_heads goals) head (some c)) head none) k none) e ∙ set_only none (set (no_heads goals) head (some c)) head
        | no ne ↦ get_or-set_other (set (no_heads goals) head (some c)) head i none none ne ∙ get_or-set_other (no_heads goals) head i (some c) none ne ∙ only none goals i
      ]

  pub cycle_heads : (p : ℕ) (u : HeadUsages) → c ≡ record { paths = p; usages = u } → add_head_at step own head c f ≡ add_heads step own (insert_head (no_heads goals) head p u) f
  cycle_heads p u e =
      let ms : CycleHeads = set (no_heads goals) head (some c) in
      let inside : head < length (no_heads goals) = rw length-replicate lt in
      let is : ms ≡ insert_head (no_heads goals) head p u = ap (λ (x : CycleHead). set (no_heads goals) head (some x)) (e ∙ sym (ap (λ (h : Option CycleHead). join_head h p u) (only none goals head))) in
      sym (no_head_lem step own (set ms head none) (add_head_at step own head c f) clear)
      ∙ one_head step own ms head c f (get_or-set_same (no_heads goals) head (some c) none inside)
      ∙ ap (λ (l : CycleHeads). add_heads step own l f) is

-- ---- an entry's heads
pub entry_heads_at : (goals : ℕ) (bs : List ℕ) (i : ℕ) → heads_of goals (region (entry_start goals i + entry_heads_start) (heads_size goals) bs) ≡ (entry_of goals (region (entry_start goals i) (entry_size goals) bs)).heads
unfolding entry_of
entry_heads_at goals bs i = sym (ap (heads_of goals) (region_region (entry_start goals i) (entry_size goals) entry_heads_start (heads_size goals) bs (omega arith)))

past : (x y z : ℕ) → x ≤ y → x ≤ y + z + entry_heads_start
past x y z h = omega arith

inner : (a e h n : ℕ) → e ≡ entry_heads_start + h → a + e ≤ n → a + entry_heads_start + h ≤ n
inner a e h n q l = omega arith

pub entry_behind : (goals own i start : ℕ) → own < goals → start ≡ entry_start goals i + entry_heads_start → frame_start goals own + frame_size goals ≤ start
entry_behind goals own i start lt e = subst (λ (x : ℕ). frame_start goals own + frame_size goals ≤ x) (sym e) (past (frame_start goals own + frame_size goals) (entries_start goals) (i * entry_size goals) (apart own goals (frame_size goals) lt))

pub entry_fits : (goals : ℕ) (bs : List ℕ) (i start : ℕ) → length bs ≡ graph_length goals → i < 2 * goals → start ≡ entry_start goals i + entry_heads_start → start + heads_size goals ≤ length bs
entry_fits goals bs i start long lt e =
    subst (λ (x : ℕ). x + heads_size goals ≤ length bs) (sym e) (inner (entry_start goals i) (entry_size goals) (heads_size goals) (length bs) (omega arith) (entry_room goals (entries_start goals) bs long i lt))

-- ---- by what the calls say
pub update_entry : (goals height i start : ℕ) (bs mid out : List ℕ) (step : PathKind) (o : Bool) (r : ℕ) → 0 < height → start ≡ entry_start goals i + entry_heads_start
    → TopWritten goals (height - 1) (add_heads step (height - 1) (heads_of goals (region start (heads_size goals) bs)) (frame_at goals (height - 1) bs)) bs mid
    → TopWritten goals (height - 1) (add_rest step o ProvisionalCacheHit r (frame_at goals (height - 1) mid)) mid out
    → Updated goals height step (entry_of goals (region (entry_start goals i) (entry_size goals) bs)).heads o ProvisionalCacheHit r bs out
update_entry goals height i start bs mid out step o r pos e w v =
    let f : Frame = frame_at goals (height - 1) bs in
    let hs : CycleHeads = (entry_of goals (region (entry_start goals i) (entry_size goals) bs)).heads in
    let was : CycleHeads = heads_of goals (region start (heads_size goals) bs) in
    let same : was ≡ hs = ap (λ (k : ℕ). heads_of goals (region k (heads_size goals) bs)) e ∙ entry_heads_at goals bs i in
    update_both goals height bs step hs o ProvisionalCacheHit r mid out pos
    (top_same goals (height - 1) (add_heads step (height - 1) was f) bs mid w (add_heads step (height - 1) hs f) (ap (λ (l : CycleHeads). add_heads step (height - 1) l f) same)) v

pub update_cycle : (goals height head goal : ℕ) (bs out : List ℕ) (step : PathKind) (u : HeadUsages) (r : ℕ) → head < height → height ≤ goals
    → TopWritten goals (height - 1) (add_rest step false (CycleOnStack goal) r (add_head_at step (height - 1) head (record { paths = flag_of step; usages = u }) (frame_at goals (height - 1) bs))) bs out
    → Updated goals height step (insert_head (no_heads goals) head (flag_of step) u) false (CycleOnStack goal) r bs out
update_cycle goals height head goal bs out step u r lt le w =
    let f : Frame = frame_at goals (height - 1) bs in
    let c : CycleHead = record { paths = flag_of step; usages = u } in
    let hs : CycleHeads = insert_head (no_heads goals) head (flag_of step) u in
    let rest : Frame → Frame = add_rest step false (CycleOnStack goal) r in
    let inside : head < goals = omega arith in
    update_once goals height bs step hs false (CycleOnStack goal) r out (omega arith)
    (top_same goals (height - 1) (rest (add_head_at step (height - 1) head c f)) bs out w (rest (add_heads step (height - 1) hs f)) (ap rest (cycle_heads goals head inside step (height - 1) c f (flag_of step) u refl)))

-- ---- the heads of the frame above
pub frame_heads_at : (goals : ℕ) (bs : List ℕ) (i : ℕ) → heads_of goals (region (frame_start goals i + 40) (heads_size goals) bs) ≡ (frame_at goals i bs).heads
unfolding frame_of
frame_heads_at goals bs i = sym (ap (heads_of goals) (region_region (frame_start goals i) (frame_size goals) 40 (heads_size goals) bs (omega arith)))

pub update_frame : (goals height start : ℕ) (bs mid out : List ℕ) (step : PathKind) (o : Bool) (ctxt : UpdateParentGoalCtxt) (r : ℕ) → 0 < height → start ≡ frame_start goals height + 40
    → TopWritten goals (height - 1) (add_heads step (height - 1) (heads_of goals (region start (heads_size goals) bs)) (frame_at goals (height - 1) bs)) bs mid
    → TopWritten goals (height - 1) (add_rest step o ctxt r (frame_at goals (height - 1) mid)) mid out
    → Updated goals height step (frame_at goals height bs).heads o ctxt r bs out
update_frame goals height start bs mid out step o ctxt r pos e w v =
    let f : Frame = frame_at goals (height - 1) bs in
    let hs : CycleHeads = (frame_at goals height bs).heads in
    let was : CycleHeads = heads_of goals (region start (heads_size goals) bs) in
    let same : was ≡ hs = ap (λ (k : ℕ). heads_of goals (region k (heads_size goals) bs)) e ∙ frame_heads_at goals bs height in
    update_both goals height bs step hs o ctxt r mid out pos
    (top_same goals (height - 1) (add_heads step (height - 1) was f) bs mid w (add_heads step (height - 1) hs f) (ap (λ (l : CycleHeads). add_heads step (height - 1) l f) same)) v
