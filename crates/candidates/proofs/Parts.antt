-- The parts of the workspace: the frame at index `own`, and its merged usages; lent, and back.
use mathlib.Core.Path.{◌≡◌, refl, sym, ap, ap₂, ◌∙◌}
use mathlib.Core.List.{List, ◌∷◌}
use mathlib.Core.Option.{Option}
use Prim.Native.Nat.{ℕ, ◌+◌, ◌*◌, ◌-◌, ◌≤◌, ◌<◌}
use native.Mathlib.Nat.{zero-add, le_trans, le-add_right}
use native.Mathlib.Numerals.{add-one}
use native.Mathlib.Omega.{arith}
use lib.ListN.{length}
use Rattle.definition.specs.declared.usages.HeadUsages.{HeadUsages}
use Rattle.definition.specs.Stack.{Frame, Stack, with_candidate_usages}
use Rattle.definition.specs.Candidates.{set_candidate_usages}
use Rattle.buffer.specs.Regions.{region, overwrite}
use Rattle.buffer.proofs.Regions.{length_region, region_region, region_inside}
use Rattle.buffer.proofs.Tables.{apart}
use Rattle.layout.specs.Blocks.{block_size, candidate_of, UsagesBlock}
use Rattle.layout.specs.Frame.{frame_size, frame_of}
use Rattle.layout.specs.Entry.{entry_size}
use Rattle.layout.specs.Work.{frame_start, entries_start, graph_length, merged_start, stack_of, entries_of, merged_of}
use Rattle.layout.proofs.Graphs.{at_least, merged_room, stack_push, entries_push, merged_whole, merged_other, merged_graph, graph_merged}
use Rattle.stack.specs.Bytes.{FrameBytes, GraphBytes}
use Rattle.stack.specs.Written.{StackWritten}
use Rattle.stack.proofs.Parts.{part, returned, part_length, part_back, returned_length}
use Rattle.stack.proofs.Loops.{stack_top, top_is, under_is}
use Rattle.stack.proofs.Ranges.{range_written}
use Rattle.evaluation.specs.Workspace.{WorkBytes, graph_in}
use Rattle.evaluation.proofs.Lent.{graph_room, graph_long}
use Rattle.candidates.specs.Written.{merged_bytes, top_bytes, top_of, MergedWritten, FrameWritten}

-- ---- orders, over what the sizes are
both : (a n : ℕ) {x y : ℕ} → a ≡ x → n ≡ y → {l : ℕ} → x + y ≤ l → a + n ≤ l
both a n p q h = omega arith

-- ---- a graph's top frame, by its range
-- what it tracks is written
pub tracked_written : {goals : ℕ} {bs : List ℕ} {own a e : ℕ} (c : Option (List HeadUsages)) → GraphBytes goals bs → own < goals → a ≡ frame_start goals own → e ≡ frame_start goals own + frame_size goals
    → (ys : List ℕ) → length ys ≡ length (part bs a e) → frame_of goals ys ≡ with_candidate_usages (frame_of goals (part bs a e)) c
    → StackWritten goals (own + 1) (set_candidate_usages c (stack_of goals (own + 1) bs)) bs (returned bs a e ys)
tracked_written {goals = goals} {bs = bs} {own = own} c g lt is-a is-e ys kept is =
    let w = range_written g lt is-a is-e (λ (f : Frame). with_candidate_usages f c) ys kept is in
    record { stack = w.stack ∙ sym (ap (set_candidate_usages c) (stack_top goals own bs)); entries = w.entries }

-- ---- the workspace
module _ (goals : ℕ) (work : List ℕ) (w : WorkBytes goals work) (own : ℕ) (lt : own < goals) where
  frame_ends : frame_start goals own + frame_size goals ≤ graph_length goals
  frame_ends = le_trans (apart own goals (frame_size goals) lt) (le-add_right (entries_start goals) (2 * goals * entry_size goals))

  -- ---- the frame, from a to e
  top_region : region (frame_start goals own) (frame_size goals) work ≡ top_bytes goals own work
  unfolding graph_in
  top_region =
      ap (λ (k : ℕ). region k (frame_size goals) work) (sym (zero-add (frame_start goals own)))
      ∙ sym (region_region 0 (graph_length goals) (frame_start goals own) (frame_size goals) work frame_ends)

  pub top_bytes_lem : (r : List ℕ) → r ≡ top_bytes goals own work → FrameBytes goals r
  top_bytes_lem r e =
      record { few = w.few; long = ap length (e ∙ sym top_region) ∙ length_region (frame_start goals own) (frame_size goals) work (le_trans frame_ends (graph_room goals work w)) }

  graph_frame : (ys : List ℕ) → frame_start goals own + length ys ≤ graph_length goals → graph_in goals (overwrite work (frame_start goals own) ys) ≡ overwrite (graph_in goals work) (frame_start goals own) ys
  unfolding graph_in
  graph_frame ys inner =
      ap (λ (k : ℕ). graph_in goals (overwrite work k ys)) (sym (zero-add (frame_start goals own)))
      ∙ region_inside work 0 (graph_length goals) (frame_start goals own) ys inner (le_trans (at_least (sym (zero-add (graph_length goals)))) (graph_room goals work w))

  module _ {a e : ℕ} (is-a : a ≡ frame_start goals own) (is-e : e ≡ frame_start goals own + frame_size goals) where
    width : e - a ≡ frame_size goals
    width = omega arith

    pub top_room : e ≤ length work
    top_room = omega (arith, le_trans frame_ends (graph_room goals work w))

    pub top_part : part work a e ≡ top_bytes goals own work
    top_part = ap₂ (λ (m k : ℕ). region k m work) width is-a ∙ top_region

    pub frame_length : (ys : List ℕ) → length ys ≡ length (part work a e) → length (returned work a e ys) ≡ length work
    frame_length ys = returned_length work a e ys (omega arith) top_room

    pub top_frame : FrameBytes goals (part work a e)
    top_frame = top_bytes_lem (part work a e) top_part

    -- it comes back as `make` makes it
    pub frame_written : (make : Frame → Frame) (ys : List ℕ) → length ys ≡ length (part work a e) → frame_of goals ys ≡ make (frame_of goals (part work a e))
        → FrameWritten goals own (make (top_of goals own work)) work (returned work a e ys)
    frame_written make ys kept made =
        record {
          stack = ap₂ (λ (k : ℕ) (l : List ℕ). stack_of goals k l) (add-one own) graph_now ∙ stack_push goals (graph_in goals work) (graph_long goals work w) own ys lt whole ∙ ap (λ (f : Frame). f ∷ stack_of goals own (graph_in goals work)) is;
          entries = λ k. ap (entries_of goals k) graph_now ∙ entries_push goals (graph_in goals work) (graph_long goals work w) own ys lt whole k;
          merged = λ i l. ap (merged_of goals i) back ∙ graph_merged goals work w.long (frame_start goals own) ys inner i;
        }
      where
        whole : length ys ≡ frame_size goals
        whole = part_length work a e ys (omega arith) top_room kept ∙ width

        inner : frame_start goals own + length ys ≤ graph_length goals
        inner = both (frame_start goals own) (length ys) refl whole frame_ends

        back : returned work a e ys ≡ overwrite work (frame_start goals own) ys
        back = part_back work a e ys (omega arith) top_room kept ∙ ap (λ (k : ℕ). overwrite work k ys) is-a

        graph_now : graph_in goals (returned work a e ys) ≡ overwrite (graph_in goals work) (frame_start goals own) ys
        graph_now = ap (graph_in goals) back ∙ graph_frame ys inner

        is : frame_of goals ys ≡ make (top_of goals own work)
        is = made ∙ ap (λ (l : List ℕ). make (frame_of goals l)) top_part

  -- ---- the merged usages, from a to e
  pub merged_bytes_lem : (r : List ℕ) → r ≡ merged_bytes goals own work → UsagesBlock goals r
  merged_bytes_lem r e = record { few = w.few; long = ap length e ∙ length_region (merged_start goals own) (block_size goals) work (merged_room goals work w.long own lt) }

  pub merged_is : (r : List ℕ) → r ≡ merged_bytes goals own work → candidate_of goals r ≡ merged_of goals own work
  unfolding merged_of
  merged_is r e = ap (candidate_of goals) e

  graph_kept : (ys : List ℕ) → length ys ≡ block_size goals → graph_in goals (overwrite work (merged_start goals own) ys) ≡ graph_in goals work
  unfolding graph_in
  graph_kept ys whole = merged_graph goals work w.long own ys lt whole

  module _ {a e : ℕ} (is-a : a ≡ merged_start goals own) (is-e : e ≡ merged_start goals own + block_size goals) where
    broad : e - a ≡ block_size goals
    broad = omega arith

    pub block_room : e ≤ length work
    block_room = omega (arith, merged_room goals work w.long own lt)

    pub merged_part : part work a e ≡ merged_bytes goals own work
    merged_part = ap₂ (λ (m k : ℕ). region k m work) broad is-a

    pub block_length : (ys : List ℕ) → length ys ≡ length (part work a e) → length (returned work a e ys) ≡ length work
    block_length ys = returned_length work a e ys (omega arith) block_room

    pub merged_block : UsagesBlock goals (part work a e)
    merged_block = merged_bytes_lem (part work a e) merged_part

    pub merged_written : (make : List HeadUsages → List HeadUsages) (ys : List ℕ) → length ys ≡ length (part work a e) → candidate_of goals ys ≡ make (candidate_of goals (part work a e))
        → MergedWritten goals own (make (merged_of goals own work)) work (returned work a e ys)
    merged_written make ys kept made =
        record {
          written = ap (merged_of goals own) back ∙ merged_whole goals work w.long own ys lt whole ∙ made ∙ ap make (merged_is (part work a e) merged_part);
          others = λ i l. ap (merged_of goals i) back ∙ merged_other goals work w.long own ys lt whole i (λ q. apart_from i own l q);
          graph = ap (graph_in goals) back ∙ graph_kept ys whole;
        }
      where
        apart_from : (i j : ℕ) → i < j → i ≡ j → ⊥
        apart_from i j l q = omega arith

        whole : length ys ≡ block_size goals
        whole = part_length work a e ys (omega arith) block_room kept ∙ broad

        back : returned work a e ys ≡ overwrite work (merged_start goals own) ys
        back = part_back work a e ys (omega arith) block_room kept ∙ ap (λ (k : ℕ). overwrite work k ys) is-a

-- ---- a frame that is written again
module _ (goals own : ℕ) (f : Frame) (old mid : List ℕ) (w : FrameWritten goals own f old mid) where
  pub frame_now : top_of goals own mid ≡ f
  frame_now = top_is goals own (graph_in goals mid) w.stack

  pub frame_again : (h : Frame) (new : List ℕ) → FrameWritten goals own h mid new → FrameWritten goals own h old new
  frame_again h new v =
      record {
        stack = v.stack ∙ ap (λ (s : Stack). h ∷ s) (under_is goals own (graph_in goals mid) w.stack);
        entries = λ n. v.entries n ∙ w.entries n;
        merged = λ i l. v.merged i l ∙ w.merged i l;
      }

  -- the same frame
  pub frame_same : (h : Frame) → f ≡ h → FrameWritten goals own h old mid
  frame_same h e = record { stack = w.stack ∙ ap (λ (x : Frame). x ∷ stack_of goals own (graph_in goals old)) e; entries = w.entries; merged = w.merged }

-- nothing was written
pub frame_kept : (goals own : ℕ) (work : List ℕ) → FrameWritten goals own (top_of goals own work) work work
frame_kept goals own work = record { stack = stack_top goals own (graph_in goals work); entries = λ n. refl; merged = λ i l. refl }
