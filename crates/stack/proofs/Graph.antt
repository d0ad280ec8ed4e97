-- A frame of a graph that is lent, and comes back.
use mathlib.Core.Path.{◌≡◌, refl, sym, ap, ap₂, ◌∙◌, subst}
use mathlib.Core.List.{List, ◌∷◌}
use Prim.Native.Nat.{ℕ, ◌+◌, ◌-◌, ◌≤◌, ◌<◌}
use native.Mathlib.Numerals.{add-one}
use native.Mathlib.Omega.{arith}
use lib.ListN.{length, take, drop}
use Rattle.definition.specs.Stack.{Frame}
use Rattle.definition.specs.Parent.{mark_overflow, handle_overflow}
use Rattle.buffer.specs.Regions.{region, overwrite}
use Rattle.buffer.proofs.Regions.{length_region, region_after}
use Rattle.layout.specs.Frame.{frame_size, frame_of}
use Rattle.layout.specs.Work.{frame_start, stack_of, entries_of}
use Rattle.layout.proofs.Graphs.{frame_room, stack_push, entries_push}
use Rattle.stack.specs.Bytes.{FrameBytes, GraphBytes, frame_bytes, frame_at}
use Rattle.stack.specs.Written.{StackWritten, TopWritten}
use Rattle.stack.proofs.Parts.{part, returned, part_length, part_back}
use Rattle.stack.proofs.Loops.{top, none_left}

-- the bytes of a frame are a frame's
pub frame_bytes_lem : (goals : ℕ) (bs r : List ℕ) (i : ℕ) → GraphBytes goals bs → i < goals → r ≡ frame_bytes goals i bs → FrameBytes goals r
frame_bytes_lem goals bs r i g lt e =
    record { few = g.few; long = ap length e ∙ length_region (frame_start goals i) (frame_size goals) bs (frame_room goals bs g.long i lt) }

-- frame i, at a, of n bytes
module _ (goals : ℕ) (bs : List ℕ) (i a n : ℕ) (g : GraphBytes goals bs) (lt : i < goals) (is-a : a ≡ frame_start goals i) (is-n : n ≡ frame_size goals) where
  pub part_room : a + n ≤ length bs
  part_room = subst (λ (x : ℕ). x ≤ length bs) (sym (ap₂ (λ (x y : ℕ). x + y) is-a is-n)) (frame_room goals bs g.long i lt)

  pub part_is : part bs a (a + n) ≡ frame_bytes goals i bs
  part_is = let e : a + n - a ≡ n = omega arith in ap₂ (λ (m k : ℕ). take m (drop k bs)) (e ∙ is-n) is-a

  module _ (ys : List ℕ) (kept : length ys ≡ length (part bs a (a + n))) where
    back : returned bs a (a + n) ys ≡ overwrite bs (frame_start goals i) ys
    back = part_back bs a (a + n) ys (omega arith) part_room kept ∙ ap (λ (k : ℕ). overwrite bs k ys) is-a

    whole : length ys ≡ frame_size goals
    whole = let e : a + n - a ≡ n = omega arith in part_length bs a (a + n) ys (omega arith) part_room kept ∙ e ∙ is-n

    -- the frame is f then
    pub frame_put : (f : Frame) → frame_of goals ys ≡ f → TopWritten goals i f bs (returned bs a (a + n) ys)
    frame_put f e =
        record {
          stack =
              ap₂ (λ (k : ℕ) (l : List ℕ). stack_of goals k l) (add-one i) back
              ∙ stack_push goals bs g.long i ys lt whole
              ∙ ap (λ (x : Frame). x ∷ stack_of goals i bs) e;
          entries = λ k. ap (entries_of goals k) back ∙ entries_push goals bs g.long i ys lt whole k;
          above = λ b m h. ap (region b m) back ∙ region_after bs (frame_start goals i) ys fits b m (subst (λ (x : ℕ). frame_start goals i + x ≤ b) (sym whole) h);
        }
      where
        fits : frame_start goals i + length ys ≤ length bs
        fits = subst (λ (x : ℕ). frame_start goals i + x ≤ length bs) (sym whole) (frame_room goals bs g.long i lt)

    -- it comes back as `make` makes it
    pub top_written : (make : Frame → Frame) → frame_of goals ys ≡ make (frame_of goals (part bs a (a + n))) → TopWritten goals i (make (frame_at goals i bs)) bs (returned bs a (a + n) ys)
    top_written make e = frame_put (make (frame_at goals i bs)) (e ∙ ap (λ (l : List ℕ). make (frame_of goals l)) part_is)

-- ---- `mark_top_overflow`
pub mark_none : (goals height : ℕ) (bs : List ℕ) → height ≡ 0 → StackWritten goals height (handle_overflow (stack_of goals height bs)) bs bs
mark_none goals height bs z =
    let e = none_left goals bs height (omega arith) in
    record { stack = e ∙ sym (ap handle_overflow e); entries = λ n. refl }

pub mark_top : (goals height : ℕ) (bs out : List ℕ) → 0 < height → TopWritten goals (height - 1) (mark_overflow (frame_at goals (height - 1) bs)) bs out
    → StackWritten goals height (handle_overflow (stack_of goals height bs)) bs out
mark_top goals height bs out pos w =
    let e : height ≡ height - 1 + 1 = omega arith in
    record { stack = ap (λ (k : ℕ). stack_of goals k out) e ∙ w.stack ∙ sym (ap handle_overflow (top goals bs height pos)); entries = w.entries }
