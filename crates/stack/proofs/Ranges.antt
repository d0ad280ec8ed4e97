-- A frame of a graph that is lent by its range [a..e], and comes back.
use mathlib.Core.Path.{◌≡◌, refl, subst}
use mathlib.Core.List.{List}
use Prim.Native.Nat.{ℕ, ◌+◌, ◌≤◌, ◌<◌}
use native.Mathlib.Omega.{arith}
use lib.ListN.{length}
use Rattle.definition.specs.Stack.{Frame}
use Rattle.layout.specs.Frame.{frame_size, frame_of}
use Rattle.layout.specs.Work.{frame_start}
use Rattle.stack.specs.Bytes.{GraphBytes, frame_bytes, frame_at}
use Rattle.stack.specs.Written.{TopWritten}
use Rattle.stack.proofs.Parts.{part, returned, returned_length}
use Rattle.stack.proofs.Graph.{part_room, part_is, frame_put, top_written}

module _ {goals : ℕ} {bs : List ℕ} {i a e : ℕ} (g : GraphBytes goals bs) (lt : i < goals) (is-a : a ≡ frame_start goals i) (is-e : e ≡ frame_start goals i + frame_size goals) where
  ends : a + frame_size goals ≡ e
  ends = omega arith

  pub range_room : e ≤ length bs
  range_room = subst (λ (x : ℕ). x ≤ length bs) ends (part_room goals bs i a (frame_size goals) g lt is-a refl)

  pub range_is : part bs a e ≡ frame_bytes goals i bs
  range_is = subst (λ (x : ℕ). part bs a x ≡ frame_bytes goals i bs) ends (part_is goals bs i a (frame_size goals) g lt is-a refl)

  -- the frame is f then
  pub range_put : (f : Frame) (ys : List ℕ) → length ys ≡ length (part bs a e) → frame_of goals ys ≡ f → TopWritten goals i f bs (returned bs a e ys)
  range_put f ys =
      subst (λ (x : ℕ). length ys ≡ length (part bs a x) → frame_of goals ys ≡ f → TopWritten goals i f bs (returned bs a x ys)) ends
      (λ kept is. frame_put goals bs i a (frame_size goals) g lt is-a refl ys kept f is)

  pub range_length : (ys : List ℕ) → length ys ≡ length (part bs a e) → length (returned bs a e ys) ≡ length bs
  range_length ys = returned_length bs a e ys (omega arith) range_room

  -- it comes back as `make` makes it
  pub range_written : (make : Frame → Frame) (ys : List ℕ) → length ys ≡ length (part bs a e) → frame_of goals ys ≡ make (frame_of goals (part bs a e))
      → TopWritten goals i (make (frame_at goals i bs)) bs (returned bs a e ys)
  range_written make ys =
      subst (λ (x : ℕ). length ys ≡ length (part bs a x) → frame_of goals ys ≡ make (frame_of goals (part bs a x)) → TopWritten goals i (make (frame_at goals i bs)) bs (returned bs a x ys)) ends
      (λ kept is. top_written goals bs i a (frame_size goals) g lt is-a refl ys kept make is)
