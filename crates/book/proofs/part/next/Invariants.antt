use Prim.Native.Nat.{◌+◌, ◌≤◌, ◌<◌}
use lib.ListN.{length}
use Rattle.book.proofs.Skips.{PendingAfter, Stands}
use Rattle.book.proofs.part.next.Given as goal

abbrev pub invariant-loop-pending : goal.invariant-loop-pending
invariant-loop-pending l = (length l.t ≤ length l.part) × ((length l.t < length l.part + l.pending) × (Stands l.part l.t × PendingAfter l.part l.pending l.t))

abbrev pub decreases-loop-pending : goal.decreases-loop-pending
decreases-loop-pending l = length l.t
