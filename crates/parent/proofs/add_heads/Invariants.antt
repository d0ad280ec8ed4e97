use mathlib.Core.Path.{◌≡◌}
use Prim.Native.Nat.{◌^◌, ◌<◌}
use lib.ListN.{length}
use Rattle.definition.specs.Parent.{add_heads}
use Rattle.bits.specs.Masks.{flags}
use Rattle.buffer.specs.Regions.{region}
use Rattle.layout.specs.Blocks.{heads_size, heads_of}
use Rattle.layout.proofs.Marks.{keep, Within}
use Rattle.stack.specs.Bytes.{frame_at}
use Rattle.stack.specs.Written.{TopWritten}
use Rattle.parent.proofs.add_heads.Given as goal

abbrev pub invariant-loop-i : goal.invariant-loop-i
invariant-loop-i l = (length l.graph ≡ length l.initial.graph) × (l.i-iterator.mask < 2 ^ 64) × (Within l.i-iterator.mask (heads_of l.goals (region l.start (heads_size l.goals) l.initial.graph))) × (TopWritten l.goals l.own (frame_at l.goals l.own l.graph) l.initial.graph l.graph) × (add_heads l.step l.own (keep (flags 64 l.i-iterator.mask) (heads_of l.goals (region l.start (heads_size l.goals) l.initial.graph))) (frame_at l.goals l.own l.graph) ≡ add_heads l.step l.own (heads_of l.goals (region l.start (heads_size l.goals) l.initial.graph)) (frame_at l.goals l.own l.initial.graph))
