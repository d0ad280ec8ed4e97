use Rattle.layout.specs.Blocks.{candidate_of}
use Rattle.layout.specs.Frame.{frame_of}
use Rattle.candidates.proofs.Loops as loops
use Rattle.candidates.proofs.heads_cover.Given as goal

abbrev pub invariant-loop-i : goal.invariant-loop-i
invariant-loop-i l = loops.Covering l.own (frame_of l.goals l.f).heads (candidate_of l.goals l.b) l.i-iterator.mask
