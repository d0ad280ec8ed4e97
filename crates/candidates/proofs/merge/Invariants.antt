use Rattle.candidates.proofs.Loops as loops
use Rattle.candidates.proofs.merge.Given as goal

abbrev pub invariant-loop-i : goal.invariant-loop-i
invariant-loop-i l = loops.Merging l.goals l.own l.initial.work l.work l.i-iterator.mask
