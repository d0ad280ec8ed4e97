use Rattle.candidates.proofs.Loops as loops
use Rattle.candidates.proofs.ignore_at_heads.Given as goal

abbrev pub invariant-loop-i : goal.invariant-loop-i
invariant-loop-i l = loops.Ignoring l.goals l.own l.initial.work l.work l.i-iterator.mask
