use Rattle.layout.proofs.Copied.{Copying}
use Rattle.layout.proofs.heads.copy.Given as goal

abbrev pub invariant-loop-i : goal.invariant-loop-i
invariant-loop-i l = Copying l.goals l.from l.to l.initial.s l.m l.i-iterator.mask l.s
