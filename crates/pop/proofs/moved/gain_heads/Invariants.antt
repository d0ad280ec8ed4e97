use Rattle.pop.proofs.Loops.{Gaining}
use Rattle.pop.proofs.moved.gain_heads.Given as goal

abbrev pub invariant-loop-i : goal.invariant-loop-i
invariant-loop-i l = Gaining l.p.goals l.p.base l.k l.used l.eps.bits l.initial.rest l.rest l.i-iterator.mask
