use Rattle.guarantee.proofs.Masks.{Upto}
use Rattle.guarantee.proofs.Rounds.{nobody, together}
use Rattle.guarantee.proofs.reach.group.Given as goal

abbrev pub invariant-loop-k : goal.invariant-loop-k
invariant-loop-k l = Upto nobody (together l.reach l.g) l.k l.m
