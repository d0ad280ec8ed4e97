use Rattle.guarantee.proofs.Masks.{Upto}
use Rattle.guarantee.proofs.Rounds.{at_goal, callers}
use Rattle.guarantee.proofs.reach.toward.Given as goal

abbrev pub invariant-loop-i : goal.invariant-loop-i
invariant-loop-i l = Upto (at_goal l.goal) (callers l.calls l.m) l.i l.r
