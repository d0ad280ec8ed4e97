use Rattle.pop.specs.Rebased.{StayBefore}
use Rattle.pop.proofs.rebase.first_under.Given as goal

abbrev pub invariant-loop-k : goal.invariant-loop-k
invariant-loop-k l = StayBefore l.goals l.base l.popped l.entries l.bytes l.k
