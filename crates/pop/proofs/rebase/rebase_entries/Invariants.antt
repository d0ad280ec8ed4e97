use Rattle.pop.proofs.Rounds.{Rebasing}
use Rattle.pop.proofs.rebase.rebase_entries.Given as goal

abbrev pub invariant-loop-k : goal.invariant-loop-k
invariant-loop-k l = Rebasing l.p.goals l.p.base l.p.index l.p.paths l.p.lowest l.p.reason l.entries l.initial.rest l.rest l.kept l.k
