use Rattle.definition.specs.ProvisionalCache.{survivors}
use Rattle.pop.proofs.Kept.{Compacting, Whole}
use Rattle.pop.proofs.clear.clear_for_rerun.Given as goal

abbrev pub invariant-loop-i : goal.invariant-loop-i
invariant-loop-i l = Compacting l.base l.entries l.initial.graph l.graph l.kept l.i × Whole (survivors l.rerun) l.goals l.base l.entries l.initial.graph l.graph l.kept l.i
