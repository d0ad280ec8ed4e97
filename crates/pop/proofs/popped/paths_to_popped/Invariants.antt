use Rattle.layout.specs.Work.{stack_of}
use Rattle.pop.proofs.Filled.{Filling}
use Rattle.pop.proofs.popped.paths_to_popped.Given as goal

abbrev pub invariant-loop-i : goal.invariant-loop-i
invariant-loop-i l = Filling (stack_of l.goals l.popped l.graph) l.step l.popped l.paths l.i
