use mathlib.Core.Path.{◌≡◌}
use lib.ListN.{drop}
use Rattle.definition.specs.declared.paths.PathKind.{PathKind}
use Rattle.definition.specs.Lookup.{first_match}
use Rattle.definition.specs.Stack.{Stack}
use Rattle.layout.specs.Work.{entries_of}
use Rattle.provisional_cache.proofs.next_of.Given as goal

abbrev pub invariant-loop-k : goal.invariant-loop-k
invariant-loop-k l = (s : Stack) (step : PathKind) → first_match s l.goal step (drop l.k (entries_of l.goals l.entries l.graph)) ≡ first_match s l.goal step (drop l.from (entries_of l.goals l.entries l.graph))
