use mathlib.Core.Path.{◌≡◌}
use lib.ListN.{drop}
use Rattle.definition.specs.Lookup.{any_entry_applies}
use Rattle.layout.specs.Work.{stack_of, entries_of}
use Rattle.provisional_cache.proofs.any_applies.Given as goal

abbrev pub invariant-loop-i : goal.invariant-loop-i
invariant-loop-i l =
    any_entry_applies (stack_of l.goals l.height l.graph) l.step l.nested (drop l.i (entries_of l.goals l.entries l.graph))
    ≡ any_entry_applies (stack_of l.goals l.height l.graph) l.step l.nested (entries_of l.goals l.entries l.graph)
