use mathlib.Core.Path.{◌≡◌}
use Rattle.definition.specs.Lookup.{any_on_stack}
use Rattle.layout.specs.Work.{stack_of}
use Rattle.stack.proofs.any_on_stack.Given as goal

abbrev pub invariant-loop-i : goal.invariant-loop-i
invariant-loop-i l = any_on_stack (stack_of l.goals l.i l.graph) l.nested ≡ any_on_stack (stack_of l.goals l.height l.graph) l.nested
