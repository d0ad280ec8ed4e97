use Rattle.pop.specs.Popped.{popped_frame, PathsFrom}
use Rattle.definition.specs.Paths.{kind_number}
use Rattle.pop.proofs.Loops.{Lowering}
use Rattle.pop.proofs.stays.lowest_cycle.Given as goal

abbrev pub invariant-loop-i : goal.invariant-loop-i
invariant-loop-i l = Lowering (λ s. PathsFrom s (popped_frame l.goals l.rest) l.paths) (popped_frame l.goals l.rest).step_kind_from_parent
    (popped_frame l.goals l.rest).heads (kind_number l.lowest) l.i-iterator.mask
