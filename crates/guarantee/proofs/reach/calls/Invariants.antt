use mathlib.Core.Path.{◌≡◌}
use lib.ListN.{length}
use Rattle.book.specs.Lines.{lines_in}
use Rattle.soundness.specs.Groups.{step_lines}
use Rattle.guarantee.specs.Engine.{steps_left}
use Rattle.guarantee.proofs.Lines.{Collected}
use Rattle.guarantee.proofs.reach.calls.Given as goal

abbrev pub invariant-loop-s : goal.invariant-loop-s
invariant-loop-s l = Collected (step_lines (lines_in l.book)) (steps_left l.s-iterator) l.masks × (length l.masks ≡ 64)
