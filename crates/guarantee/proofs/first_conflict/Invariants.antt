use mathlib.Core.Bool.{false}
use mathlib.Core.Path.{◌≡◌}
use Rattle.book.specs.Lines.{lines_in}
use Rattle.book.specs.Read.{book_in}
use Rattle.soundness.specs.Groups.{step_lines}
use Rattle.guarantee.specs.Guarantee.{first_conflict}
use Rattle.guarantee.specs.Engine.{steps_left}
use Rattle.guarantee.proofs.Lines.{some_step, beyond}
use Rattle.guarantee.proofs.first_conflict.Given as goal

abbrev pub invariant-loop-s : goal.invariant-loop-s
invariant-loop-s l = (first_conflict (book_in l.book) (step_lines (lines_in l.book)) (steps_left l.s-iterator) ≡ first_conflict (book_in l.book)
    (step_lines (lines_in l.book)) (step_lines (lines_in l.book)))
    × (some_step (beyond (book_in l.book).header.goals) (steps_left l.s-iterator) ≡ false)
