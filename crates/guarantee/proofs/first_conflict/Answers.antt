use mathlib.Core.Path.{ap, ◌∙◌}
use Rattle.book.specs.Lines.{lines_in}
use Rattle.book.specs.Read.{book_in}
use Rattle.soundness.specs.Groups.{step_lines}
use Rattle.guarantee.specs.Guarantee.{first_conflict}
use Rattle.guarantee.specs.Engine.{steps_left}
use Rattle.guarantee.proofs.Lines.{some_step, beyond}
use Rattle.guarantee.proofs.Accepted.{callers_near}
use Rattle.guarantee.proofs.first_conflict.Goals as goal

pub loop-s-init : goal.loop-s-init
loop-s-init c =
    let s = ap steps_left c.into_iter-s-iterator.ensures.into_iter_gives ∙ c.of_book-s-items.ensures in (
      ap (first_conflict (book_in c.args.book.now) (step_lines (lines_in c.args.book.now))) s,
      ap (some_step (beyond (book_in c.args.book.now).header.goals)) s ∙ callers_near c.args.book.now c.requires.accepted,
    )
