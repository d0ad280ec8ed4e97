use Rattle.guarantee.proofs.Lines.{steps_start}
use Rattle.guarantee.proofs.steps.of_book.Goals as goal

pub returns : goal.returns
returns c = steps_start c.args.book.now c.requires
