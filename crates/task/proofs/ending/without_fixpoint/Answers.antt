use Rattle.task.proofs.Endings.{without_usages, without_ambiguous, without_rerun}
use Rattle.task.proofs.ending.without_fixpoint.Goals as goal

pub returns-then-is_empty : goal.returns-then-is_empty
returns-then-is_empty c =
    without_usages c.args.left c.args.usages c.args.answer c.is_empty.result c.is_empty.ensures c.if-is_empty.true

pub returns-then-is_ambiguous : goal.returns-then-is_ambiguous
returns-then-is_ambiguous c =
    without_ambiguous c.args.left c.args.usages c.args.answer c.is_empty.result c.is_empty.ensures
    c.if-is_empty.false c.is_ambiguous.result
    c.is_ambiguous.ensures c.if-is_ambiguous.true

pub returns : goal.returns
returns c =
    without_rerun c.args.left c.args.usages c.args.answer c.is_empty.result c.is_empty.ensures
    c.if-is_empty.false
    c.is_ambiguous.result c.is_ambiguous.ensures c.if-is_ambiguous.false c.run_again.result c.run_again.ensures
