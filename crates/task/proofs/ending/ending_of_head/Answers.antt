use Rattle.task.proofs.Endings.{head_reached, head_missed}
use Rattle.task.proofs.ending.ending_of_head.Goals as goal

pub returns-in-Some : goal.returns-in-Some
returns-in-Some c =
    head_reached c.args.left c.args.provisional c.args.usages c.args.answer c.reached_fixpoint.result
    c.reached_fixpoint.ensures c.in-Some.fixpoint
    c.in-Some.is

pub returns-in-None : goal.returns-in-None
returns-in-None c =
    head_missed c.args.left c.args.provisional c.args.usages c.args.answer c.reached_fixpoint.result
    c.reached_fixpoint.ensures
    c.in-None.is c.without_fixpoint.result c.without_fixpoint.ensures
