use Rattle.task.proofs.Endings.{again_none, again_some}
use Rattle.task.proofs.ending.run_again.Goals as goal

pub returns-then-left-eq0 : goal.returns-then-left-eq0
returns-then-left-eq0 c = again_none c.args.left c.if-left-eq0.true

pub returns : goal.returns
returns c = again_some c.args.left c.if-left-eq0.false
