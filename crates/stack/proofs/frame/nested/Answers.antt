use Rattle.stack.proofs.Blocks.{nested_part}
use Rattle.stack.proofs.frame.nested.Goals as goal

pub returns : goal.returns
returns c = let a = c.args in nested_part a.goals a.frame.now c.nested_start-start.result c.nested_start-start.ensures
