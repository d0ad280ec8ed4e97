use Rattle.stack.proofs.Blocks as blocks
use Rattle.stack.proofs.frame.tracked.block.Goals as goal

pub returns : goal.returns
returns c = let a = c.args in blocks.candidate_part a.goals a.frame.now c.candidate_start-start.result c.nested_start-end.result c.candidate_start-start.ensures c.nested_start-end.ensures
