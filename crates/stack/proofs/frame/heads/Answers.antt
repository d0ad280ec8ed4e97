use Rattle.stack.proofs.Blocks.{head_part}
use Rattle.stack.proofs.frame.heads.Goals as goal

pub returns : goal.returns
returns c = let a = c.args in head_part a.goals a.frame.now c.candidate_start-end.result c.candidate_start-end.ensures
