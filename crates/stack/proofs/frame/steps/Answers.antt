use Rattle.stack.proofs.Counts.{frame_steps}
use Rattle.stack.proofs.frame.steps.Goals as goal

pub returns : goal.returns
returns c =
    let s = c in
    frame_steps s.args.goals s.args.frame.now c.counts_start.result c.counts_start.ensures
    c.read_u64.result c.read_u64.ensures
