use Rattle.definition.specs.Task.{rerun_frame}
use Rattle.definition.specs.Stack.{Frame}
use Rattle.stack.proofs.Ranges.{range_written}
use Rattle.stack.proofs.reset_for_rerun.Goals as goal

pub returns : goal.returns
returns c =
    range_written c.requires.0 c.requires.1 c.frame.ensures.start c.frame.ensures.end (λ (f : Frame). rerun_frame f c.args.answer)
    c.reset.new.frame c.reset.auto.frame c.reset.ensures
