use Rattle.layout.specs.Frame.{frame_of}
use Rattle.stack.proofs.frame.step_kind.Goals as goal

pub returns : goal.returns
unfolding frame_of
returns c = c.from.ensures
