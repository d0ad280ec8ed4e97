use Rattle.stack.proofs.Ranges.{range_is}
use Rattle.stack.proofs.frame_at.Goals as goal

pub returns : goal.returns
returns c = range_is c.requires.0 c.requires.1 c.frame.ensures.start c.frame.ensures.end
