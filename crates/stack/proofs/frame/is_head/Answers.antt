use lib.ListN.{get_or}
use Rattle.buffer.specs.Regions.{region}
use Rattle.layout.specs.Blocks.{usages_size, usages_of}
use Rattle.layout.specs.Frame.{usages_start, frame_of}
use Rattle.stack.proofs.Values.{test_some}
use Rattle.stack.proofs.frame.is_head.Goals as goal

pub returns : goal.returns
unfolding frame_of
returns c = test_some (get_or c.args.frame.now 6 0) (usages_of (region usages_start usages_size c.args.frame.now))
