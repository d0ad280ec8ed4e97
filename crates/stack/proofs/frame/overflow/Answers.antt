use lib.ListN.{get_or}
use Rattle.layout.specs.Frame.{frame_of}
use Rattle.stack.proofs.Values.{test_truth}
use Rattle.stack.proofs.frame.overflow.Goals as goal

pub returns : goal.returns
unfolding frame_of
returns c = test_truth (get_or c.args.frame.now 5 0)
