use lib.ListN.{get_or}
use Rattle.buffer.specs.Regions.{region}
use Rattle.layout.specs.Blocks.{block_size, candidate_of}
use Rattle.layout.specs.Frame.{candidate_start, frame_of}
use Rattle.stack.proofs.Values.{test_some}
use Rattle.stack.proofs.frame.tracks.Goals as goal

pub returns : goal.returns
unfolding frame_of
returns c = let a = c.args in test_some (get_or a.frame.now 7 0) (candidate_of a.goals (region (candidate_start a.goals) (block_size a.goals) a.frame.now))
