use lib.ListN.{get_or}
use Rattle.layout.specs.Blocks.{head_of}
use Rattle.layout.proofs.records.read_head.Goals as goal

pub returns : goal.returns
unfolding head_of
returns c = λ i. record { paths = get_or c.args.b.now 0 0; usages = c.read_usages.ensures i }
