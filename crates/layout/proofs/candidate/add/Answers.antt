use Rattle.layout.specs.Blocks.{candidate_of}
use Rattle.layout.proofs.AtIndex.{add_block}
use Rattle.layout.proofs.candidate.add.Goals as goal

pub returns : goal.returns
returns c = let a = c.args in add_block (candidate_of a.goals a.b.now) (candidate_of a.goals c.put.new.b) a.i a.u c.usages-before.result c.add_usages.result c.usages-before.ensures c.add_usages.ensures c.put.ensures.0
