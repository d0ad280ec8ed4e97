use Rattle.stack.proofs.Blocks as blocks
use Rattle.stack.proofs.Tracked as fields
use Rattle.stack.proofs.frame.tracked.head_covers.Goals as goal

pub usages-usages-requires : goal.usages-usages-requires
usages-usages-requires c = let s = c in (blocks.heads_block s.args.goals s.args.frame.now c.heads.result.now s.requires.0 c.heads.ensures, s.requires.1)

pub returns : goal.returns
returns c = let a = c.args in fields.covers_head a.goals a.frame.now c.heads.result.now a.i a.u c.usages-usages.result c.covers.result c.heads.ensures c.usages-usages.ensures c.covers.ensures
