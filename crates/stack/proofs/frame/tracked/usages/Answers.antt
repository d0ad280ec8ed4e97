use Rattle.stack.proofs.Blocks as blocks
use Rattle.stack.proofs.Tracked as fields
use Rattle.stack.proofs.frame.tracked.usages.Goals as goal

pub returns-then-not-tracks : goal.returns-then-not-tracks
returns-then-not-tracks c = let s = c in fields.tracked_none s.args.goals s.args.frame.now c.tracks.result c.tracks.ensures c.if-not-tracks.true s.args.i c.none.result c.none.ensures

pub usages-requires : goal.usages-requires
usages-requires c = let s = c in ((blocks.candidate_block s.args.goals s.args.frame.now c.block.result.now s.requires.0 c.block.ensures), s.requires.1)

pub returns : goal.returns
returns c = let s = c in fields.tracked_some s.args.goals s.args.frame.now c.tracks.result c.tracks.ensures c.if-not-tracks.false c.block.result.now c.block.ensures s.args.i c.usages.result c.usages.ensures
