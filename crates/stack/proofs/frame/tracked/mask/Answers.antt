use Rattle.stack.proofs.Blocks as blocks
use Rattle.stack.proofs.Tracked as fields
use Rattle.stack.proofs.frame.tracked.mask.Goals as goal

pub returns-then-not-tracks : goal.returns-then-not-tracks
returns-then-not-tracks c = let s = c in fields.names_none s.args.goals s.args.frame.now c.tracks.result c.tracks.ensures s.requires.few c.if-not-tracks.true

pub mask-requires : goal.mask-requires
mask-requires c = let s = c in blocks.candidate_block s.args.goals s.args.frame.now c.block.result.now s.requires c.block.ensures

pub returns : goal.returns
returns c = let s = c in fields.names_some s.args.goals s.args.frame.now c.tracks.result c.tracks.ensures c.if-not-tracks.false c.block.result.now c.mask.result c.block.ensures c.mask.ensures
