use Rattle.layout.proofs.NestedExtended.{extended_within}
use Rattle.layout.proofs.nested.extend_within.Goals as goal

pub returns : goal.returns
returns c =
    extended_within c.args.s.now c.args.to c.args.from c.args.goals c.requires.0 c.requires.1 c.args.step c.extend.new.nested c.extend.result _ _
    c.split_at_mut-low.ensures.front c.split_at_mut-low.ensures.back c.extend.ensures.extended c.extend.ensures.joined
