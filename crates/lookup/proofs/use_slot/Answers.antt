use Rattle.lookup.proofs.Uses.{slot_used}
use Rattle.lookup.proofs.use_slot.Goals as goal

pub returns : goal.returns
returns c =
    slot_used c.args.h c.args.height c.args.graph.now c.update_from_slot.new.graph c.args.step c.args.available c.update_from_slot.ensures.entries c.args.s.now
    c.nested_of-nested.result.now c.args.overflow c.depth_of.result c.saturating_sub-reached.result c.result_of.result c.depth_of.ensures c.saturating_sub-reached.ensures
    c.nested_of-nested.ensures c.result_of.ensures c.update_from_slot.ensures.stack
