use Rattle.lookup.proofs.Uses.{cycle_closed}
use Rattle.lookup.proofs.close_cycle.Goals as goal

pub returns : goal.returns
returns c =
    cycle_closed c.args.h c.args.height c.args.graph.now c.update_from_cycle.new.graph c.args.step c.args.available c.update_from_cycle.ensures.entries c.args.goal c.args.head
    c.cycle_path_kind-kind.result c.cycle_result.result c.cycle_path_kind-kind.ensures c.cycle_result.ensures c.update_from_cycle.ensures.stack
