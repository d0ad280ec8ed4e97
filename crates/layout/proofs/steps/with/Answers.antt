use Rattle.layout.proofs.Counts.{with_room, with_step}
use Rattle.layout.proofs.steps.with.Goals as goal

pub overflow_add-result : goal.overflow_add-result
overflow_add-result c =
    let s = c in
    record { fits = with_room s.args.steps s.requires s.args.kind c.one.result c.one.ensures }

pub returns : goal.returns
returns c =
    let s = c in
    with_step s.args.steps s.requires s.args.kind c.one.result c.one.ensures
