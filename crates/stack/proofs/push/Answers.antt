use Rattle.definition.specs.Evaluate.{new_frame}
use Rattle.layout.specs.Work.{stack_of}
use Rattle.stack.proofs.Counts.{push_room, push_steps}
use Rattle.stack.proofs.Ranges.{range_put}
use Rattle.stack.proofs.push.Goals as goal

pub with-all-requires : goal.with-all-requires
with-all-requires c =
    let s = c in
    push_room s.args.goals s.args.height s.args.graph.now s.requires.0 c.steps_of-below.result c.steps_of-below.ensures

pub returns : goal.returns
returns c =
    let a = c.args in
    let b = c.start in
    let below = stack_of a.goals a.height a.graph.now in
    range_put c.requires.0.bytes c.requires.1.0 c.frame.ensures.start c.frame.ensures.end
    (new_frame a.goals a.goal a.step a.available below) b.new.frame b.auto.frame
    (b.ensures below
    (push_steps a.goals a.height a.graph.now c.requires.0 c.steps_of-below.result c.steps_of-below.ensures
    a.step c.with-all.result c.with-all.ensures))
