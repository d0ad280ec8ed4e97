use Rattle.stack.proofs.Counts.{lower_stack, path_outside, path_room, path_few, path_kind}
use Prim.Native.Nat.{◌≤◌}
use Rattle.layout.specs.Work.{stack_of}
use Rattle.layout.proofs.Graphs.{length_stack}
use borrow.Author.Rules.{rules}
use Rattle.stack.proofs.cycle_path_kind.Goals as goal

pub returns-then-height-head : goal.returns-then-height-head
returns-then-height-head c =
    let a = c.args in
    let le : a.height ≤ a.head = search rules in
    path_outside (stack_of a.goals a.height a.graph.now) a.step a.head (rw length_stack le)

pub steps_of-requires-2 : goal.steps_of-requires-2
steps_of-requires-2 c =
    let s = c in
    lower_stack s.args.goals s.args.height _ s.args.graph.now s.requires (search rules)

pub overflow_sub-above : goal.overflow_sub-above
overflow_sub-above c =
    let s = c in
    path_room s.args.goals s.args.height s.args.head s.args.graph.now s.requires (search rules)
    c.steps_of.result c.steps_of-2.result c.steps_of.ensures c.steps_of-2.ensures

pub with-requires : goal.with-requires
with-requires c =
    let s = c in
    path_few s.args.goals s.args.height s.args.head s.args.graph.now s.requires (search rules)
    c.steps_of.result c.steps_of-2.result c.steps_of.ensures c.steps_of-2.ensures

pub returns : goal.returns
returns c =
    let s = c in
    path_kind s.args.goals s.args.height s.args.head s.args.graph.now s.requires (search rules)
    c.steps_of.result c.steps_of-2.result c.steps_of.ensures c.steps_of-2.ensures
    s.args.step c.with.result c.with.ensures c.latest.result c.latest.ensures
