use mathlib.Core.Path.{ap, ◌∙◌}
use Prim.Native.Nat.{◌-◌}
use native.Mathlib.Omega.{arith}
use mathlib.Core.Bool.{false}
use Rattle.definition.specs.Stack.{Frame}
use Rattle.definition.specs.Usages.{one_usage}
use Rattle.definition.specs.Parent.{CycleOnStack, add_rest}
use Rattle.stack.specs.Child.{add_head_at, cycle_head}
use Rattle.stack.proofs.Ranges.{range_written}
use Rattle.parent.proofs.Update as update
use Rattle.parent.proofs.update_from_cycle.Goals as goal

pub returns : goal.returns
returns c =
    let s = c in
    let a = s.args in
    let y = c.count_head in
    let z = c.add_cycle in
    let rest : Frame → Frame = add_rest a.step false (CycleOnStack a.goal) a.reached in
    update.update_cycle a.goals a.height a.head a.goal a.graph.now _ a.step (one_usage a.kind) a.reached s.requires.1.1 s.requires.1.0
    (range_written s.requires.0 (omega arith) c.frame.ensures.start c.frame.ensures.end (λ f. rest (add_head_at a.step (a.height - 1) a.head (cycle_head a.step a.kind) f)) z.new.frame (z.auto.frame ∙ y.auto.frame) (z.ensures ∙ ap rest y.ensures))
