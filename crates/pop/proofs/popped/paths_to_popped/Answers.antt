use mathlib.Core.Path.{◌≡◌, ap, ◌∙◌}
use mathlib.Core.List.{List}
use Prim.Native.Nat.{ℕ, ◌<◌}
use native.Mathlib.Omega.{arith}
use Rattle.definition.specs.declared.paths.PathKind.{PathKind}
use Rattle.definition.specs.Stack.{cycle_path_kind}
use Rattle.layout.specs.Frame.{frame_of}
use Rattle.layout.specs.Work.{stack_of}
use Rattle.layout.proofs.Graphs.{length_stack}
use Rattle.stack.specs.Bytes.{frame_at}
use Rattle.stack.proofs.Counts.{path_outside}
use Rattle.pop.proofs.Filled.{filling_start, filling_next, filling_done}
use Rattle.pop.proofs.popped.paths_to_popped.Goals as goal

pub loop-i-init : goal.loop-i-init
loop-i-init c = filling_start (stack_of c.args.goals c.args.popped c.args.graph.now) c.step_kind-step.result c.args.popped

pub loop-i-preserved : goal.loop-i-preserved
loop-i-preserved c =
    filling_next (stack_of c.args.goals c.args.popped c.args.graph.now) c.step_kind-step.result c.args.popped c.loop-i.paths c.loop-i.i
    c.cycle_path_kind.result c.loop-i.invariant c.loop-i-test.true (let it : c.loop-i.i < 64 = omega arith in it) c.cycle_path_kind.ensures

pub returns : goal.returns
returns c i lt =
    let is : c.step_kind-step.result ≡ (frame_at c.args.goals c.args.popped c.args.graph.now).step_kind_from_parent =
    c.step_kind-step.ensures ∙ ap (λ (b : List ℕ). (frame_of c.args.goals b).step_kind_from_parent) c.frame_at.ensures in
    filling_done (stack_of c.args.goals c.args.popped c.args.graph.now) c.step_kind-step.result c.args.popped
    (λ j up. path_outside (stack_of c.args.goals c.args.popped c.args.graph.now) c.step_kind-step.result j (rw length_stack up))
    c.loop-i.paths c.loop-i.i c.loop-i.invariant
    c.loop-i-test.false i lt
    ∙ ap (λ (k : PathKind). cycle_path_kind (stack_of c.args.goals c.args.popped c.args.graph.now) k i) is
