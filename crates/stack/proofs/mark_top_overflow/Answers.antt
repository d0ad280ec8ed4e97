use Prim.Native.Nat.{◌-◌, ◌<◌}
use native.Mathlib.Omega.{arith}
use Rattle.definition.specs.Parent.{mark_overflow}
use Rattle.definition.specs.Stack.{Frame}
use Rattle.stack.proofs.Graph.{mark_none, mark_top}
use Rattle.stack.proofs.Ranges.{range_written}
use Rattle.stack.proofs.mark_top_overflow.Goals as goal

pub returns-then-height-eq0 : goal.returns-then-height-eq0
returns-then-height-eq0 c = let s = c in mark_none s.args.goals s.args.height s.args.graph.now c.if-height-eq0.true

pub returns : goal.returns
returns c =
    let a = c.args in
    let lt : a.height - 1 < a.goals = omega arith in
    mark_top a.goals a.height a.graph.now _ (omega arith)
    (range_written c.requires.0 lt c.frame.ensures.start c.frame.ensures.end (λ (f : Frame). mark_overflow f)
    c.mark_overflow.new.frame c.mark_overflow.auto.frame c.mark_overflow.ensures)
