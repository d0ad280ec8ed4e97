use Prim.Native.Nat.{◌-◌}
use mathlib.Core.Path.{◌∙◌}
use Rattle.definition.specs.Steps.{StepCounts}
use Rattle.stack.proofs.Counts.{no_steps, top_steps}
use Rattle.stack.proofs.Graph.{frame_bytes_lem}
use Rattle.stack.proofs.Loops.{read_at}
use borrow.Author.Rules.{rules}
use Rattle.stack.proofs.steps_of.Goals as goal

pub returns-then-height-eq0 : goal.returns-then-height-eq0
returns-then-height-eq0 c = let s = c in no_steps s.args.goals s.args.height s.args.graph.now (search rules)

pub steps-requires : goal.steps-requires
steps-requires c =
    let s = c in
    frame_bytes_lem s.args.goals s.args.graph.now c.frame_at.result.now (s.args.height - 1) s.requires.bytes (search rules)
    c.frame_at.ensures

pub returns : goal.returns
returns c =
    let s = c in
    top_steps s.args.goals s.args.height s.args.graph.now (search rules) s.requires.counts c.steps.result
    (c.steps.ensures
    ∙ read_at {A = StepCounts} (λ f. f.step_counts) s.args.goals s.args.graph.now (s.args.height - 1)
    c.frame_at.result.now c.frame_at.ensures)
