use mathlib.Core.Path.{ap, ◌∙◌}
use mathlib.Core.List.{List}
use Prim.Native.Nat.{ℕ}
use Rattle.layout.specs.Frame.{frame_of}
use Rattle.stack.proofs.Graph.{frame_bytes_lem}
use Rattle.task.proofs.insert.nested_at.Goals as goal

pub nested-requires : goal.nested-requires
nested-requires c =
    frame_bytes_lem c.args.goals c.args.graph.now c.frame_at.result.now c.args.height c.requires.0 c.requires.1
    c.frame_at.ensures

pub returns : goal.returns
returns c =
    c.nested.ensures ∙ ap (λ (l : List ℕ). (frame_of c.args.goals l).nested_goals) c.frame_at.ensures
