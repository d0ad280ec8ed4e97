use mathlib.Core.Path.{◌∙◌}
use Rattle.stack.proofs.Graph.{frame_bytes_lem}
use Rattle.stack.proofs.Blocks.{heads_block}
use Rattle.task.proofs.Nested.{headless_is}
use Rattle.task.proofs.insert.is_headless.Goals as goal

pub heads-requires : goal.heads-requires
heads-requires c =
    frame_bytes_lem c.args.goals c.args.graph.now c.frame_at.result.now c.args.height c.requires.0 c.requires.1
    c.frame_at.ensures

pub is_empty-requires : goal.is_empty-requires
is_empty-requires c =
    heads_block c.args.goals c.frame_at.result.now c.heads.result.now
    (frame_bytes_lem c.args.goals c.args.graph.now c.frame_at.result.now c.args.height c.requires.0 c.requires.1
    c.frame_at.ensures) c.heads.ensures

pub returns : goal.returns
returns c =
    c.is_empty.ensures
    ∙ headless_is c.args.goals c.args.height c.args.graph.now c.frame_at.result.now c.heads.result.now c.frame_at.ensures c.heads.ensures
