use Rattle.stack.proofs.Graph.{frame_bytes_lem}
use Rattle.stack.proofs.Blocks.{heads_block}
use Rattle.provisional_cache.proofs.Inserts.{path_is}
use Rattle.provisional_cache.proofs.path_from_head.Goals as goal

pub heads-hs-requires : goal.heads-hs-requires
heads-hs-requires c =
    let s = c in
    let frame_at = c.frame_at in
    frame_bytes_lem s.args.goals s.args.graph.now frame_at.result.now s.args.height s.requires.0.bytes s.requires.1
    frame_at.ensures

pub highest-highest-requires : goal.highest-highest-requires
highest-highest-requires c =
    let s = c in
    let frame_at = c.frame_at in
    let heads = c.heads-hs in
    heads_block s.args.goals frame_at.result.now heads.result.now
    (frame_bytes_lem s.args.goals s.args.graph.now frame_at.result.now s.args.height s.requires.0.bytes s.requires.1
    frame_at.ensures) heads.ensures

pub returns : goal.returns
returns c =
    let s = c in
    let frame_at = c.frame_at in
    let heads = c.heads-hs in
    let highest = c.highest-highest in
    let cycle-path-kind = c.cycle_path_kind in
    path_is s.args.goals s.args.height s.args.step s.args.graph.now frame_at.result.now heads.result.now
    highest.result cycle-path-kind.result frame_at.ensures heads.ensures highest.ensures cycle-path-kind.ensures
