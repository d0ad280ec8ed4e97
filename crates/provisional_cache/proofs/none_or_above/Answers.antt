use native.Mathlib.Omega.{arith}
use Prim.Native.Nat.{◌-◌}
use Rattle.stack.proofs.Graph.{frame_bytes_lem}
use Rattle.stack.proofs.Blocks.{heads_block}
use Rattle.provisional_cache.proofs.Tests.{above_root, above_empty, above_lowest}
use mathlib.Core.Path.{sym, ◌∙◌}
use Rattle.provisional_cache.proofs.none_or_above.Goals as goal

pub returns-then-height-eq0 : goal.returns-then-height-eq0
returns-then-height-eq0 c = let s = c in above_root s.args.goals s.args.height s.args.head s.args.graph.now c.if-height-eq0.true

pub heads-hs-requires : goal.heads-hs-requires
heads-hs-requires c =
    let s = c in
    let frame_at = c.frame_at in
    frame_bytes_lem s.args.goals s.args.graph.now frame_at.result.now (s.args.height - 1) s.requires.0 (omega arith)
    frame_at.ensures

pub is_empty-requires : goal.is_empty-requires
is_empty-requires c =
    let s = c in
    let frame_at = c.frame_at in
    let heads = c.heads-hs in
    heads_block s.args.goals frame_at.result.now heads.result.now
    (frame_bytes_lem s.args.goals s.args.graph.now frame_at.result.now (s.args.height - 1) s.requires.0 (omega arith)
    frame_at.ensures) heads.ensures

pub returns-then-is_empty : goal.returns-then-is_empty
returns-then-is_empty c =
    let s = c in
    let frame_at = c.frame_at in
    let heads = c.heads-hs in
    above_empty s.args.goals s.args.height s.args.head s.args.graph.now (omega arith) frame_at.result.now
    heads.result.now frame_at.ensures heads.ensures (sym c.is_empty.ensures ∙ c.if-is_empty.true)

pub mask-requires : goal.mask-requires
mask-requires c =
    let s = c in
    let frame_at = c.frame_at in
    let heads = c.heads-hs in
    heads_block s.args.goals frame_at.result.now heads.result.now
    (frame_bytes_lem s.args.goals s.args.graph.now frame_at.result.now (s.args.height - 1) s.requires.0 (omega arith)
    frame_at.ensures) heads.ensures

pub returns : goal.returns
returns c =
    let s = c in
    let frame_at = c.frame_at in
    let heads = c.heads-hs in
    let is-empty = c.is_empty in
    let mask = c.mask in
    let lowest = c.lowest in
    above_lowest s.args.goals s.args.height s.args.head s.args.graph.now (omega arith) frame_at.result.now
    heads.result.now frame_at.ensures heads.ensures (sym is-empty.ensures ∙ c.if-is_empty.false)
    (64 - s.args.goals) mask.result mask.ensures lowest.result lowest.ensures
