use mathlib.Core.Path.{refl, sym, ap, ◌∙◌}
use Prim.Native.Nat.{ℕ, ◌+◌, ◌-◌, ◌^◌, ◌<◌}
use native.Mathlib.Omega.{arith}
use mathlib.Core.Bool.{false}
use mathlib.Core.List.{List, ◌++◌}
use lib.ListN.{length, replicate}
use Rattle.definition.specs.Stack.{Frame}
use Rattle.definition.specs.Heads.{CycleHeads}
use Rattle.definition.specs.Parent.{add_heads}
use Rattle.buffer.specs.Regions.{region}
use Rattle.buffer.proofs.Regions.{length_region}
use Rattle.layout.specs.Blocks.{heads_size, heads_of, present}
use Rattle.layout.proofs.Marks.{start_within}
use Rattle.stack.specs.Bytes.{GraphBytes, frame_at}
use Rattle.stack.specs.Written.{TopWritten}
use Rattle.stack.proofs.Parts.{part, returned}
use Rattle.stack.proofs.Ranges.{range_is, range_length, range_written}
use Rattle.stack.specs.Child.{add_head_at}
use Rattle.parent.proofs.Top.{top_frame, top_again, top_same, top_kept}
use Rattle.stack.proofs.Graph.{frame_bytes_lem}
use Rattle.parent.proofs.Update as update
use borrow.Author.Rules.{rules}
use Rattle.parent.proofs.add_heads.Goals as goal

pub loop-i-init : goal.loop-i-init
loop-i-init c =
    let s = c in
    let a = s.args in
    let cs : CycleHeads = heads_of a.goals (region a.start (heads_size a.goals) a.graph.now) in
    let is = c.mask-mask.ensures ∙ ap (λ (l : List ℕ). present (heads_of a.goals l) ++ replicate (64 - a.goals) false) (update.block_is a.goals a.start c.heads_size.result a.graph.now c.heads_size.ensures) in
    rw (c.into_iter-i-iterator.ensures.into_iter_gives, c.places-i-items.ensures)
    (refl, (let it : c.mask-mask.result < 2 ^ 64 = search rules in it), start_within cs c.mask-mask.result (64 - a.goals) is, top_kept a.goals a.own a.graph.now, update.loop_first cs c.mask-mask.result (64 - a.goals) is a.step a.own (frame_at a.goals a.own a.graph.now))

pub record-head-requires : goal.record-head-requires
record-head-requires c =
    let s = c in
    let a = s.args in
    let l = c.loop-i in
    let step = c.in-Some.ensures.steps in
    (record { few = s.requires.0.few; long = ap length (update.block_is a.goals a.start c.heads_size.result l.graph c.heads_size.ensures ∙ l.invariant.3.above a.start (heads_size a.goals) s.requires.1.1.0) ∙ length_region a.start (heads_size a.goals) a.graph.now s.requires.1.1.1 }, update.turn_small l.i-iterator.mask c.in-Some.i step.0 l.invariant.1 step.1.0 a.goals (region a.start (heads_size a.goals) a.graph.now) l.invariant.2)

pub add_head-requires : goal.add_head-requires
add_head-requires c =
    let s = c in
    let a = s.args in
    let l = c.loop-i in
    let step = c.in-Some.ensures.steps in
    let g : GraphBytes a.goals l.graph = record { some = s.requires.0.some; few = s.requires.0.few; long = l.invariant.0 ∙ s.requires.0.long } in
    (frame_bytes_lem a.goals l.graph _ a.own g s.requires.1.0 (range_is g s.requires.1.0 c.frame.ensures.start c.frame.ensures.end), update.turn_small l.i-iterator.mask c.in-Some.i step.0 l.invariant.1 step.1.0 a.goals (region a.start (heads_size a.goals) a.graph.now) l.invariant.2)

pub loop-i-preserved : goal.loop-i-preserved
loop-i-preserved c =
    let s = c in
    let a = s.args in
    let l = c.loop-i in
    let y = c.add_head in
    let step = c.in-Some.ensures.steps in
    let i : ℕ = c.in-Some.i in
    let block : List ℕ = region a.start (heads_size a.goals) a.graph.now in
    let g : GraphBytes a.goals l.graph = record { some = s.requires.0.some; few = s.requires.0.few; long = l.invariant.0 ∙ s.requires.0.long } in
    let out : List ℕ = returned l.graph c.frame.result.start c.frame.result.end y.new.frame in
    let new : Frame = add_head_at a.step a.own i c.record-head.result (frame_at a.goals a.own l.graph) in
    let w : TopWritten a.goals a.own new l.graph out = range_written g s.requires.1.0 c.frame.ensures.start c.frame.ensures.end (add_head_at a.step a.own i c.record-head.result) y.new.frame y.auto.frame y.ensures in
    let is-new = top_frame a.goals a.own new l.graph out w in (
      range_length g s.requires.1.0 c.frame.ensures.start c.frame.ensures.end y.new.frame y.auto.frame ∙ l.invariant.0,
      omega (arith, step.1.1.1, l.invariant.1),
      update.turn_within l.i-iterator.mask i step.0 l.invariant.1 step.1.0 a.goals block l.invariant.2 c.next.new.self.mask step.1.1.0,
      top_same a.goals a.own new a.graph.now out (top_again a.goals a.own (frame_at a.goals a.own l.graph) a.graph.now l.graph l.invariant.3 new out w) (frame_at a.goals a.own out) (sym is-new),
      update.turn_rest l.i-iterator.mask i step.0 l.invariant.1 step.1.0 a.goals block l.invariant.2 a.step a.own c.next.new.self.mask c.record-head.result (frame_at a.goals a.own l.graph) (frame_at a.goals a.own out)
          (add_heads a.step a.own (heads_of a.goals block) (frame_at a.goals a.own a.graph.now)) (part l.graph a.start (a.start + c.heads_size.result))
          (update.block_is a.goals a.start c.heads_size.result l.graph c.heads_size.ensures ∙ l.invariant.3.above a.start (heads_size a.goals) s.requires.1.1.0) c.record-head.ensures l.invariant.4 is-new step.1.1.0,
    )

pub returns : goal.returns
returns c =
    let a = c.args in
    let l = c.loop-i in
    let block : List ℕ = region a.start (heads_size a.goals) a.graph.now in
    let whole : Frame = add_heads a.step a.own (heads_of a.goals block) (frame_at a.goals a.own a.graph.now) in
    top_same a.goals a.own (frame_at a.goals a.own l.graph) a.graph.now l.graph l.invariant.3 whole (update.loop_last a.step a.own l.i-iterator.mask (heads_of a.goals block) (frame_at a.goals a.own l.graph) whole c.in-None.ensures.steps.0 l.invariant.4)
