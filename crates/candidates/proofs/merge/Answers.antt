use Prim.Native.Nat.{◌^◌, ◌<◌}
use Rattle.evaluation.specs.Workspace.{WorkBytes}
use Rattle.evaluation.proofs.Lent.{same_bytes}
use Rattle.layout.specs.AtIndex.{add_at}
use Rattle.candidates.proofs.Parts as parts
use Rattle.candidates.proofs.Loops as loops
use borrow.Author.Rules.{rules}
use Rattle.candidates.proofs.merge.Goals as goal

pub loop-i-init : goal.loop-i-init
loop-i-init c =
    let s = c in
    rw (c.into_iter-i-iterator.ensures.into_iter_gives, c.places-i-items.ensures)
    (loops.merge_start s.args.goals s.args.own s.args.work.now _ c.mask-mask.result (parts.top_part s.args.goals s.args.work.now s.requires.0 s.args.own s.requires.1 c.frame.ensures.start c.frame.ensures.end)
    (let it : c.mask-mask.result < 2 ^ 64 = search rules in it) c.mask-mask.ensures)

pub usages-u-requires : goal.usages-u-requires
usages-u-requires c =
    let s = c in
    let l = c.loop-i in
    let step = c.in-Some.ensures.steps in
    (parts.top_frame s.args.goals l.work (same_bytes s.args.goals s.args.work.now s.requires.0 l.work l.invariant.same_length) s.args.own s.requires.1 c.frame-in-loop-i.ensures.start c.frame-in-loop-i.ensures.end, loops.turn_below l.i-iterator.mask c.in-Some.i step.0 l.invariant.small step.1.0 s.args.goals l.invariant.below)

pub add-requires : goal.add-requires
add-requires c =
    let s = c in
    let l = c.loop-i in
    let step = c.in-Some.ensures.steps in
    (parts.merged_block s.args.goals l.work (same_bytes s.args.goals s.args.work.now s.requires.0 l.work l.invariant.same_length) s.args.own s.requires.1 c.merged.ensures.start c.merged.ensures.end, loops.turn_below l.i-iterator.mask c.in-Some.i step.0 l.invariant.small step.1.0 s.args.goals l.invariant.below)

pub loop-i-preserved : goal.loop-i-preserved
loop-i-preserved c =
    let s = c in
    let l = c.loop-i in
    let y = c.add in
    let step = c.in-Some.ensures.steps in
    let w : WorkBytes s.args.goals l.work = same_bytes s.args.goals s.args.work.now s.requires.0 l.work l.invariant.same_length in
    loops.merge_next s.args.goals s.args.own s.args.work.now l.work l.i-iterator.mask l.invariant c.in-Some.i step.0 step.1.0 _ (parts.top_part s.args.goals l.work w s.args.own s.requires.1 c.frame-in-loop-i.ensures.start c.frame-in-loop-i.ensures.end) c.usages-u.result c.usages-u.ensures _
    (parts.block_length s.args.goals l.work w s.args.own s.requires.1 c.merged.ensures.start c.merged.ensures.end y.new.b y.auto.b)
    (parts.merged_written s.args.goals l.work w s.args.own s.requires.1 c.merged.ensures.start c.merged.ensures.end (add_at c.in-Some.i c.usages-u.result) y.new.b y.auto.b y.ensures) c.next.new.self.mask step.1.1.0 step.1.1.1

pub returns : goal.returns
returns c = let s = c in let l = c.loop-i in loops.merge_done s.args.goals s.args.own s.args.work.now l.work l.i-iterator.mask l.invariant c.in-None.ensures.steps.0
