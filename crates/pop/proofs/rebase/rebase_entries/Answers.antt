use Rattle.pop.proofs.Writes.{frame_after}
use Rattle.pop.proofs.Rounds.{rebasing_next, rebasing_done}
use Rattle.pop.proofs.rebase.rebase_entries.Goals as goal

pub loop-k-preserved : goal.loop-k-preserved
loop-k-preserved c =
    rebasing_next c.args.p.now.goals c.args.p.now.base c.args.p.now.index c.args.p.now.paths c.args.p.now.lowest c.args.p.now.reason c.args.entries c.args.rest.now c.loop-k.rest
    c.rebase_entry-keep.new.rest c.keep_if-kept.new.bytes
    c.loop-k.kept c.loop-k.k c.keep_if-kept.result c.rebase_entry-keep.result c.loop-k.invariant
    c.loop-k-test.true
    (frame_after c.args.p.now.goals c.args.p.now.base c.args.rest.now c.loop-k.rest c.requires.0.wide c.loop-k.invariant.compacting.below)
    c.rebase_entry-keep.ensures c.rebase_entry-keep.auto.rest
    c.keep_if-kept.ensures c.keep_if-kept.auto.bytes

pub returns : goal.returns
returns c =
    rebasing_done c.args.p.now.goals c.args.p.now.base c.args.p.now.index c.args.p.now.paths c.args.p.now.lowest c.args.p.now.reason c.args.entries c.args.rest.now c.loop-k.rest
    c.loop-k.kept c.loop-k.k c.loop-k.invariant
    c.loop-k-test.false
