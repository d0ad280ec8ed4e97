use mathlib.Core.Path.{◌≡◌, refl, ap, ◌∙◌}
use native.Mathlib.Omega.{arith}
use Prim.Native.Nat.{ℕ, ◌<◌, ◌*◌}
use Rattle.definition.specs.ProvisionalCache.{survivors, survives_rerun}
use Rattle.layout.specs.Entry.{entry_of}
use Rattle.layout.specs.Work.{entry_from}
use Rattle.provisional_cache.specs.Entries.{EntriesBytes}
use Rattle.provisional_cache.proofs.Entries.{entries_from, entry_bytes_lem}
use Rattle.provisional_cache.proofs.Loops.{entries_bytes}
use Rattle.pop.proofs.Kept.{compact_start, compact_next}
use Rattle.pop.proofs.Kept.{whole_start, whole_next, survivor_first, cleared}
use Rattle.pop.proofs.clear.clear_for_rerun.Goals as goal

pub loop-i-init : goal.loop-i-init
loop-i-init c =
    let base : ℕ = c.entries_start-base.result in (
      compact_start base c.args.entries c.args.graph.now 0 (omega arith),
      whole_start (survivors c.args.rerun) c.args.goals base c.args.entries c.args.graph.now,
    )

pub survives_rerun-keep-requires : goal.survives_rerun-keep-requires
survives_rerun-keep-requires c =
    let s = c in
    let lt : c.loop-i.i < 2 * s.args.goals = let most = s.requires.1.1 in omega arith in (
      entry_bytes_lem s.args.goals c.entries_start-base.result c.loop-i.graph
          c.entry_from-entry.result.now c.loop-i.i ((let it : EntriesBytes c.args.goals c.entries_start-base.result c.loop-i.graph = entries_bytes c.args.goals c.entries_start-base.result c.args.graph.now c.loop-i.graph (entries_from c.args.goals c.entries_start-base.result c.args.graph.now c.requires.0 c.entries_start-base.ensures.0) c.loop-i.invariant.0.same_length in it)) lt c.entry_from-entry.ensures,
      c.requires.1.0,
    )

pub loop-i-preserved : goal.loop-i-preserved
loop-i-preserved c =
    let base : ℕ = c.entries_start-base.result in
    let is : c.survives_rerun-keep.result ≡ survives_rerun c.args.rerun (entry_from c.args.goals base c.loop-i.i c.loop-i.graph) =
    c.survives_rerun-keep.ensures ∙ ap (λ b. survives_rerun c.args.rerun (entry_of c.args.goals b)) c.entry_from-entry.ensures in (
      compact_next base c.args.entries c.args.graph.now c.args.goals c.loop-i.graph c.loop-i.graph c.keep_if-kept.new.bytes c.loop-i.kept c.loop-i.i
          c.keep_if-kept.result
          c.survives_rerun-keep.result c.loop-i.invariant.0 c.loop-i-test.true refl refl c.keep_if-kept.ensures c.keep_if-kept.auto.bytes,
      whole_next (survivors c.args.rerun) c.args.goals base c.args.entries c.args.graph.now c.loop-i.graph c.loop-i.graph
          c.keep_if-kept.new.bytes c.loop-i.kept c.loop-i.i
          c.keep_if-kept.result c.survives_rerun-keep.result c.loop-i.invariant.1 c.loop-i-test.true refl refl
          (survivor_first c.args.rerun (entry_from c.args.goals base c.loop-i.i c.loop-i.graph) c.survives_rerun-keep.result is)
          c.keep_if-kept.ensures,
    )

pub returns : goal.returns
returns c =
    cleared c.args.goals c.entries_start-base.result c.args.rerun c.args.entries c.args.graph.now c.loop-i.graph c.loop-i.kept c.loop-i.i
    c.entries_start-base.ensures.0 c.loop-i.invariant.0
    c.loop-i.invariant.1 c.loop-i-test.false
