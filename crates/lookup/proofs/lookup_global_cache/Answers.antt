use mathlib.Core.Path.{refl, sym}
use Rattle.std.proofs.lemmas.Option.{none-some}
use mathlib.Core.Option.{some}
use Rattle.definition.specs.Graph.{Done}
use Rattle.layout.specs.Work.{graph_of}
use Rattle.lookup.proofs.Hits.{success_hit, overflow_hit, slots_missed}
use Rattle.lookup.proofs.lookup_global_cache.Goals as goal

pub returns-then-success_applies : goal.returns-then-success_applies
returns-then-success_applies c =
    record {
      is =
          λ root. success_hit c.args.h c.args.height c.args.entries c.args.goal c.args.step c.args.available c.args.graph.now c.args.cache.now root
          c.slot_at-success.result.now c.slot_at-success.ensures c.success_applies.result c.success_applies.ensures c.if-success_applies.true
          (some (Done (graph_of c.args.h.goals root c.args.height c.args.entries c.use_slot.new.graph c.args.cache.now) c.use_slot.result))
          (c.use_slot.ensures root c.args.entries c.args.cache.now);
      missed = λ e. absurd (none-some _ (sym e));
    }

pub returns-then-overflow_applies : goal.returns-then-overflow_applies
returns-then-overflow_applies c =
    record {
      is =
          λ root. overflow_hit c.args.h c.args.height c.args.entries c.args.goal c.args.step c.args.available c.args.graph.now c.args.cache.now root
          c.slot_at-success.result.now c.slot_at-success.ensures c.success_applies.result c.success_applies.ensures c.if-success_applies.false
          c.slot_at-overflow.result.now c.slot_at-overflow.ensures c.overflow_applies.result c.overflow_applies.ensures c.if-overflow_applies.true
          (some (Done (graph_of c.args.h.goals root c.args.height c.args.entries c.use_slot-then-overflow_applies.new.graph c.args.cache.now) c.use_slot-then-overflow_applies.result))
          (c.use_slot-then-overflow_applies.ensures root c.args.entries c.args.cache.now);
      missed = λ e. absurd (none-some _ (sym e));
    }

pub returns : goal.returns
returns c =
    record {
      is =
          λ root. slots_missed c.args.h c.args.height c.args.entries c.args.goal c.args.step c.args.available c.args.graph.now c.args.cache.now root
          c.slot_at-success.result.now c.slot_at-success.ensures c.success_applies.result c.success_applies.ensures c.if-success_applies.false
          c.slot_at-overflow.result.now c.slot_at-overflow.ensures c.overflow_applies.result c.overflow_applies.ensures c.if-overflow_applies.false;
      missed = λ e. refl;
    }
