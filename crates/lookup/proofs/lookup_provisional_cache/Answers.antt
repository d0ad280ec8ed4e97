use mathlib.Core.Path.{refl, sym, ap, ◌∙◌}
use Rattle.std.specs.Prelude.{Option}
use Rattle.definition.specs.declared.answers.Answer.{Answer}
use Rattle.lookup.specs.Hits.{hit_of}
use mathlib.Core.Option.{some}
use Rattle.std.proofs.lemmas.Option.{none-some}
use Rattle.definition.specs.Graph.{Done}
use Rattle.layout.specs.Work.{graph_of}
use Rattle.lookup.proofs.Hits.{switched_off, entry_missed, entry_hit}
use Rattle.lookup.proofs.lookup_provisional_cache.Goals as goal

pub returns-then-not-h : goal.returns-then-not-h
returns-then-not-h c =
    record {
      is =
          λ root cache. switched_off c.args.h c.args.height c.args.entries c.args.goal c.args.step c.args.available c.args.graph.now root cache
          c.if-not-h.true;
      missed = λ e. refl;
    }

pub returns-in_err-i : goal.returns-in_err-i
returns-in_err-i c =
    record {
      is =
          λ root cache.
          ap (λ (r : Option Answer). hit_of r (graph_of c.args.h.goals root c.args.height c.args.entries c.args.graph.now cache)) c.from_residual.ensures
          ∙ entry_missed c.args.h c.args.height c.args.entries c.args.goal c.args.step c.args.available c.args.graph.now root cache
          c.if-not-h.false c.first_match.result c.first_match.ensures.is c.in_err-i.was;
      missed = λ e. refl;
    }

pub returns : goal.returns
returns c =
    record {
      is =
          λ root cache. entry_hit c.args.h c.args.height c.args.entries c.args.goal c.args.step c.args.available c.args.graph.now root cache
          c.if-not-h.false c.first_match.result c.first_match.ensures.is c.in_ok-i.i c.in_ok-i.was
          (some (Done (graph_of c.args.h.goals root c.args.height c.args.entries c.use_entry.new.graph cache) c.use_entry.result))
          (c.use_entry.ensures root c.args.entries cache);
      missed = λ e. absurd (none-some _ (sym e));
    }
