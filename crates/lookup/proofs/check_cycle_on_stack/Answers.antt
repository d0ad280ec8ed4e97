use mathlib.Core.Path.{refl, sym, ap, ◌∙◌}
use Rattle.std.specs.Prelude.{Option}
use Rattle.definition.specs.declared.answers.Answer.{Answer}
use Rattle.lookup.specs.Hits.{hit_of}
use Rattle.std.proofs.lemmas.Option.{none-some}
use Rattle.definition.specs.Graph.{Done}
use Rattle.layout.specs.Work.{graph_of}
use Rattle.lookup.proofs.Hits.{cycle_hit, cycle_missed}
use Rattle.lookup.proofs.check_cycle_on_stack.Goals as goal

pub returns-in_err-head : goal.returns-in_err-head
returns-in_err-head c =
    record {
      is =
          λ root n cache.
          ap (λ (r : Option Answer). hit_of r (graph_of c.args.h.goals root c.args.height n c.args.graph.now cache)) c.from_residual.ensures
          ∙ cycle_missed c.args.h c.args.height c.args.goal c.args.step c.args.available c.args.graph.now c.find.result
          c.find.ensures.is root n cache c.in_err-head.was;
      missed = λ e. refl;
    }

pub returns : goal.returns
returns c =
    record {
      is =
          λ root n cache. cycle_hit c.args.h c.args.height c.args.goal c.args.step c.args.available c.args.graph.now c.find.result
          c.find.ensures.is root n cache c.in_ok-head.head c.in_ok-head.was
          (Done (graph_of c.args.h.goals root c.args.height n c.close_cycle.new.graph cache) c.close_cycle.result) (c.close_cycle.ensures root n cache);
      missed = λ e. absurd (none-some _ (sym e));
    }
