use Rattle.definition.specs.Stack.{Stack}
use Rattle.evaluation.specs.Outcomes.{TaskCountsIn}
use Rattle.evaluation.proofs.Lent.{lent_bytes}
use Rattle.search_graph.proofs.Lending.{lent_stack, finished}
use Rattle.search_graph.proofs.between.finish.Goals as goal

pub finish-requires : goal.finish-requires
finish-requires c =
    record {
      bytes = lent_bytes c.args.h.goals c.args.work.now c.requires.bytes c.graph_length-n.result c.graph_length-n.ensures.0;
      counts =
          lent_stack c.args.h.goals c.args.work.now c.graph_length-n.result c.requires.bytes c.graph_length-n.ensures.0
          (λ (st : Stack). TaskCountsIn st c.args.o) c.args.height c.requires.counts;
      cache_bytes = c.requires.slots;
      under = c.requires.stack;
      known = c.requires.known;
      few = c.requires.few;
    }

pub returns : goal.returns
returns c =
    finished c.args.h c.args.work.now c.graph_length-n.result c.requires.bytes c.graph_length-n.ensures.0 c.finish.new.graph
    c.finish.auto.graph c.args.height c.args.goal c.args.step c.args.available c.args.o c.args.cache.now
    c.finish.new.cache c.finish.result c.finish.ensures
