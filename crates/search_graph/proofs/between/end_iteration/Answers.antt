use Rattle.definition.specs.Stack.{Stack}
use Rattle.evaluation.specs.Outcomes.{CountsIn}
use Rattle.evaluation.proofs.Lent.{lent_bytes}
use Rattle.search_graph.proofs.Lending.{lent_stack, iteration_ended}
use Rattle.search_graph.proofs.between.end_iteration.Goals as goal

pub end_iteration-requires : goal.end_iteration-requires
end_iteration-requires c =
    record {
      bytes = lent_bytes c.args.goals c.args.work.now c.requires.work_bytes.0 c.graph_length-n.result c.graph_length-n.ensures.0;
      low = c.requires.le_height.0;
      high = c.requires.le_height.1.0;
      counts =
          lent_stack c.args.goals c.args.work.now c.graph_length-n.result c.requires.work_bytes.0 c.graph_length-n.ensures.0
          (λ (st : Stack). CountsIn st c.args.o) c.args.height c.requires.work_bytes.1;
      few = c.requires.le_height.1.1;
    }

pub returns : goal.returns
returns c =
    iteration_ended c.args.goals c.args.work.now c.graph_length-n.result c.requires.work_bytes.0 c.graph_length-n.ensures.0 c.end_iteration.new.graph
    c.end_iteration.auto.graph c.args.height c.args.left c.args.overflow c.args.o c.end_iteration.result c.end_iteration.ensures
