use native.Mathlib.Omega.{arith}
use Rattle.search_graph.proofs.Lending.{lent_frames, pushed}
use Rattle.search_graph.proofs.between.push.Goals as goal

pub push-requires : goal.push-requires
push-requires c = (
  lent_frames c.args.goals c.args.work.now c.graph_length-n.result c.requires.work_bytes.0 c.graph_length-n.ensures.0
      c.args.height (omega arith) c.requires.work_bytes.1,
  c.requires.height_lt_goals,
)

pub returns : goal.returns
returns c =
    pushed c.args.goals c.args.work.now c.graph_length-n.result c.requires.work_bytes.0 c.graph_length-n.ensures.0 c.push.new.graph c.push.auto.graph
    c.args.height c.args.goal c.args.step c.args.available c.push.ensures.stack c.push.ensures.entries
