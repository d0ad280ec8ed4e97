use mathlib.Core.Option.{none}
use Rattle.delegate.proofs.Tracking.{tracked}
use Rattle.delegate.proofs.pick.untrack.Goals as goal

pub returns : goal.returns
returns c =
    tracked c.args.goals c.args.work.now c.requires.0 c.graph_length-n.result c.graph_length-n.ensures.0 c.finish_single_candidate.new.graph c.finish_single_candidate.auto.graph c.args.own none c.finish_single_candidate.ensures.stack c.finish_single_candidate.ensures.entries
