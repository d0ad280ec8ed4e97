use mathlib.Core.Option.{some}
use Prim.Native.Nat.{◌-◌}
use Rattle.definition.specs.Candidates.{no_candidate_usages}
use Rattle.delegate.proofs.Tracking.{tracked}
use Rattle.delegate.proofs.Picks.{entered}
use Rattle.delegate.proofs.pick.enter_candidate.Goals as goal

pub returns : goal.returns
returns c =
    entered c.args.goals c.args.height c.args.work.now _ c.requires.1.0
    (tracked c.args.goals c.args.work.now c.requires.0 c.graph_length-n.result c.graph_length-n.ensures.0 c.enter_single_candidate.new.graph c.enter_single_candidate.auto.graph (c.args.height - 1)
    (some (no_candidate_usages c.args.goals)) c.enter_single_candidate.ensures.stack c.enter_single_candidate.ensures.entries)
