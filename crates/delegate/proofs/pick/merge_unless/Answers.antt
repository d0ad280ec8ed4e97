use Rattle.delegate.proofs.Picks.{unmerged, merged}
use Rattle.delegate.proofs.pick.merge_unless.Goals as goal

pub returns-then-first : goal.returns-then-first
returns-then-first c =
    unmerged c.args.goals c.args.own c.args.first c.args.work.now c.if-first.true

pub returns : goal.returns
returns c =
    merged c.args.goals c.args.own c.args.first c.args.work.now c.merge.new.work c.if-first.false c.merge.ensures
