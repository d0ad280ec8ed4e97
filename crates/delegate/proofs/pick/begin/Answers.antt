use Rattle.delegate.proofs.Picks.{begun}
use Rattle.delegate.proofs.pick.begin.Goals as goal

pub returns : goal.returns
returns c =
    begun c.args.goals c.args.height c.args.entries c.args.work.now c.start.new.work c.start.ensures
