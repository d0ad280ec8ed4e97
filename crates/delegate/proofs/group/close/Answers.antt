use Rattle.delegate.proofs.Groups.{closed}
use Rattle.delegate.proofs.group.close.Goals as goal

pub returns : goal.returns
returns c =
    closed c.args.group
