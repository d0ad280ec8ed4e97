use Rattle.pop.proofs.Reasons.{reason_else}
use Rattle.pop.proofs.rebase.reason_of.Goals as goal

pub returns-in_default : goal.returns-in_default
returns-in_default c = reason_else c.args.ending c.in_default.in_default-own.keys4
