use Rattle.bits.proofs.Ends.{flags_clear, clear_less}
use Rattle.bits.proofs.without_lowest.Goals as goal

pub returns : goal.returns
returns c = (flags_clear 64 c.args.m c.requires, clear_less c.args.m c.requires)
