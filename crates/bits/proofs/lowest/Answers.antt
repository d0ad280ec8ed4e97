use Rattle.bits.proofs.Ends.{trailing}
use Rattle.bits.proofs.lowest.Goals as goal

pub returns : goal.returns
returns c = trailing 64 c.args.m
