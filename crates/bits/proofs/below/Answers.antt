use Rattle.bits.proofs.Flags.{flags_below, below_past}
use Rattle.bits.proofs.below.Goals as goal

pub returns-then-i-ge64 : goal.returns-then-i-ge64
returns-then-i-ge64 c = below_past 64 c.args.i c.args.m c.if-i-ge64.true

pub returns : goal.returns
returns c = flags_below 64 c.args.i c.args.m c.if-i-ge64.false
