use Rattle.bits.proofs.Flags.{has_at, has_past}
use Rattle.bits.proofs.has.Goals as goal

pub returns-then-i-ge64 : goal.returns-then-i-ge64
returns-then-i-ge64 c = has_past 64 c.args.i c.args.m c.if-i-ge64.true

pub returns : goal.returns
returns c = has_at 64 c.args.i c.args.m c.if-i-ge64.false
