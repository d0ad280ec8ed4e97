use mathlib.Core.Bool.{false}
use Rattle.bits.proofs.Flags.{flags_without, set_past}
use Rattle.bits.proofs.without.Goals as goal

pub returns-then-i-ge64 : goal.returns-then-i-ge64
returns-then-i-ge64 c = set_past 64 c.args.i c.args.m c.if-i-ge64.true false

pub returns : goal.returns
returns c = flags_without 64 c.args.i c.args.m c.if-i-ge64.false
