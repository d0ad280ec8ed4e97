use mathlib.Core.Bool.{true}
use Rattle.bits.proofs.Flags.{flags_with, set_past}
use Rattle.bits.proofs.with.Goals as goal

pub returns-then-i-ge64 : goal.returns-then-i-ge64
returns-then-i-ge64 c = set_past 64 c.args.i c.args.m c.if-i-ge64.true true

pub returns : goal.returns
returns c = flags_with 64 c.args.i c.args.m c.if-i-ge64.false
