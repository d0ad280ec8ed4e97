use native.Mathlib.Omega.{arith}
use lib.Dec.{lit<}
use Rattle.bits.proofs.Ends.{leading}
use Rattle.bits.proofs.highest.Goals as goal

pub overflow_sub-result : goal.overflow_sub-result
overflow_sub-result c = omega (arith, leading 64 c.args.m (lit< tt) (omega arith))

pub returns : goal.returns
returns c = omega (arith, leading 64 c.args.m (lit< tt) (omega arith))
