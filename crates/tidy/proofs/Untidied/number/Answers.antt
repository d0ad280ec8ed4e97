use native.Mathlib.Omega.{arith}
use Rattle.definition.proofs.Numbers.{refusal_small}
use Rattle.tidy.proofs.Untidied.number.Goals as goal

pub overflow_cast-result : goal.overflow_cast-result
overflow_cast-result c = record { fits = omega (arith, c.from.ensures, refusal_small c.in-Unread.r) }
