use mathlib.Core.Path.{◌≡◌}
use lib.ListN.{length}
use Rattle.book.proofs.Bodies.{Body}
use Rattle.book.proofs.read_body.Given as goal

abbrev pub invariant-loop-g : goal.invariant-loop-g
invariant-loop-g l = Body l.goals l.book l.starts l.at l.g × (length l.starts ≡ length l.initial.starts)
