use mathlib.Core.Path.{◌≡◌}
use lib.ListN.{length}
use Rattle.tidy.proofs.Goals.{Writes}
use Rattle.tidy.proofs.write_book.Given as goal

abbrev pub invariant-loop-g : goal.invariant-loop-g
invariant-loop-g l = (length l.out ≡ length l.book) × Writes l.book l.out l.goals l.read l.wrote l.g
