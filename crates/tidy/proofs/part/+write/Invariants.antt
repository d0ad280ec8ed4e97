use Rattle.std.proofs.Common.{◌≡◌, ◌-◌, length}
use Rattle.tidy.proofs.Turns.{Turn}
use Rattle.tidy.proofs.part.+write.Given as goal

abbrev pub decreases-write : goal.decreases-write
decreases-write l = l.nest

abbrev pub invariant-loop : goal.invariant-loop
invariant-loop l = (length l.out ≡ length l.initial.out) × Turn l.nest l.part l.code l.out l.read l.wrote l.count (l.end - l.counter)
