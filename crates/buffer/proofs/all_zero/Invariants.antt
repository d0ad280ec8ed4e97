use Prim.Native.Nat.{◌≤◌}
use Rattle.buffer.proofs.Zeros.{Joined}
use Rattle.buffer.proofs.all_zero.Given as goal

abbrev pub invariant-loop-i : goal.invariant-loop-i
invariant-loop-i l = (l.i ≤ l.words) × Joined l.s l.all l.i
