use mathlib.Core.Path.{◌≡◌}
use Prim.Native.Nat.{◌-◌}
use Rattle.definition.specs.Part.{Book}
use Rattle.guarantee.specs.Engine.{CallMasks}
use Rattle.guarantee.proofs.Rounds.{Rounds}
use Rattle.guarantee.proofs.reach.reaching.Given as goal

abbrev pub invariant-loop-round : goal.invariant-loop-round
invariant-loop-round l = (b : Book) → CallMasks b l.calls → b.header.goals ≡ l.goals → Rounds b l.goal (l.goals - l._round) l.m
