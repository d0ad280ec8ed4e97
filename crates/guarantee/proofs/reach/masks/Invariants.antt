use mathlib.Core.Path.{◌≡◌}
use lib.ListN.{length}
use Rattle.definition.specs.Part.{Book}
use Rattle.guarantee.specs.Engine.{CallMasks}
use Rattle.guarantee.proofs.Rounds.{ReachBelow}
use Rattle.guarantee.proofs.reach.masks.Given as goal

abbrev pub invariant-loop-goal : goal.invariant-loop-goal
invariant-loop-goal l = ((b : Book) → CallMasks b l.calls → b.header.goals ≡ l.goals → ReachBelow b l.goal l.masks) × (length l.masks ≡ 64)
