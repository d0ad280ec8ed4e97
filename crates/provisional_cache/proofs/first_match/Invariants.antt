use mathlib.Core.Path.{◌≡◌}
use Prim.Native.Nat.{ℕ, ◌-◌, ◌<◌}
use lib.ListN.{drop}
use Rattle.std.specs.Prelude.{Some}
use Rattle.definition.specs.Lookup.{first_match}
use Rattle.layout.specs.Work.{stack_of, entries_of}
use Rattle.provisional_cache.specs.Matches.{place_of}
use Rattle.provisional_cache.proofs.first_match.Given as goal

abbrev pub invariant-loop-next : goal.invariant-loop-next
invariant-loop-next l =
    record {
      few : (k : ℕ) → l.next ≡ Some k → k < l.entries;
      is :
          first_match (stack_of l.goals l.height l.graph) l.goal l.step (drop (place_of l.entries l.next) (entries_of l.goals l.entries l.graph))
          ≡ first_match (stack_of l.goals l.height l.graph) l.goal l.step (entries_of l.goals l.entries l.graph);
    }

abbrev pub decreases-loop-next : goal.decreases-loop-next
decreases-loop-next l = l.entries - place_of l.entries l.next
