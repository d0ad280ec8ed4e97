-- What the ends of iterations and tasks leave of the counts of steps.
use mathlib.Core.Path.{◌≡◌, sym, subst}
use mathlib.Core.Bool.{Bool}
use mathlib.Core.List.{List}
use Prim.Native.Nat.{ℕ}
use lib.ListN.{length}
use Rattle.definition.specs.declared.paths.PathKind.{PathKind}
use Rattle.definition.specs.Stack.{CountsTrue}
use Rattle.definition.specs.Parent.{Ordinary}
use Rattle.definition.proofs.StepCounts.{update_counted}
use Rattle.layout.specs.Work.{stack_of}
use Rattle.stack.specs.Bytes.{StackBytes, frame_at}
use Rattle.provisional_cache.proofs.Loops.{graph_bytes}
use Rattle.task.specs.Results.{ParentUpdated}

-- the parent was updated
pub parent_counts : (goals height : ℕ) (step : PathKind) (overflow : Bool) (reached : ℕ) (old new : List ℕ)
    → StackBytes goals height old → length new ≡ length old → ParentUpdated goals height step overflow reached old new
    → StackBytes goals height new
parent_counts goals height step overflow reached old new s e u =
    record {
      bytes = graph_bytes goals old new s.bytes e;
      high = s.high;
      counts =
          subst CountsTrue (sym u.stack)
          (update_counted (stack_of goals height old) step (frame_at goals height old).heads overflow
          (Ordinary (frame_at goals height old).nested_goals) reached s.counts);
    }
