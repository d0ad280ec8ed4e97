-- Outcomes.
use mathlib.Core.Path.{◌≡◌}
use mathlib.Core.List.{List}
use Prim.Native.Nat.{ℕ}
use Rattle.std.specs.Prelude.{Ok, Err}
use Rattle.definition.specs.Stack.{Stack, CountsTrue}
use Rattle.definition.proofs.Skeleton.{skeleton, Kept, TaskKept}
use Rattle.definition.proofs.StepCounts.{same_counted}
use Rattle.layout.specs.Work.{stack_of}
use Rattle.evaluation.specs.Outcomes.{Outcome, TaskOutcome, outcome_of, ran_of, task_outcome_of, IsDone, CountsIn, TaskCountsIn}

-- an outcome that is the definition's has the skeleton that the definition leaves
pub kept_done : (goals root height : ℕ) (bs cache : List ℕ) (o : Outcome) (k : Stack) → IsDone o
    → Kept k (outcome_of goals root height bs cache o) → skeleton (stack_of goals height bs) ≡ k
unfolding outcome_of
kept_done goals root height bs cache (Ok d) k is e = e
kept_done goals root height bs cache (Err r) k is e = absurd is

-- and so its counts are true
pub counts_in : (goals root height : ℕ) (bs cache : List ℕ) (o : Outcome) (old : Stack) → CountsTrue old
    → Kept (skeleton old) (outcome_of goals root height bs cache o) → CountsIn (stack_of goals height bs) o
unfolding outcome_of
counts_in goals root height bs cache (Ok d) old c e = same_counted old (stack_of goals height bs) e c
counts_in goals root height bs cache (Err r) old c e = tt

pub task_counts_in : (goals root height : ℕ) (bs cache : List ℕ) (o : TaskOutcome) (old : Stack)
    → CountsTrue old → TaskKept (skeleton old) (task_outcome_of goals root height bs cache o)
    → TaskCountsIn (stack_of goals height bs) o
unfolding ran_of
task_counts_in goals root height bs cache (Ok ran) old c e = same_counted old (stack_of goals height bs) e c
task_counts_in goals root height bs cache (Err r) old c e = tt
