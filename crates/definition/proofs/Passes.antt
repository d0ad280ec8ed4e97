-- Document 02, item 8: how often a part is run. For every way to compute it.
use mathlib.Core.Bool.{Bool}
use mathlib.Core.List.{[], ◌∷◌}
use Prim.Native.Nat.{ℕ, zero, suc, ◌+◌, ◌≤◌}
use native.Mathlib.Omega.{arith}
use Rattle.definition.specs.declared.answers.Answer.{Answer}
use Rattle.definition.specs.declared.endings.Ending.{Ending}
use Rattle.definition.specs.declared.endings.Ending.TheVariants as ending
use Rattle.definition.specs.Stack.{Frame, Stack}
use Rattle.definition.specs.Graph.{Graph, Outcome, Done, Stopped}
use Rattle.definition.specs.Endings.{ending_of}
use Rattle.definition.specs.Task.{no_turn, TaskOutcome, Evaluated, TaskStopped, after_pop, end_iteration, iteration, evaluate_goal_in_task}

-- at least `low` times and at most `high` times, where there is a result
abbrev pub RanWithin : ℕ → ℕ → TaskOutcome → Type 0
RanWithin low high (Evaluated g r) = (low ≤ r.passes) × (r.passes ≤ high)
RanWithin low high (TaskStopped r) = Unit {0}

module _ (low high : ℕ) where
  module _ (next : Bool → Graph → TaskOutcome) (later : (o : Bool) (g : Graph) → RanWithin low high (next o g))
      (pass : ℕ) (some : low ≤ pass) (few : pass ≤ high) where
    after_pop_within : (o : Bool) (f : Frame) (a : Answer) (end : Ending) (g : Graph)
        → RanWithin low high (after_pop next pass o f a end g)
    after_pop_within o f a ending.Nothing g = (some, few)
    after_pop_within o f a (ending.Fixpoint fixpoint) g = (some, few)
    after_pop_within o f a ending.NoUsages g = (some, few)
    after_pop_within o f a (ending.Ambiguity kind) g = (some, few)
    after_pop_within o f a ending.Overflow g = (some, few)
    after_pop_within o f a ending.Rerun g = later o _

    end_within : (left : ℕ) (o : Bool) (g : Graph) (a : Answer) (s : Stack)
        → RanWithin low high (end_iteration left pass next o g a s)
    end_within left o g a [] = tt
    end_within left o g a (f ∷ fs) = after_pop_within _ f a (ending_of left f a) _

    iteration_within : (left : ℕ) (o : Bool) (out : Outcome) → RanWithin low high (iteration left pass next o out)
    iteration_within left o (Done g a) = end_within left o g a g.stack
    iteration_within left o (Stopped r) = tt

  -- this turn has the number `pass`, and `left` more are allowed
  pub task_within : (compute : Graph → Outcome) (left pass : ℕ) (o : Bool) (g : Graph) → low ≤ pass → pass + left ≤ high
      → RanWithin low high (evaluate_goal_in_task compute left pass o g)
  task_within compute zero pass o g some few =
      iteration_within no_turn (λ o' g'. tt) pass some (omega arith) zero o (compute g)
  task_within compute (suc left) pass o g some few =
      iteration_within (evaluate_goal_in_task compute left (suc pass))
      (λ o' g'. task_within compute left (suc pass) o' g' (omega arith) (omega arith)) pass some (omega arith)
      (suc left) o (compute g)
