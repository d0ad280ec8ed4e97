-- What the functions between the calls say of the workspace.
use Rattle.std.specs.Prelude.{◌≡◌, Bool, List, ◌∷◌, ℕ, ◌+◌, ◌*◌, ◌≤◌, ◌<◌, Result, IfOk}
use Rattle.std.proofs.Math.Option.{none}
use Rattle.definition.specs.declared.paths.PathKind.{PathKind}
use Rattle.definition.specs.declared.format.Header.{Header}
use Rattle.definition.specs.declared.replies.Refusal.{Refusal}
use Rattle.definition.specs.Stack.{CountsTrue, stack_find}
use Rattle.definition.specs.Graph.{Graph, with_stack}
use Rattle.definition.specs.Graph as graph
use Rattle.definition.specs.Task as task
use Rattle.definition.specs.Evaluate.{evaluate_goal_with, new_frame, after_task}
use Rattle.layout.specs.Work.{graph_of, merged_of}
use Rattle.stack.specs.Places.{Placed}
use Rattle.global_cache.specs.Cache.{CacheBytes}
use Rattle.evaluation.specs.Workspace.{WorkBytes, graph_in, stack_in}
use Rattle.evaluation.specs.Outcomes.{Outcome, TaskOutcome, outcome_of, task_outcome_of, TaskCountsIn, FewEntries, FewTaskEntries}
use Rattle.lookup.specs.declared.Found.{Found}
use Rattle.lookup.specs.declared.Found.TheVariants.{Push}
use Rattle.lookup.specs.Lookups.{found}
use Rattle.task.specs.declared.Iteration.{Iteration}
use Rattle.task.specs.Turns.{taken, CountsTurned, FewTurned}

-- the merged usages are as they were
abbrev pub MergedKept : ℕ → List ℕ → List ℕ → Type 0
MergedKept goals old new = (i : ℕ) → merged_of goals i new ≡ merged_of goals i old

pub record Looking (h : Header) (root height n goal : ℕ) (work cache places : List ℕ) : Type 0 where
  pub bytes : WorkBytes h.goals work
  pub slots : CacheBytes h.goals h.top cache
  pub stack : height ≤ h.goals
  pub entries : n ≤ 2 * h.goals
  pub known : goal < h.goals
  pub divides : 1 ≤ h.divisor
  pub shallow : root < 256
  pub counts : CountsTrue (stack_in h.goals height work)
  pub placed : Placed (stack_in h.goals height work) places

pub record LookedUp (h : Header) (root height n goal : ℕ) (step : PathKind) (lower : Bool)
    (old new cache : List ℕ) (r : Found) : Type 0 where
  pub is : (compute : ℕ → Graph → graph.Outcome)
      → evaluate_goal_with h compute (graph_of h.goals root height n (graph_in h.goals old) cache) goal step lower
      ≡ found h compute goal step r (graph_of h.goals root height n (graph_in h.goals new) cache)
  pub low : (d : ℕ) → r ≡ Push d → d < 256
  pub missed : (d : ℕ) → r ≡ Push d → graph_in h.goals new ≡ graph_in h.goals old
  pub off : (d : ℕ) → r ≡ Push d → stack_find (stack_in h.goals height old) goal ≡ none
  pub merged : MergedKept h.goals old new

pub record Pushed (goals height goal : ℕ) (step : PathKind) (available : ℕ) (old new : List ℕ) : Type 0 where
  pub is : (root n : ℕ) (cache : List ℕ)
      → graph_of goals root (height + 1) n (graph_in goals new) cache
      ≡ with_stack (graph_of goals root height n (graph_in goals old) cache)
      (new_frame goals goal step available (stack_in goals height old) ∷ stack_in goals height old)
  pub merged : MergedKept goals old new

pub record IterationEnded (goals height left : ℕ) (overflow : Bool) (o : Outcome) (old new : List ℕ)
    (r : Result Iteration Refusal) : Type 0 where
  pub is : (root : ℕ) (cache : List ℕ) (pass : ℕ) (next : Bool → Graph → task.TaskOutcome)
      → task.iteration left pass next overflow (outcome_of goals root height (graph_in goals old) cache o)
      ≡ taken goals root height pass next (graph_in goals new) cache r
  pub few : IfOk r (FewTurned goals left)
  pub counts : IfOk r (CountsTurned (stack_in goals height new))
  pub merged : MergedKept goals old new

pub record Finishing (h : Header) (height goal : ℕ) (o : TaskOutcome) (work cache : List ℕ) : Type 0 where
  pub bytes : WorkBytes h.goals work
  pub slots : CacheBytes h.goals h.top cache
  pub stack : height < h.goals
  pub known : goal < h.goals
  pub few : FewTaskEntries h.goals o
  pub counts : TaskCountsIn (stack_in h.goals height work) o

pub record Finished (h : Header) (height goal : ℕ) (step : PathKind) (available : ℕ) (o : TaskOutcome)
    (old new cache cache_after : List ℕ) (r : Outcome) : Type 0 where
  pub is : (root : ℕ)
      → outcome_of h.goals root height (graph_in h.goals new) cache_after r
      ≡ after_task h goal step available
      (task_outcome_of h.goals root height (graph_in h.goals old) cache o)
  pub few : FewEntries h.goals r
  pub merged : MergedKept h.goals old new
