-- What follows a goal's last iteration, in the bytes of the graph and of the cache, for every root.
-- The goal's frame stood at index `height`.
use Rattle.std.specs.Prelude.{◌≡◌, Bool, List, ℕ}
use Rattle.definition.specs.declared.paths.PathKind.{PathKind}
use Rattle.definition.specs.declared.format.Header.{Header}
use Rattle.definition.specs.Graph.{finalize}
use Rattle.definition.specs.Parent.{Ordinary}
use Rattle.definition.specs.Evaluate.{insert_global_cache, insert_provisional_cache, insert_result, after_task}
use Rattle.layout.specs.Work.{graph_of}
use Rattle.stack.specs.Bytes.{frame_at}
use Rattle.parent.specs.Updated.{nested_at, Updated}
use Rattle.evaluation.specs.declared.Evaluated.{Evaluated}
use Rattle.evaluation.specs.declared.Ran.{Ran}
use Rattle.evaluation.specs.Outcomes.{Outcome, TaskOutcome, outcome_of, task_outcome_of, FewEntries}

-- the parent learns what the goal came to; the goal's frame is as before
abbrev pub ParentUpdated : ℕ → ℕ → PathKind → Bool → ℕ → List ℕ → List ℕ → Type 0
ParentUpdated goals height step overflow reached old new =
    Updated goals height step (frame_at goals height old).heads overflow (Ordinary (nested_at goals height old))
    reached old new

-- the result goes to the global cache, which becomes `cacheAfter`
pub record InGlobalCache (h : Header) (height goal : ℕ) (ran : Ran) (graph cache cache_after : List ℕ) (r : Outcome) : Type 0 where
  pub is : (root : ℕ)
      → outcome_of h.goals root height graph cache_after r
      ≡ insert_global_cache h (graph_of h.goals root height ran.evaluated.entries graph cache) goal
      (finalize (frame_at h.goals height graph) ran.evaluated.overflow ran.evaluated.answer ran.passes)
  pub few : FewEntries h.goals r

-- to the provisional cache, which does not hold how often the part was run
pub record InProvisionalCache (h : Header) (height goal : ℕ) (step : PathKind) (e : Evaluated)
    (old new : List ℕ) (r : Outcome) : Type 0 where
  pub is : (root : ℕ) (cache : List ℕ) (passes : ℕ)
      → outcome_of h.goals root height new cache r
      ≡ insert_provisional_cache h (graph_of h.goals root height e.entries old cache) goal step
      (finalize (frame_at h.goals height old) e.overflow e.answer passes)
  pub few : FewEntries h.goals r

-- to one of them, or to none
pub record InCache (h : Header) (height goal : ℕ) (step : PathKind) (ran : Ran)
    (cache cache_after old new : List ℕ) (r : Outcome) : Type 0 where
  pub is : (root : ℕ)
      → outcome_of h.goals root height new cache_after r
      ≡ insert_result h (graph_of h.goals root height ran.evaluated.entries old cache) goal step
      (finalize (frame_at h.goals height old) ran.evaluated.overflow ran.evaluated.answer ran.passes)
  pub few : FewEntries h.goals r

-- the goal's outcome
pub record Finished (h : Header) (height goal : ℕ) (step : PathKind) (available : ℕ) (o : TaskOutcome)
    (cache cache_after old new : List ℕ) (r : Outcome) : Type 0 where
  pub is : (root : ℕ)
      → outcome_of h.goals root height new cache_after r
      ≡ after_task h goal step available (task_outcome_of h.goals root height old cache o)
  pub few : FewEntries h.goals r
