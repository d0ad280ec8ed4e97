-- What the bytes and the numbers must be.
use Rattle.std.specs.Prelude.{List, ℕ, ◌*◌, ◌≤◌, ◌<◌}
use Rattle.definition.specs.declared.format.Header.{Header}
use Rattle.layout.specs.Work.{stack_of}
use Rattle.stack.specs.Bytes.{GraphBytes, StackBytes}
use Rattle.global_cache.specs.Cache.{CacheBytes}
use Rattle.evaluation.specs.declared.Ran.{Ran}
use Rattle.evaluation.specs.Outcomes.{Outcome, TaskOutcome, CountsIn, TaskCountsIn, FewEntries, FewTaskEntries}

-- after an iteration of the frame on top
pub record IterationEnded (goals height : ℕ) (graph : List ℕ) (o : Outcome) : Type 0 where
  pub bytes : GraphBytes goals graph
  pub low : 1 ≤ height
  pub high : height ≤ goals
  pub counts : CountsIn (stack_of goals height graph) o
  pub few : FewEntries goals o

-- after the last iteration of the frame that stood at index `height`
pub record TaskEnded (h : Header) (height goal : ℕ) (graph cache : List ℕ) (o : TaskOutcome) : Type 0 where
  pub bytes : GraphBytes h.goals graph
  pub counts : TaskCountsIn (stack_of h.goals height graph) o
  pub cache_bytes : CacheBytes h.goals h.top cache
  pub under : height < h.goals
  pub known : goal < h.goals
  pub few : FewTaskEntries h.goals o

-- that came to an answer
pub record Popped (h : Header) (height goal : ℕ) (graph cache : List ℕ) (ran : Ran) : Type 0 where
  pub stack : StackBytes h.goals height graph
  pub cache_bytes : CacheBytes h.goals h.top cache
  pub under : height < h.goals
  pub known : goal < h.goals
  pub few : ran.evaluated.entries ≤ 2 * h.goals
  pub passes : ran.passes < 256

-- the goal's result goes to the provisional cache
pub record Room (h : Header) (height entries goal : ℕ) (graph : List ℕ) : Type 0 where
  pub stack : StackBytes h.goals height graph
  pub under : height < h.goals
  pub known : goal < h.goals
  pub few : entries ≤ 2 * h.goals
