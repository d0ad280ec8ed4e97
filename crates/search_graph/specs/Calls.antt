-- What the functions of the cycle of calls ask, and what they say.
use Rattle.std.specs.Prelude.{◌≡◌, Bool, true, false, List, ℕ, ◌*◌, ◌-◌, ◌≤◌, ◌<◌, length}
use Rattle.definition.specs.declared.paths.PathKind.{PathKind}
use Rattle.definition.specs.declared.format.Header.{Header}
use Rattle.definition.specs.Stack.{CountsTrue}
use Rattle.definition.specs.Graph.{Graph}
use Rattle.definition.specs.Graph as graph
use Rattle.definition.specs.Task as task
use Rattle.definition.specs.Evaluate.{Evaluator, eval_part, evaluate_goal}
use Rattle.layout.specs.Work.{merged_of}
use Rattle.stack.specs.Places.{PlacesHeld}
use Rattle.book.specs.Parts.{part_in}
use Rattle.book.specs.Read.{IsBook, book_in}
use Rattle.global_cache.specs.Cache.{CacheBytes}
use Rattle.evaluation.specs.Workspace.{WorkBytes, graph_in, stack_in}
use Rattle.evaluation.specs.Outcomes.{Outcome, TaskOutcome, outcome_of, task_outcome_of, FewEntries, FewTaskEntries}
use Rattle.delegate.specs.Picks.{graph_at}

-- a book that was read, cache and workspace of the right lengths, `height` frames with true counts of steps and their
-- goals at their places, and n entries
pub record Running (book starts places cache work : List ℕ) (h : Header) (root height n : ℕ) : Type 0 where
  pub read : IsBook book starts h
  pub enough : h.goals ≤ length starts
  pub slots : CacheBytes h.goals h.top cache
  pub bytes : WorkBytes h.goals work
  pub stack : height ≤ h.goals
  pub entries : n ≤ 2 * h.goals
  pub shallow : root < 256
  pub counts : CountsTrue (stack_in h.goals height work)
  pub placed : PlacesHeld (stack_in h.goals height work) places

-- the definition's evaluate_goal with `height` frames on the stack
abbrev pub evaluator : List ℕ → Header → ℕ → Evaluator
evaluator book h height = evaluate_goal (book_in book) (h.goals - height)

-- its evaluation of a goal, from these bytes
abbrev pub goal_from : List ℕ → Header → ℕ → ℕ → ℕ → List ℕ → List ℕ → ℕ → PathKind → Bool → graph.Outcome
goal_from book h root height n work cache goal step lower =
    evaluator book h height (graph_at h.goals root height n work cache) goal step lower

-- its compute_goal of the part that the bytes p start with
abbrev pub computed : List ℕ → List ℕ → Bool → Header → ℕ → Graph → graph.Outcome
computed book p in_pick h height = eval_part (evaluator book h height) h.goals (part_in h.goals in_pick p)

abbrev pub part_from : List ℕ → List ℕ → Bool → Header → ℕ → ℕ → ℕ → List ℕ → List ℕ → graph.Outcome
part_from book p in_pick h root height n work cache =
    computed book p in_pick h height (graph_at h.goals root height n work cache)

-- its evaluate_goal_in_task of the goal whose part that is, with `left` iterations after the first
abbrev pub task_from : List ℕ → List ℕ → Header → ℕ → ℕ → ℕ → ℕ → List ℕ → List ℕ → task.TaskOutcome
task_from book p h root height n left work cache =
    task.evaluate_goal_in_task (computed book p false h height) left 1 false
    (graph_at h.goals root height n work cache)

-- an outcome is the definition's, the merged usages below an index are as they were, and the goals that were on the stack
-- are at their places still
pub record Comes (goals root height low : ℕ) (whole : graph.Outcome) (old new cache places : List ℕ) (r : Outcome)
    : Type 0 where
  pub is : outcome_of goals root height (graph_in goals new) cache r ≡ whole
  pub few : FewEntries goals r
  pub merged : (i : ℕ) → i < low → merged_of goals i new ≡ merged_of goals i old
  pub placed : PlacesHeld (stack_in goals height old) places

-- likewise of a task, whose frame was popped
pub record TaskComes (goals root height : ℕ) (whole : task.TaskOutcome) (old new cache places : List ℕ) (r : TaskOutcome)
    : Type 0 where
  pub is : task_outcome_of goals root height (graph_in goals new) cache r ≡ whole
  pub few : FewTaskEntries goals r
  pub merged : (i : ℕ) → i < height → merged_of goals i new ≡ merged_of goals i old
  pub placed : PlacesHeld (stack_in goals height old) places

-- inside a pick the top frame's own merged usages are kept
abbrev pub kept_below : Bool → ℕ → ℕ
kept_below true height = height
kept_below false height = height - 1
