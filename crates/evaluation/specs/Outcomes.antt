-- What an outcome stands for, with the bytes of the graph and of the cache beside it.
use Rattle.std.specs.Prelude.{List, ℕ, ◌*◌, ◌≤◌, ◌<◌, Result, Ok, Err}
use Rattle.definition.specs.declared.answers.Answer.{Answer}
use Rattle.definition.specs.declared.replies.Refusal.{Refusal}
use Rattle.definition.specs.Stack.{Stack, CountsTrue}
use Rattle.definition.specs.Graph.{finalize}
use Rattle.definition.specs.Graph as graph
use Rattle.definition.specs.Task as task
use Rattle.layout.specs.Work.{graph_of}
use Rattle.stack.specs.Bytes.{frame_at}
use Rattle.evaluation.specs.declared.Done.{Done}
use Rattle.evaluation.specs.declared.Ran.{Ran}

abbrev pub Outcome : Type 0
Outcome = Result Done Refusal

abbrev pub TaskOutcome : Type 0
TaskOutcome = Result Ran Refusal

-- an answer, with n entries
abbrev pub done : Answer → ℕ → Outcome
done a n = Ok (record { answer = a; entries = n })

-- with `height` frames on the stack
unfoldable pub outcome_of : ℕ → ℕ → ℕ → List ℕ → List ℕ → Outcome → graph.Outcome
outcome_of goals root height bs cache (Ok d) =
    graph.Done (graph_of goals root height d.entries bs cache) d.answer
outcome_of goals root height bs cache (Err r) = graph.Stopped r

-- the popped frame stood at index `height`, and its part was run `ran.passes` times
unfoldable pub ran_of : ℕ → ℕ → ℕ → List ℕ → List ℕ → Ran → task.TaskOutcome
ran_of goals root height bs cache ran =
    let e = ran.evaluated in
    task.Evaluated (graph_of goals root height e.entries bs cache)
    (finalize (frame_at goals height bs) e.overflow e.answer ran.passes)

abbrev pub task_outcome_of : ℕ → ℕ → ℕ → List ℕ → List ℕ → TaskOutcome → task.TaskOutcome
task_outcome_of goals root height bs cache (Ok ran) = ran_of goals root height bs cache ran
task_outcome_of goals root height bs cache (Err r) = task.TaskStopped r

abbrev pub IsDone : Outcome → Type 0
IsDone (Ok d) = Unit {0}
IsDone (Err r) = ⊥

-- where there is an answer, the counts of steps on the stack s are true
abbrev pub CountsIn : Stack → Outcome → Type 0
CountsIn s (Ok d) = CountsTrue s
CountsIn s (Err r) = Unit {0}

abbrev pub TaskCountsIn : Stack → TaskOutcome → Type 0
TaskCountsIn s (Ok ran) = CountsTrue s
TaskCountsIn s (Err r) = Unit {0}

-- no more provisional entries than the graph has room for
abbrev pub FewEntries : ℕ → Outcome → Type 0
FewEntries goals (Ok d) = d.entries ≤ 2 * goals
FewEntries goals (Err r) = Unit {0}

-- and a number of runs that a byte holds
abbrev pub FewTaskEntries : ℕ → TaskOutcome → Type 0
FewTaskEntries goals (Ok ran) = (ran.evaluated.entries ≤ 2 * goals) × (ran.passes < 256)
FewTaskEntries goals (Err r) = Unit {0}
