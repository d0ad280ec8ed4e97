-- The end of an iteration, with the next one as a function, and what it stands for in bytes.
use Rattle.std.specs.Prelude.{◌≡◌, Bool, List, ℕ, zero, suc, ◌-◌, ◌*◌, ◌≤◌, ◌<◌, Result, Ok, Err}
use Rattle.definition.specs.declared.endings.Ending.{Ending}
use Rattle.definition.specs.declared.endings.Ending.TheVariants.{Rerun}
use Rattle.definition.specs.declared.replies.Refusal.{Refusal}
use Rattle.definition.specs.Stack.{Stack, CountsTrue}
use Rattle.definition.specs.Graph.{Graph, Outcome}
use Rattle.definition.specs.Task as task
use Rattle.layout.specs.Work.{graph_of}
use Rattle.evaluation.specs.Outcomes.{ran_of}
use Rattle.task.specs.declared.Iteration.{Iteration}
use Rattle.task.specs.declared.Iteration.TheVariants.{End, Again}

-- the turn of `evaluateGoalInTask` after the one with the number `pass`, with which `left` more are allowed
abbrev pub next_turn : (Graph → Outcome) → ℕ → ℕ → Bool → Graph → task.TaskOutcome
next_turn compute zero pass = task.no_turn
next_turn compute (suc left) pass = task.evaluate_goal_in_task compute left (suc pass)

-- `height` frames were on the stack, and are again in the next turn; `pass` turns were taken
unfoldable pub turned : ℕ → ℕ → ℕ → ℕ → (Bool → Graph → task.TaskOutcome) → List ℕ → List ℕ → Iteration
    → task.TaskOutcome
turned goals root height pass next bs cache (End e) =
    ran_of goals root (height - 1) bs cache (record { evaluated = e; passes = pass })
turned goals root height pass next bs cache (Again met n) = next met (graph_of goals root height n bs cache)

-- likewise, or a refusal
abbrev pub taken : ℕ → ℕ → ℕ → ℕ → (Bool → Graph → task.TaskOutcome) → List ℕ → List ℕ → Result Iteration Refusal
    → task.TaskOutcome
taken goals root height pass next bs cache (Ok i) = turned goals root height pass next bs cache i
taken goals root height pass next bs cache (Err r) = task.TaskStopped r

-- where there is a next turn, the counts of steps on the stack s are true
abbrev pub CountsTurned : Stack → Iteration → Type 0
CountsTurned s (End e) = Unit {0}
CountsTurned s (Again met n) = CountsTrue s

-- no more entries than the graph has room for, and another turn only where P
abbrev FewWhere : Type 0 → ℕ → Iteration → Type 0
FewWhere P goals (End e) = e.entries ≤ 2 * goals
FewWhere P goals (Again met n) = (n ≤ 2 * goals) × P

-- where the ending is a rerun
abbrev pub FewLeft : ℕ → Ending → Iteration → Type 0
FewLeft goals e i = FewWhere (e ≡ Rerun) goals i

-- where one is left
abbrev pub FewTurned : ℕ → ℕ → Iteration → Type 0
FewTurned goals left i = FewWhere (0 < left) goals i
