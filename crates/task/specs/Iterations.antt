-- What the end of an iteration says of the graph's bytes, before and after it, for every root, cache, number of the
-- iteration and next turn.
-- Of n entries there is room for those that are left.
use Rattle.std.specs.Prelude.{◌≡◌, Bool, List, ℕ, ◌-◌, Result, IfOk}
use Rattle.definition.specs.declared.answers.Answer.{Answer}
use Rattle.definition.specs.declared.endings.Ending.{Ending}
use Rattle.definition.specs.declared.replies.Refusal.{Refusal}
use Rattle.definition.specs.Graph.{Graph}
use Rattle.definition.specs.Endings.{pop}
use Rattle.definition.specs.Task as task
use Rattle.layout.specs.Work.{stack_of, graph_of}
use Rattle.stack.specs.Bytes.{frame_at}
use Rattle.evaluation.specs.Outcomes.{Outcome, outcome_of}
use Rattle.task.specs.declared.Iteration.{Iteration}
use Rattle.task.specs.Turns.{turned, taken, CountsTurned, FewTurned, FewLeft}

-- the frame on top is popped
pub record FramePopped (goals height : ℕ) (ending : Ending) (n : ℕ) (overflow : Bool) (answer : Answer)
    (old new : List ℕ) (r : Iteration) : Type 0 where
  pub is : (root : ℕ) (cache : List ℕ) (pass : ℕ) (next : Bool → Graph → task.TaskOutcome)
      → task.after_pop next pass overflow (frame_at goals (height - 1) old) answer ending
      (pop ending (graph_of goals root height n old cache))
      ≡ turned goals root height pass next new cache r
  pub few : FewLeft goals ending r
  pub counts : CountsTurned (stack_of goals height new) r

-- with the ending that applies, after an answer
pub record TurnTaken (goals height left : ℕ) (overflow : Bool) (o : Outcome) (old new : List ℕ)
    (r : Result Iteration Refusal) : Type 0 where
  pub is : (root : ℕ) (cache : List ℕ) (pass : ℕ) (next : Bool → Graph → task.TaskOutcome)
      → task.iteration left pass next overflow (outcome_of goals root height old cache o)
      ≡ taken goals root height pass next new cache r
  pub few : IfOk r (FewTurned goals left)
  pub counts : IfOk r (CountsTurned (stack_of goals height new))
