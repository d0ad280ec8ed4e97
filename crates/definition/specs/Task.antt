-- `evaluate_goal_in_task` of mod.rs.
use Rattle.std.specs.Prelude.{ℕ, zero, suc, Bool, false, ◌||◌, [], ◌∷◌}
use Rattle.std.proofs.Math.Option.{none, some}
use Rattle.definition.specs.declared.answers.Answer.{Answer}
use Rattle.definition.specs.declared.answers.Answer.TheVariants.{Overflow}
use Rattle.definition.specs.declared.endings.Ending.{Ending}
use Rattle.definition.specs.declared.endings.Ending.TheVariants as ending
use Rattle.definition.specs.declared.replies.Refusal.{Refusal}
use Rattle.definition.specs.declared.replies.Refusal.TheVariants.{Unreachable}
use Rattle.definition.specs.Usages.{no_usages}
use Rattle.definition.specs.Stack.{Frame, with_provisional_result, with_overflow, with_usages, with_candidate_usages, Stack}
use Rattle.definition.specs.Graph.{Graph, with_stack, Outcome, Done, Stopped, EvaluationResult, finalize}
use Rattle.definition.specs.Endings.{ending_of, pop}

pub data TaskOutcome : Type 0 where
  Evaluated : Graph → EvaluationResult → TaskOutcome
  TaskStopped : Refusal → TaskOutcome

-- heads and nested goals are kept; overflow, usages and candidate usages are reset
abbrev pub rerun_frame : Frame → Answer → Frame
rerun_frame f result =
    with_candidate_usages (with_usages (with_overflow (with_provisional_result f (some result)) false) (some no_usages)) none

abbrev pub push_rerun : Graph → Frame → Answer → Graph
push_rerun g f result = with_stack g (rerun_frame f result ∷ g.stack)

-- the frame f was popped with that ending, and g is left; `next` is the next turn of the loop, `pass` the number of this
-- one
abbrev pub after_pop : (Bool → Graph → TaskOutcome) → ℕ → Bool → Frame → Answer → Ending → Graph → TaskOutcome
after_pop next pass overflow f result ending.Nothing g = Evaluated g (finalize f overflow result pass)
after_pop next pass overflow f result (ending.Fixpoint fixpoint) g = Evaluated g (finalize f overflow result pass)
after_pop next pass overflow f result ending.NoUsages g = Evaluated g (finalize f overflow result pass)
after_pop next pass overflow f result (ending.Ambiguity kind) g = Evaluated g (finalize f overflow result pass)
after_pop next pass overflow f result ending.Overflow g = Evaluated g (finalize f overflow Overflow pass)
after_pop next pass overflow f result ending.Rerun g = next overflow (push_rerun g f result)

-- the graph's stack decides; there is always a frame to pop
abbrev pub end_iteration : ℕ → ℕ → (Bool → Graph → TaskOutcome) → Bool → Graph → Answer → Stack → TaskOutcome
end_iteration left pass next overflow g result [] = TaskStopped Unreachable
end_iteration left pass next overflow g result (f ∷ fs) =
    after_pop next pass (overflow || f.encountered_overflow) f result (ending_of left f result)
    (pop (ending_of left f result) (with_stack g (f ∷ fs)))

abbrev pub iteration : ℕ → ℕ → (Bool → Graph → TaskOutcome) → Bool → Outcome → TaskOutcome
iteration left pass next overflow (Stopped r) = TaskStopped r
iteration left pass next overflow (Done g result) = end_iteration left pass next overflow g result g.stack

-- the turn after the last one that is allowed: none is taken
abbrev pub no_turn : Bool → Graph → TaskOutcome
no_turn overflow g = TaskStopped Unreachable

-- `left` reruns are allowed: where none is, none follows. `pass` is the number of this iteration, from 1 on, and goes into
-- the result as how often the part was run. `overflow`: an earlier iteration met it
abbrev pub evaluate_goal_in_task : (Graph → Outcome) → ℕ → ℕ → Bool → Graph → TaskOutcome
evaluate_goal_in_task compute zero pass overflow g = iteration zero pass no_turn overflow (compute g)
evaluate_goal_in_task compute (suc left) pass overflow g =
    iteration (suc left) pass (evaluate_goal_in_task compute left (suc pass)) overflow (compute g)
