-- How a frame ends: `reached_fixpoint` and the choices of `evaluate_goal_in_task` of mod.rs, and document 02's one
-- operation, which takes the top frame off the stack and does what follows.
use Rattle.std.specs.Prelude.{ℕ, zero, suc, true, false, [], ◌∷◌}
use Rattle.std.proofs.Math.Option.{Option, none, some}
use Rattle.definition.specs.declared.usages.HeadUsages.{HeadUsages}
use Rattle.definition.specs.declared.answers.Answer.{Answer}
use Rattle.definition.specs.declared.answers.Answer.TheVariants.{Overflow}
use Rattle.definition.specs.declared.endings.Fixpoint.{Fixpoint}
use Rattle.definition.specs.declared.endings.Fixpoint.TheVariants.{First, Later}
use Rattle.definition.specs.declared.endings.RebaseReason.TheVariants.{NoCycleUsages, Ambiguity, ReachedFixpoint}
use Rattle.definition.specs.declared.endings.Ending.{Ending}
use Rattle.definition.specs.declared.endings.Ending.TheVariants as ending
use Rattle.definition.specs.Usages.{is_empty, is_single}
use Rattle.definition.specs.Answers.{same_answer, is_ambiguous, initial_kind}
use Rattle.definition.specs.Stack.{Frame}
use Rattle.definition.specs.Graph.{Graph, with_stack}
use Rattle.definition.specs.ProvisionalCache.{rebase_provisional_cache_entries, clear_dependent_provisional_results_for_rerun}

-- ---- which ending applies

-- the fixpoint that is reached; nothing where the Rust gives Err
abbrev pub reached_fixpoint : Option Answer → HeadUsages → Answer → Option Fixpoint
reached_fixpoint (some provisional) u result = elim (same_answer provisional result) [ true ↦ some Later | false ↦ none ]
reached_fixpoint none u result =
    elim (is_single u (initial_kind result)) [ true ↦ some (First (initial_kind result)) | false ↦ none ]

-- `left` reruns are allowed
abbrev pub run_again : ℕ → Ending
run_again zero = ending.Overflow
run_again (suc left) = ending.Rerun

abbrev pub without_fixpoint : ℕ → HeadUsages → Answer → Ending
without_fixpoint left u result =
    elim (is_empty u) [
      | true ↦ ending.NoUsages
      | false ↦ elim (is_ambiguous result) [ true ↦ ending.Ambiguity result | false ↦ run_again left ]
    ]

abbrev pub ending_of_head : ℕ → Option Answer → HeadUsages → Answer → Ending
ending_of_head left provisional u result =
    elim (reached_fixpoint provisional u result) [
      | some fixpoint ↦ ending.Fixpoint fixpoint
      | none ↦ without_fixpoint left u result
    ]

-- a frame without usages is no cycle head
abbrev pub ending_of : ℕ → Frame → Answer → Ending
ending_of left f result =
    elim f.usages [ none ↦ ending.Nothing | some u ↦ ending_of_head left f.provisional_result u result ]

-- ---- the operation

-- the frame p was popped from the graph's stack
abbrev pub tidy_up : Ending → Graph → Frame → Graph
tidy_up ending.Nothing g p = g
tidy_up (ending.Fixpoint fixpoint) g p = rebase_provisional_cache_entries g p (ReachedFixpoint fixpoint)
tidy_up ending.NoUsages g p = rebase_provisional_cache_entries g p NoCycleUsages
tidy_up (ending.Ambiguity kind) g p = rebase_provisional_cache_entries g p (Ambiguity kind)
tidy_up ending.Overflow g p = rebase_provisional_cache_entries g p (Ambiguity Overflow)
tidy_up ending.Rerun g p = clear_dependent_provisional_results_for_rerun g

abbrev pub pop : Ending → Graph → Graph
pop e g = elim g.stack [ [] ↦ g | p ∷ s ↦ tidy_up e (with_stack g s) p ]
