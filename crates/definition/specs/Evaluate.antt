-- `evaluate_goal` of mod.rs, and the delegate's `compute_goal`.
use Rattle.std.specs.Prelude.{ℕ, zero, suc, ◌-◌, ◌*◌, pred, Bool, true, false, not, ◌&&◌, ◌||◌, List, [], ◌∷◌, ◌++◌, leb, length}
use Rattle.std.proofs.Math.Option.{none, some}
use Rattle.definition.specs.declared.paths.PathKind.{PathKind}
use Rattle.definition.specs.declared.usages.HeadUsages.{HeadUsages}
use Rattle.definition.specs.declared.answers.Answer.{Answer}
use Rattle.definition.specs.declared.answers.Answer.TheVariants.{No, Yes, Undecided, Overflow}
use Rattle.definition.specs.declared.format.Header.{Header}
use Rattle.definition.specs.declared.replies.Refusal.TheVariants.{ProvisionalCacheFull, CacheConflict, Unreachable}
use Rattle.definition.specs.Usages.{merge_usages}
use Rattle.definition.specs.Answers.{combine, same_answer}
use Rattle.definition.specs.Heads.{no_heads, heads_empty, highest_index}
use Rattle.definition.specs.Nested.{no_nested_goals}
use Rattle.definition.specs.Steps.{count_steps}
use Rattle.definition.specs.Stack.{Frame, Stack, step_kinds, cycle_path_kind}
use Rattle.definition.specs.Part.{All, Any, Pick, Part, Parts, Call, Node, UndecidedLine, End, Then, Book, part_at}
use Rattle.definition.specs.Graph.{Graph, Entry, with_stack, with_provisional_cache, with_global_cache, Outcome, Done, Stopped, and_then, unless_found, EvaluationResult}
use Rattle.definition.specs.Parent.{update_parent_goal, handle_overflow, Ordinary}
use Rattle.definition.specs.GlobalCache.{cache_insert}
use Rattle.definition.specs.Lookup.{allowed_depth_for_nested, lookup_provisional_cache, lookup_global_cache, check_cycle_on_stack}
use Rattle.definition.specs.Candidates.{no_candidate_usages, enter_single_candidate, finished_usages, finish_single_candidate, can_ignore, ignore_candidate_head_usages}
use Rattle.definition.specs.Task.{TaskOutcome, Evaluated, TaskStopped, evaluate_goal_in_task}

-- evaluate_goal on a goal, its step from the parent, and whether to lower the depth
abbrev pub Evaluator : Type 0
Evaluator = Graph → ℕ → PathKind → Bool → Outcome

-- ---- compute_goal: a part is evaluated over how a goal is

-- after the candidates: `met`, a Yes was met; where a subtraction would fail the Rust panics, and none does
abbrev pub end_pick : Bool → Answer → List HeadUsages → Graph → Outcome
end_pick true combined others g =
    elim (can_ignore others g.stack) [ true ↦ Done (ignore_candidate_head_usages g others) Yes | false ↦ Stopped Unreachable ]
end_pick false combined others g = Done g combined

abbrev pub merge_unless : Bool → List HeadUsages → List HeadUsages → List HeadUsages
merge_unless true others usages = others
merge_unless false others usages = merge_usages others usages

module _ (evaluate : Evaluator) (goals : ℕ) where
  abbrev mutual
    pub eval_part : Part → Graph → Outcome
    eval_part (Call goal kind lower) g = evaluate g goal kind lower
    eval_part (Node All ps) g = eval_all ps Yes g
    eval_part (Node Any ps) g = eval_any ps No g
    eval_part (Node Pick ps) g = eval_pick ps false No (no_candidate_usages goals) g
    eval_part UndecidedLine g = Done g Undecided

    -- stops at a No
    pub eval_all : Parts → Answer → Graph → Outcome
    eval_all End combined g = Done g combined
    eval_all (Then p ps) combined g =
        and_then (eval_part p g) λ g1 a. elim (same_answer a No) [ true ↦ Done g1 No | false ↦ eval_all ps (combine combined a) g1 ]

    -- stops at a Yes
    pub eval_any : Parts → Answer → Graph → Outcome
    eval_any End combined g = Done g combined
    eval_any (Then p ps) combined g =
        and_then (eval_part p g) λ g1 a. elim (same_answer a Yes) [ true ↦ Done g1 Yes | false ↦ eval_any ps (combine combined a) g1 ]

    -- evaluates every candidate; `others`: the merged usages of all but the first Yes
    pub eval_pick : Parts → Bool → Answer → List HeadUsages → Graph → Outcome
    eval_pick End met combined others g = end_pick met combined others g
    eval_pick (Then p ps) met combined others g =
        and_then (eval_part p (enter_single_candidate goals g)) λ g1 a.
        eval_pick ps (met || same_answer a Yes) (combine combined a)
        (merge_unless (not met && same_answer a Yes) others (finished_usages goals g1)) (finish_single_candidate g1)

-- a called goal is one of the book's
abbrev pub compute_goal : Evaluator → Book → ℕ → Graph → Outcome
compute_goal evaluate b input g =
    elim (part_at b.parts input) [ none ↦ Stopped Unreachable | some p ↦ eval_part evaluate b.header.goals p g ]

-- ---- evaluate_goal

-- a new frame on the stack s
abbrev pub new_frame : ℕ → ℕ → PathKind → ℕ → Stack → Frame
new_frame goals input step available s =
    record {
      input = input;
      step_kind_from_parent = step;
      available_depth = available;
      min_reached_available_depth = available;
      provisional_result = none;
      heads = no_heads goals;
      encountered_overflow = false;
      usages = none;
      candidate_usages = none;
      nested_goals = no_nested_goals goals;
      step_counts = count_steps (step ∷ step_kinds s);
    }

abbrev pub new_entry : Graph → ℕ → PathKind → EvaluationResult → Entry
new_entry g input step r =
    record {
      input = input;
      encountered_overflow = r.encountered_overflow;
      heads = r.heads;
      path_from_head = cycle_path_kind g.stack step (highest_index r.heads);
      result = r.result;
    }

-- refused where 2 G entries are live already
abbrev pub insert_provisional_cache : Header → Graph → ℕ → PathKind → EvaluationResult → Outcome
insert_provisional_cache h g input step r =
    elim (leb (2 * h.goals) (length g.provisional_cache)) [
      | true ↦ Stopped ProvisionalCacheFull
      | false ↦ Done (with_provisional_cache g (g.provisional_cache ++ (new_entry g input step r ∷ []))) r.result
    ]

-- refused where the slot holds a different result
abbrev pub insert_in_slot : Header → Graph → ℕ → EvaluationResult → Outcome
insert_in_slot h g input r =
    elim (cache_insert h g.global_cache input r) [
      | none ↦ Stopped CacheConflict
      | some cache ↦ Done (with_global_cache g cache) r.result
    ]

-- a required depth is never above the top depth, so that there is a slot
abbrev pub insert_global_cache : Header → Graph → ℕ → EvaluationResult → Outcome
insert_global_cache h g input r =
    elim (leb r.required_depth h.top) [ true ↦ insert_in_slot h g input r | false ↦ Stopped Unreachable ]

abbrev pub insert_result : Header → Graph → ℕ → PathKind → EvaluationResult → Outcome
insert_result h g input step r =
    elim (heads_empty r.heads) [
      | true ↦ insert_global_cache h g input r
      | false ↦ elim h.provisional [ true ↦ insert_provisional_cache h g input step r | false ↦ Done g r.result ]
    ]

-- the frame was evaluated and popped: the parent is updated, and the result kept
abbrev pub after_task : Header → ℕ → PathKind → ℕ → TaskOutcome → Outcome
after_task h input step available (TaskStopped r) = Stopped r
after_task h input step available (Evaluated g r) =
    insert_result h
    (with_stack g
    (update_parent_goal g.stack step r.heads r.encountered_overflow (Ordinary r.nested_goals) (available - r.required_depth)))
    input step r

-- L reruns less one are allowed, so that L = 0 acts as 1
abbrev pub evaluate_new_frame : Header → (ℕ → Graph → Outcome) → Graph → ℕ → PathKind → ℕ → Outcome
evaluate_new_frame h compute g input step available =
    after_task h input step available
    (evaluate_goal_in_task (compute input) (pred h.limit) 1 false
    (with_stack g (new_frame h.goals input step available g.stack ∷ g.stack)))

abbrev pub evaluate_at_depth : Header → (ℕ → Graph → Outcome) → Graph → ℕ → PathKind → ℕ → Outcome
evaluate_at_depth h compute g input step available =
    unless_found (lookup_provisional_cache h g input step available)
    (unless_found (lookup_global_cache h g input step available)
    (unless_found (check_cycle_on_stack h g input step available)
    (evaluate_new_frame h compute g input step available)))

abbrev pub evaluate_goal_with : Header → (ℕ → Graph → Outcome) → Evaluator
evaluate_goal_with h compute g input step lower =
    elim (allowed_depth_for_nested h g.root_depth g.stack lower) [
      | none ↦ Done (with_stack g (handle_overflow g.stack)) Overflow
      | some available ↦ evaluate_at_depth h compute g input step available
    ]

-- `off` goals are not on the stack. At 0 all are, so that a lookup or a cycle answers and nothing is computed
abbrev pub evaluate_goal : Book → ℕ → Evaluator
evaluate_goal b zero = evaluate_goal_with b.header (λ input g. Stopped Unreachable)
evaluate_goal b (suc off) = evaluate_goal_with b.header (compute_goal (evaluate_goal b off) b)
