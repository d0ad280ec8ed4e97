-- Every evaluation leaves the goals, the steps and the counts of steps of the frames as they were.
use Prim.Native.Nat.{ℕ, zero, suc, ◌-◌, ◌*◌, pred}
use mathlib.Core.Path.{◌≡◌, refl, sym, ap, ◌∙◌}
use mathlib.Core.Bool.{Bool, true, false, not, ◌&&◌, ◌||◌}
use mathlib.Core.Option.{Option, none, some}
use mathlib.Core.List.{List, [], ◌∷◌}
use native.Mathlib.Omega.{arith}
use lib.Dec.{leb}
use lib.ListN.{length}
use Rattle.definition.specs.declared.paths.PathKind.{PathKind}
use Rattle.definition.specs.declared.usages.HeadUsages.{HeadUsages}
use Rattle.definition.specs.declared.answers.Answer.{Answer}
use Rattle.definition.specs.declared.answers.Answer.TheVariants.{No, Yes, Overflow}
use Rattle.definition.specs.declared.format.Header.{Header}
use Rattle.definition.specs.declared.replies.Refusal.TheVariants.{CacheConflict, Unreachable}
use Rattle.definition.proofs.Lists.{rest_same}
use Rattle.definition.specs.Answers.{combine, same_answer}
use Rattle.definition.specs.Heads.{CycleHeads, no_heads, heads_empty}
use Rattle.definition.specs.Stack.{Frame, Stack, OnStack, stack_find}
use Rattle.definition.specs.Part.{All, Any, Pick, Part, Parts, Call, Node, UndecidedLine, End, Then, Book, part_at}
use Rattle.definition.specs.Graph.{Entry, Graph, with_stack, with_global_cache, Outcome, Done, Stopped, and_then, unless_found, EvaluationResult, finalize}
use Rattle.definition.specs.Parent.{UpdateParentGoalCtxt, Ordinary, CycleOnStack, ProvisionalCacheHit, update_parent_goal, handle_overflow}
use Rattle.definition.specs.GlobalCache.{CacheData, cache_get, cache_insert}
use Rattle.definition.specs.Lookup.{allowed_depth_for_nested, first_match, use_entry, lookup_provisional_cache, candidate_is_applicable, use_cache_data, lookup_global_cache, cycle_head, close_cycle, check_cycle_on_stack}
use Rattle.definition.specs.Candidates.{no_candidate_usages, set_candidate_usages, enter_single_candidate, finished_usages, finish_single_candidate, ignore_on_top, can_ignore}
use Rattle.definition.specs.declared.endings.Ending.{Ending}
use Rattle.definition.specs.declared.endings.Ending.TheVariants as ending
use Rattle.definition.specs.Endings.{ending_of, tidy_up}
use Rattle.definition.specs.Task.{no_turn, TaskOutcome, Evaluated, TaskStopped, after_pop, end_iteration, iteration, evaluate_goal_in_task}
use Rattle.definition.specs.Evaluate.{Evaluator, merge_unless, end_pick, eval_part, eval_all, eval_any, eval_pick, compute_goal, new_frame, insert_result, after_task, evaluate_at_depth, evaluate_goal_with, evaluate_goal}

-- a frame with nothing but these, and the stack of such frames
abbrev bone : Frame → Frame
bone f =
    record {
      input = f.input;
      step_kind_from_parent = f.step_kind_from_parent;
      available_depth = 0;
      min_reached_available_depth = 0;
      provisional_result = none;
      heads = [];
      encountered_overflow = false;
      usages = none;
      candidate_usages = none;
      nested_goals = [];
      step_counts = f.step_counts;
    }

abbrev pub skeleton : Stack → Stack
skeleton [] = []
skeleton (f ∷ fs) = bone f ∷ skeleton fs

-- ---- what is done to the top frame
update_same : (s : Stack) (step : PathKind) (hs : CycleHeads) (overflow : Bool) (ctxt : UpdateParentGoalCtxt) (reached : ℕ)
    → skeleton (update_parent_goal s step hs overflow ctxt reached) ≡ skeleton s
update_same [] step hs overflow ctxt reached = refl
update_same (f ∷ fs) step hs overflow ctxt reached = refl

overflow_same : (s : Stack) → skeleton (handle_overflow s) ≡ skeleton s
overflow_same [] = refl
overflow_same (f ∷ fs) = refl

pub candidate_same : (us : Option (List HeadUsages)) (s : Stack) → skeleton (set_candidate_usages us s) ≡ skeleton s
candidate_same us [] = refl
candidate_same us (f ∷ fs) = refl

ignore_same : (us : List HeadUsages) (s : Stack) → skeleton (ignore_on_top us s) ≡ skeleton s
ignore_same us [] = refl
ignore_same us (f ∷ fs) = refl

-- ---- the graph that is left, if one is, has the skeleton k
abbrev pub Kept : Stack → Outcome → Type 0
Kept k (Done g a) = skeleton g.stack ≡ k
Kept k (Stopped r) = Unit {0}

abbrev pub TaskKept : Stack → TaskOutcome → Type 0
TaskKept k (Evaluated g r) = skeleton g.stack ≡ k
TaskKept k (TaskStopped r) = Unit {0}

abbrev FoundKept : Stack → Option Outcome → Type 0
FoundKept k none = Unit {0}
FoundKept k (some o) = Kept k o

-- ---- cases
module _ (k : Stack) where
  either : (t : Bool) (x y : Outcome) → Kept k x → Kept k y → Kept k (elim t [ true ↦ x | false ↦ y ])
  either true x y kx ky = kx
  either false x y kx ky = ky

  then_kept : (o : Outcome) (next : Graph → Answer → Outcome) → Kept k o
      → ((g : Graph) (a : Answer) → skeleton g.stack ≡ k → Kept k (next g a)) → Kept k (and_then o next)
  then_kept (Done g a) next e then = then g a e
  then_kept (Stopped r) next e then = tt

  unless_kept : (o : Option Outcome) (next : Outcome) → FoundKept k o → Kept k next → Kept k (unless_found o next)
  unless_kept none next e then = then
  unless_kept (some o) next e then = e

-- ---- compute_goal
abbrev Keeps : Evaluator → Type 0
Keeps evaluate =
    (k : Stack) (g : Graph) (goal : ℕ) (step : PathKind) (lower : Bool) → skeleton g.stack ≡ k
    → Kept k (evaluate g goal step lower)

module _ (evaluate : Evaluator) (goals : ℕ) (keeps : Keeps evaluate) (k : Stack) where
  end_kept : (met : Bool) (combined : Answer) (others : List HeadUsages) (g : Graph) → skeleton g.stack ≡ k
      → Kept k (end_pick met combined others g)
  end_kept false combined others g e = e
  end_kept true combined others g e =
      either k (can_ignore others g.stack) _ _ (ignore_same others g.stack ∙ e) tt

  mutual
    pub part_kept : (p : Part) (g : Graph) → skeleton g.stack ≡ k → Kept k (eval_part evaluate goals p g)
    part_kept (Call goal kind lower) g e = keeps k g goal kind lower e
    part_kept (Node All ps) g e = all_kept ps Yes g e
    part_kept (Node Any ps) g e = any_kept ps No g e
    part_kept (Node Pick ps) g e = pick_kept ps false No (no_candidate_usages goals) g e
    part_kept UndecidedLine g e = e

    all_kept : (ps : Parts) (combined : Answer) (g : Graph) → skeleton g.stack ≡ k
        → Kept k (eval_all evaluate goals ps combined g)
    all_kept End combined g e = e
    all_kept (Then p ps) combined g e =
        then_kept k (eval_part evaluate goals p g) _ (part_kept p g e)
        λ g1 a e1. either k (same_answer a No) _ _ e1 (all_kept ps (combine combined a) g1 e1)

    any_kept : (ps : Parts) (combined : Answer) (g : Graph) → skeleton g.stack ≡ k
        → Kept k (eval_any evaluate goals ps combined g)
    any_kept End combined g e = e
    any_kept (Then p ps) combined g e =
        then_kept k (eval_part evaluate goals p g) _ (part_kept p g e)
        λ g1 a e1. either k (same_answer a Yes) _ _ e1 (any_kept ps (combine combined a) g1 e1)

    pick_kept : (ps : Parts) (met : Bool) (combined : Answer) (others : List HeadUsages) (g : Graph)
        → skeleton g.stack ≡ k → Kept k (eval_pick evaluate goals ps met combined others g)
    pick_kept End met combined others g e = end_kept met combined others g e
    pick_kept (Then p ps) met combined others g e =
        then_kept k (eval_part evaluate goals p (enter_single_candidate goals g)) _
        (part_kept p (enter_single_candidate goals g)
        (candidate_same (some (no_candidate_usages goals)) g.stack ∙ e))
        λ g1 a e1. pick_kept ps (met || same_answer a Yes) (combine combined a)
        (merge_unless (not met && same_answer a Yes) others (finished_usages goals g1)) (finish_single_candidate g1)
        (candidate_same none g1.stack ∙ e1)

-- ---- evaluate_goal_in_task: the frame on top, of which b is left, is popped
abbrev NextKept : Frame → Stack → (Bool → Graph → TaskOutcome) → Type 0
NextKept b k next = (overflow : Bool) (g : Graph) → skeleton g.stack ≡ b ∷ k → TaskKept k (next overflow g)

module _ (b : Frame) (k : Stack) where
  module _ (next : Bool → Graph → TaskOutcome) (keeps : NextKept b k next) (pass : ℕ) where
    after_pop_kept : (overflow : Bool) (g : Graph) (f : Frame) (a : Answer) (e : Ending) → skeleton (f ∷ g.stack) ≡ b ∷ k
        → TaskKept k (after_pop next pass overflow f a e (tidy_up e g f))
    after_pop_kept overflow g f a ending.Nothing e = rest_same e
    after_pop_kept overflow g f a (ending.Fixpoint fixpoint) e = rest_same e
    after_pop_kept overflow g f a ending.NoUsages e = rest_same e
    after_pop_kept overflow g f a (ending.Ambiguity kind) e = rest_same e
    after_pop_kept overflow g f a ending.Overflow e = rest_same e
    after_pop_kept overflow g f a ending.Rerun e = keeps overflow _ e

    end_iteration_kept : (left : ℕ) (overflow : Bool) (g : Graph) (a : Answer) (s : Stack) → skeleton s ≡ b ∷ k
        → TaskKept k (end_iteration left pass next overflow g a s)
    end_iteration_kept left overflow g a [] e = tt
    end_iteration_kept left overflow g a (f ∷ fs) e =
        after_pop_kept (overflow || f.encountered_overflow) (with_stack g fs) f a (ending_of left f a) e

    iteration_kept : (left : ℕ) (overflow : Bool) (o : Outcome) → Kept (b ∷ k) o
        → TaskKept k (iteration left pass next overflow o)
    iteration_kept left overflow (Done g a) e = end_iteration_kept left overflow g a g.stack e
    iteration_kept left overflow (Stopped r) e = tt

  pub task_kept : (compute : Graph → Outcome) → ((g : Graph) → skeleton g.stack ≡ b ∷ k → Kept (b ∷ k) (compute g))
      → (left pass : ℕ) (overflow : Bool) (g : Graph) → skeleton g.stack ≡ b ∷ k
      → TaskKept k (evaluate_goal_in_task compute left pass overflow g)
  task_kept compute keeps zero pass overflow g e =
      iteration_kept no_turn (λ o g1 e1. tt) pass zero overflow (compute g) (keeps g e)
  task_kept compute keeps (suc left) pass overflow g e =
      iteration_kept (evaluate_goal_in_task compute left (suc pass)) (task_kept compute keeps left (suc pass)) pass
      (suc left) overflow
      (compute g)
      (keeps g e)

-- where an iteration comes to the next one, whatever that is, the frame is on top again
module _ (left pass : ℕ) (overflow met : Bool) (g1 : Graph) where
  abbrev GoesOn : ((Bool → Graph → TaskOutcome) → TaskOutcome) → Type 0
  GoesOn turn = (next : Bool → Graph → TaskOutcome) → turn next ≡ next met g1

  -- an ending takes no notice of the next one
  no_ending : (o : TaskOutcome) → GoesOn (λ next. o) → ⊥
  no_ending o e = two_refusals (e (λ m g. TaskStopped CacheConflict)) (e (λ m g. TaskStopped Unreachable))
    where
      two_refusals : o ≡ TaskStopped CacheConflict → o ≡ TaskStopped Unreachable → ⊥
      two_refusals x y = let z : ◌≡◌ {A = ℕ} 0 1 = cc in absurd (omega arith)

  abbrev next_graph : TaskOutcome → Graph
  next_graph (Evaluated g r) = g
  next_graph (TaskStopped r) = g1

  after_pop_again : (over : Bool) (g : Graph) (f : Frame) (a : Answer) (x : Ending)
      → GoesOn (λ next. after_pop next pass over f a x (tidy_up x g f)) → skeleton g1.stack ≡ skeleton (f ∷ g.stack)
  after_pop_again over g f a ending.Nothing e = absurd (no_ending _ e)
  after_pop_again over g f a (ending.Fixpoint fixpoint) e = absurd (no_ending _ e)
  after_pop_again over g f a ending.NoUsages e = absurd (no_ending _ e)
  after_pop_again over g f a (ending.Ambiguity kind) e = absurd (no_ending _ e)
  after_pop_again over g f a ending.Overflow e = absurd (no_ending _ e)
  after_pop_again over g f a ending.Rerun e =
      sym (ap (λ (o : TaskOutcome). skeleton (next_graph o).stack) (e (λ m g2. Evaluated g2 (finalize f over a pass))))

  end_iteration_again : (g : Graph) (a : Answer) (s : Stack)
      → GoesOn (λ next. end_iteration left pass next overflow g a s) → skeleton g1.stack ≡ skeleton s
  end_iteration_again g a [] e = absurd (no_ending _ e)
  end_iteration_again g a (f ∷ fs) e =
      after_pop_again (overflow || f.encountered_overflow) (with_stack g fs) f a (ending_of left f a) e

  pub again_kept : (k : Stack) (o : Outcome) → GoesOn (λ next. iteration left pass next overflow o) → Kept k o
      → skeleton g1.stack ≡ k
  again_kept k (Done g a) e is = end_iteration_again g a g.stack e ∙ is
  again_kept k (Stopped r) e is = absurd (no_ending _ e)

-- ---- evaluate_goal
module _ (h : Header) (k : Stack) (g : Graph) (input : ℕ) (step : PathKind) (available : ℕ)
    (e : skeleton g.stack ≡ k) where
  entry_kept : (x : Option Entry) → FoundKept k (use_entry g step available x)
  entry_kept none = tt
  entry_kept (some x) = update_same g.stack step x.heads x.encountered_overflow
      ProvisionalCacheHit available ∙ e

  entries_kept : FoundKept k (lookup_provisional_cache h g input step available)
  entries_kept = by h.provisional
    where
      by : (t : Bool)
          → FoundKept k (elim t [
            | false ↦ none
            | true ↦ use_entry g step available (first_match g.stack input step g.provisional_cache)
          ])
      by false = tt
      by true = entry_kept (first_match g.stack input step g.provisional_cache)

  slot_kept : (d : Option CacheData) → FoundKept k (use_cache_data h g step available d)
  slot_kept none = tt
  slot_kept (some d) =
      update_same g.stack step (no_heads h.goals) d.encountered_overflow (Ordinary d.nested_goals)
      (available - d.required_depth) ∙ e

  cycle_kept : (found : Option OnStack)
      → FoundKept k (elim found [ none ↦ none | some head ↦ some (close_cycle h g input step available head) ])
  cycle_kept none = tt
  cycle_kept (some head) =
      update_same g.stack step (cycle_head h.goals g.stack step head.index) false (CycleOnStack input)
      available ∙ e

  -- the result is kept
  module _ (r : EvaluationResult) where
    in_slot : (cache : Option (List ℕ))
        → Kept k (elim cache
        [ none ↦ Stopped CacheConflict | some after ↦ Done (with_global_cache g after) r.result ])
    in_slot none = tt
    in_slot (some after) = e

    result_kept : Kept k (insert_result h g input step r)
    result_kept =
        either k (heads_empty r.heads) _ _
        (either k (leb r.required_depth h.top) _ _ (in_slot (cache_insert h g.global_cache input r)) tt)
        (either k h.provisional _ _ (either k (leb (2 * h.goals) (length g.provisional_cache)) _ _ tt e) e)

module _ (h : Header) (k : Stack) (input : ℕ) (step : PathKind) (available : ℕ) where
  after_kept : (o : TaskOutcome) → TaskKept k o → Kept k (after_task h input step available o)
  after_kept (TaskStopped r) e = tt
  after_kept (Evaluated g r) e =
      let s = update_parent_goal g.stack step r.heads r.encountered_overflow (Ordinary r.nested_goals)
      (available - r.required_depth) in
      result_kept h k (with_stack g s) input step available
      (update_same g.stack step r.heads r.encountered_overflow (Ordinary r.nested_goals)
      (available - r.required_depth) ∙ e) r

module _ (h : Header) (compute : ℕ → Graph → Outcome)
    (keeps : (input : ℕ) (k : Stack) (g : Graph) → skeleton g.stack ≡ k → Kept k (compute input g)) where
  at_depth_kept : (k : Stack) (g : Graph) (input : ℕ) (step : PathKind) (available : ℕ) → skeleton g.stack ≡ k
      → Kept k (evaluate_at_depth h compute g input step available)
  at_depth_kept k g input step available e =
      unless_kept k (lookup_provisional_cache h g input step available) _ (entries_kept h k g input step available e)
      (unless_kept k (lookup_global_cache h g input step available) _
      (slot_kept h k g input step available e
      (cache_get h g.global_cache input available (candidate_is_applicable g step)))
      (unless_kept k (check_cycle_on_stack h g input step available) _
      (cycle_kept h k g input step available e (stack_find g.stack input))
      (after_kept h k input step available (evaluate_goal_in_task (compute input) (pred h.limit) 1 false pushed)
      (task_kept (bone new) k (compute input) (keeps input (bone new ∷ k)) (pred h.limit) 1 false pushed
      (ap (λ (s : Stack). bone new ∷ s) e)))))
    where
      new : Frame
      new = new_frame h.goals input step available g.stack

      pushed : Graph
      pushed = with_stack g (new ∷ g.stack)

  with_kept : Keeps (evaluate_goal_with h compute)
  with_kept k g input step lower e = by (allowed_depth_for_nested h g.root_depth g.stack lower)
    where
      by : (d : Option ℕ)
          → Kept k (elim d [
            | none ↦ Done (with_stack g (handle_overflow g.stack)) Overflow
            | some available ↦ evaluate_at_depth h compute g input step available
          ])
      by none = overflow_same g.stack ∙ e
      by (some available) = at_depth_kept k g input step available e

compute_kept : (evaluate : Evaluator) (b : Book) → Keeps evaluate → (input : ℕ) (k : Stack) (g : Graph)
    → skeleton g.stack ≡ k → Kept k (compute_goal evaluate b input g)
compute_kept evaluate b keeps input k g e = by (part_at b.parts input)
  where
    by : (p : Option Part)
        → Kept k (elim p [ none ↦ Stopped Unreachable | some q ↦ eval_part evaluate b.header.goals q g ])
    by none = tt
    by (some q) = part_kept evaluate b.header.goals keeps k q g e

-- every evaluation keeps the skeleton
pub skeleton_kept : (b : Book) (off : ℕ) → Keeps (evaluate_goal b off)
skeleton_kept b zero = with_kept b.header (λ input g. Stopped Unreachable) (λ input k g e. tt)
skeleton_kept b (suc off) =
    with_kept b.header (compute_goal (evaluate_goal b off) b)
    (compute_kept (evaluate_goal b off) b (skeleton_kept b off))
