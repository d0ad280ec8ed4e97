-- Two evaluations side by side, on caches that differ in nothing but the passes: they stay so.
use Prim.Native.Nat.{ℕ, zero, suc, ◌+◌, ◌-◌, ◌*◌, ◌<◌, ◌≤◌, pred}
use mathlib.Core.Path.{◌∙◌, ◌≡◌, ap, refl, subst, subst₂, sym}
use mathlib.Core.Bool.{Bool, true, false, not, ◌&&◌, ◌||◌}
use mathlib.Core.Option.{Option, none, some}
use mathlib.Core.List.{List, [], ◌∷◌}
use native.Mathlib.Omega.{arith}
use lib.Dec.{T, eqb, leb, leb→le, ltb}
use lib.ListN.{get_or, length, length-replicate, length-set, replicate}
use Rattle.definition.specs.declared.paths.PathKind.{PathKind}
use Rattle.definition.specs.declared.paths.PathKind.TheVariants.{Inductive}
use Rattle.definition.specs.declared.usages.HeadUsages.{HeadUsages}
use Rattle.definition.specs.declared.answers.Answer.{Answer}
use Rattle.definition.specs.declared.answers.Answer.TheVariants.{No, Yes, Overflow}
use Rattle.definition.specs.declared.endings.Ending.{Ending}
use Rattle.definition.specs.declared.endings.Ending.TheVariants as ending
use Rattle.definition.specs.declared.format.Header.{Header}
use Rattle.definition.specs.declared.replies.Refusal.{Refusal}
use Rattle.definition.specs.declared.replies.Refusal.TheVariants.{CacheConflict, CacheForm, CacheLength, DepthAboveTop, UnknownGoal, Unreachable, WorkLength}
use Rattle.std.specs.Prelude.{Ok, Err}
use Rattle.definition.specs.Answers.{combine, same_answer}
use Rattle.definition.specs.CacheForm.{cache_fits, cache_length, goals_fit, slots_fit}
use Rattle.definition.specs.Candidates.{can_ignore, enter_single_candidate, finish_single_candidate, finished_usages, ignore_on_top, no_candidate_usages, set_candidate_usages}
use Rattle.definition.specs.Endings.{ending_of, tidy_up}
use Rattle.definition.specs.Evaluate.{Evaluator, after_task, compute_goal, end_pick, eval_all, eval_any, eval_part, eval_pick, evaluate_at_depth, evaluate_goal, evaluate_goal_with, insert_global_cache, insert_in_slot, insert_result, merge_unless, new_frame}
use Rattle.definition.specs.GlobalCache.{CacheData, cache_get, conflicts, slot_at, slot_bytes, slot_for, slot_size, slots_per_goal, write_slot}
use Rattle.definition.specs.Graph.{Done, Entry, EvaluationResult, Graph, Outcome, Stopped, and_then, unless_found, with_global_cache, with_stack}
use Rattle.definition.specs.Heads.{CycleHeads, heads_empty, no_heads}
use Rattle.definition.specs.Lookup.{allowed_depth_for_nested, candidate_is_applicable, check_cycle_on_stack, close_cycle, cycle_head, first_match, lookup_global_cache, lookup_provisional_cache, use_cache_data, use_entry}
use Rattle.definition.specs.Parent.{CycleOnStack, Ordinary, ProvisionalCacheHit, UpdateParentGoalCtxt, handle_overflow, update_parent_goal}
use Rattle.definition.specs.Part.{All, Any, Book, Call, End, Node, Part, Parts, Pick, Then, UndecidedLine, part_at}
use Rattle.definition.specs.Query.{Reply, checks, evaluate_root, first_failed, new_graph, query, query_book, reply_of, untouched, work_length, zeros}
use Rattle.definition.specs.Reader.{Accepted, BookRead, Rejected, read_book}
use Rattle.definition.specs.Stack.{Frame, OnStack, Stack, stack_find}
use Rattle.definition.specs.Task.{Evaluated, TaskOutcome, TaskStopped, after_pop, end_iteration, evaluate_goal_in_task, iteration, no_turn}
use Rattle.soundness.specs.Passes.{Alike, PassesUnread, RepliesAlike}
use Rattle.soundness.specs.Statement.{reply_to}
use Rattle.soundness.proofs.Calls.{AllCalls, BookOk, Calls, steps_of}
use Rattle.soundness.proofs.Logic.{of_true}
use Rattle.soundness.proofs.Queries.{Passed, fits_at, passed}
use Rattle.soundness.proofs.Reading.{any_read}
use Rattle.soundness.proofs.Slots.{slot_bound}
use Rattle.soundness.proofs.Update.{length_after}
use Rattle.soundness.proofs.Alike.{Beside, FoundSame, Same, Sized, TaskSame, Twin, conflicts_alike, get_alike, write_beside}

-- ---- what is done to the top frame
update_sized : (n : ℕ) (s : Stack) (step : PathKind) (hs : CycleHeads) (overflow : Bool)
    (ctxt : UpdateParentGoalCtxt) (reached : ℕ)
    → Sized n s → Sized n (update_parent_goal s step hs overflow ctxt reached)
update_sized n [] step hs overflow ctxt reached v = v
update_sized n (f ∷ fs) step hs overflow ctxt reached v =
    (length_after ctxt step f.input f.nested_goals ∙ v.0, v.1)

overflow_sized : (n : ℕ) (s : Stack) → Sized n s → Sized n (handle_overflow s)
overflow_sized n [] v = v
overflow_sized n (f ∷ fs) v = (length-set f.nested_goals f.input _ ∙ v.0, v.1)

candidate_sized : (n : ℕ) (us : Option (List HeadUsages)) (s : Stack) → Sized n s → Sized n (set_candidate_usages us s)
candidate_sized n us [] v = v
candidate_sized n us (f ∷ fs) v = v

ignore_sized : (n : ℕ) (us : List HeadUsages) (s : Stack) → Sized n s → Sized n (ignore_on_top us s)
ignore_sized n us [] v = v
ignore_sized n us (f ∷ fs) v = v

with_frames : (h : Header) (s s' : Stack) (c d : List ℕ) → Beside h s c d → Sized h.goals s' → Beside h s' c d
with_frames h s s' c d t v = record { alike = t.alike; size = t.size; forms = t.forms; frames = v }

-- ---- cases
module _ (h : Header) where
  either : (t : Bool) (x y x' y' : Outcome) → Same h x x' → Same h y y'
      → Same h (elim t [ true ↦ x | false ↦ y ]) (elim t [ true ↦ x' | false ↦ y' ])
  either true x y x' y' v w = v
  either false x y x' y' v w = w

  then_same : (o o' : Outcome) (next : Graph → Answer → Outcome) → Same h o o'
      → ((g : Graph) (d : List ℕ) (a : Answer) → Twin h g d → Same h (next g a) (next (with_global_cache g d) a))
      → Same h (and_then o next) (and_then o' next)
  then_same (Done g a) (Done g' a') next (e, z, t) k =
      subst₂ (λ (x : Graph) (y : Answer). Same h (next g a) (next x y)) z e (k g g'.global_cache a t)
  then_same (Done g a) (Stopped r) next v k = absurd v
  then_same (Stopped r) (Done g a) next v k = absurd v
  then_same (Stopped r) (Stopped r') next v k = v

  unless_same : (o o' : Option Outcome) (x x' : Outcome) → FoundSame h o o' → Same h x x'
      → Same h (unless_found o x) (unless_found o' x')
  unless_same none none x x' v k = k
  unless_same none (some o) x x' v k = absurd v
  unless_same (some o) none x x' v k = absurd v
  unless_same (some o) (some o') x x' v k = v

-- ---- compute_goal
abbrev KeepsSame : Header → Evaluator → Type 0
KeepsSame h evaluate =
    (g : Graph) (d : List ℕ) → Twin h g d → (goal : ℕ) (step : PathKind) (lower : Bool) → goal < h.goals
    → Same h (evaluate g goal step lower) (evaluate (with_global_cache g d) goal step lower)

abbrev Inside : Header → ℕ → PathKind → Type 0
Inside h goal kind = goal < h.goals

module _ (h : Header) (evaluate : Evaluator) (keeps : KeepsSame h evaluate) where
  abbrev goals : ℕ
  goals = h.goals

  end_same : (met : Bool) (combined : Answer) (others : List HeadUsages) (g : Graph) (d : List ℕ) → Twin h g d
      → Same h (end_pick met combined others g) (end_pick met combined others (with_global_cache g d))
  end_same false combined others g d t = (refl, refl, t)
  end_same true combined others g d t =
      either h (can_ignore others g.stack) _ _ _ _
      (refl, refl, with_frames h g.stack _ _ d t (ignore_sized goals others g.stack t.frames)) refl

  candidate_same : (us : Option (List HeadUsages)) (g : Graph) (d : List ℕ) → Twin h g d
      → Twin h (with_stack g (set_candidate_usages us g.stack)) d
  candidate_same us g d t = with_frames h g.stack _ _ d t (candidate_sized goals us g.stack t.frames)

  mutual
    part_same : (p : Part) → Calls (Inside h) p → (g : Graph) (d : List ℕ) → Twin h g d
        → Same h (eval_part evaluate goals p g) (eval_part evaluate goals p (with_global_cache g d))
    part_same (Call goal kind lower) l g d t = keeps g d t goal kind lower l
    part_same (Node All ps) l g d t = all_same ps l Yes g d t
    part_same (Node Any ps) l g d t = any_same ps l No g d t
    part_same (Node Pick ps) l g d t = pick_same ps l false No (no_candidate_usages goals) g d t
    part_same UndecidedLine l g d t = (refl, refl, t)

    all_same : (ps : Parts) → AllCalls (Inside h) ps → (combined : Answer) (g : Graph) (d : List ℕ) → Twin h g d
        → Same h (eval_all evaluate goals ps combined g) (eval_all evaluate goals ps combined (with_global_cache g d))
    all_same End l combined g d t = (refl, refl, t)
    all_same (Then p ps) l combined g d t =
        then_same h (eval_part evaluate goals p g) (eval_part evaluate goals p (with_global_cache g d)) _
        (part_same p l.0 g d t)
        λ g1 d1 a t1.
        either h (same_answer a No) _ _ _ _ (refl, refl, t1) (all_same ps l.1 (combine combined a) g1 d1 t1)

    any_same : (ps : Parts) → AllCalls (Inside h) ps → (combined : Answer) (g : Graph) (d : List ℕ) → Twin h g d
        → Same h (eval_any evaluate goals ps combined g) (eval_any evaluate goals ps combined (with_global_cache g d))
    any_same End l combined g d t = (refl, refl, t)
    any_same (Then p ps) l combined g d t =
        then_same h (eval_part evaluate goals p g) (eval_part evaluate goals p (with_global_cache g d)) _
        (part_same p l.0 g d t)
        λ g1 d1 a t1.
        either h (same_answer a Yes) _ _ _ _ (refl, refl, t1) (any_same ps l.1 (combine combined a) g1 d1 t1)

    pick_same : (ps : Parts) → AllCalls (Inside h) ps → (met : Bool) (combined : Answer) (others : List HeadUsages)
        (g : Graph) (d : List ℕ) → Twin h g d
        → Same h (eval_pick evaluate goals ps met combined others g)
        (eval_pick evaluate goals ps met combined others (with_global_cache g d))
    pick_same End l met combined others g d t = end_same met combined others g d t
    pick_same (Then p ps) l met combined others g d t =
        then_same h (eval_part evaluate goals p (enter_single_candidate goals g))
        (eval_part evaluate goals p (enter_single_candidate goals (with_global_cache g d))) _
        (part_same p l.0 (enter_single_candidate goals g) d (candidate_same (some (no_candidate_usages goals)) g d t))
        λ g1 d1 a t1. pick_same ps l.1 (met || same_answer a Yes) (combine combined a)
        (merge_unless (not met && same_answer a Yes) others (finished_usages goals g1)) (finish_single_candidate g1) d1
        (candidate_same none g1 d1 t1)

-- ---- evaluate_goal_in_task
abbrev NextSame : Header → (Bool → Graph → TaskOutcome) → Type 0
NextSame h next =
    (overflow : Bool) (g : Graph) (d : List ℕ) → Twin h g d
    → TaskSame h (next overflow g) (next overflow (with_global_cache g d))

module _ (h : Header) (next : Bool → Graph → TaskOutcome) (keeps : NextSame h next) (pass : ℕ) where
  -- the frame f was popped
  after_pop_same : (overflow : Bool) (g : Graph) (d : List ℕ) (f : Frame) (a : Answer) (e : Ending) → Twin h g d
      → length f.nested_goals ≡ h.goals
      → TaskSame h (after_pop next pass overflow f a e (tidy_up e g f))
      (after_pop next pass overflow f a e (tidy_up e (with_global_cache g d) f))
  after_pop_same overflow g d f a ending.Nothing t n = (refl, n, refl, t)
  after_pop_same overflow g d f a (ending.Fixpoint fixpoint) t n = (refl, n, refl, t)
  after_pop_same overflow g d f a ending.NoUsages t n = (refl, n, refl, t)
  after_pop_same overflow g d f a (ending.Ambiguity kind) t n = (refl, n, refl, t)
  after_pop_same overflow g d f a ending.Overflow t n = (refl, n, refl, t)
  after_pop_same overflow g d f a ending.Rerun t n =
      keeps overflow _ d (with_frames h g.stack _ _ d t (n, t.frames))

  end_iteration_same : (left : ℕ) (overflow : Bool) (g : Graph) (d : List ℕ) (a : Answer) (s : Stack)
      → Beside h s g.global_cache d
      → TaskSame h (end_iteration left pass next overflow g a s)
      (end_iteration left pass next overflow (with_global_cache g d) a s)
  end_iteration_same left overflow g d a [] t = refl
  end_iteration_same left overflow g d a (f ∷ fs) t =
      after_pop_same _ (with_stack g fs) d f a (ending_of left f a)
      (with_frames h (f ∷ fs) fs _ d t t.frames.1) t.frames.0

  iteration_same : (left : ℕ) (overflow : Bool) (o o' : Outcome) → Same h o o'
      → TaskSame h (iteration left pass next overflow o) (iteration left pass next overflow o')
  iteration_same left overflow (Done g a) (Done g' a') (e, z, t) =
      subst₂ (λ (x : Graph) (y : Answer). TaskSame h (end_iteration left pass next overflow g a g.stack)
      (end_iteration left pass next overflow x y x.stack)) z e
      (end_iteration_same left overflow g g'.global_cache a g.stack t)
  iteration_same left overflow (Done g a) (Stopped r) v = absurd v
  iteration_same left overflow (Stopped r) (Done g a) v = absurd v
  iteration_same left overflow (Stopped r) (Stopped r') v = v

task_same : (h : Header) (compute : Graph → Outcome)
    → ((g : Graph) (d : List ℕ) → Twin h g d → Same h (compute g) (compute (with_global_cache g d)))
    → (left pass : ℕ) → NextSame h (evaluate_goal_in_task compute left pass)
task_same h compute keeps zero pass overflow g d t =
    iteration_same h no_turn (λ o g1 d1 t1. refl) pass
    zero overflow (compute g) (compute (with_global_cache g d)) (keeps g d t)
task_same h compute keeps (suc left) pass overflow g d t =
    iteration_same h (evaluate_goal_in_task compute left (suc pass)) (task_same h compute keeps left (suc pass)) pass
    (suc left) overflow (compute g) (compute (with_global_cache g d)) (keeps g d t)

-- ---- evaluate_goal
module _ (h : Header) (g : Graph) (d : List ℕ) (t : Twin h g d) (input : ℕ) (step : PathKind) (available : ℕ) where
  abbrev twin : Graph
  twin = with_global_cache g d

  updated : (hs : CycleHeads) (overflow : Bool) (ctxt : UpdateParentGoalCtxt) (reached : ℕ)
      → Twin h (with_stack g (update_parent_goal g.stack step hs overflow ctxt reached)) d
  updated hs overflow ctxt reached =
      with_frames h g.stack _ _ d t
      (update_sized h.goals g.stack step hs overflow ctxt reached t.frames)

  entry_same : (e : Option Entry) → FoundSame h (use_entry g step available e) (use_entry twin step available e)
  entry_same none = tt
  entry_same (some e) = (refl, refl, updated e.heads e.encountered_overflow ProvisionalCacheHit available)

  entries_same : FoundSame h (lookup_provisional_cache h g input step available)
      (lookup_provisional_cache h twin input step available)
  entries_same = by h.provisional
    where
      looked : Graph → Bool → Option Outcome
      looked x p =
          elim p [
            | false ↦ none
            | true ↦ use_entry x step available (first_match x.stack input step x.provisional_cache)
          ]

      by : (p : Bool) → FoundSame h (looked g p) (looked twin p)
      by false = tt
      by true = entry_same (first_match g.stack input step g.provisional_cache)

  data_same : (x : Option CacheData)
      → FoundSame h (use_cache_data h g step available x) (use_cache_data h twin step available x)
  data_same none = tt
  data_same (some x) =
      let v = updated (no_heads h.goals) x.encountered_overflow (Ordinary x.nested_goals)
      (available - x.required_depth) in
      (refl, refl, v)

  slot_same : FoundSame h (lookup_global_cache h g input step available) (lookup_global_cache h twin input step available)
  slot_same =
      subst (λ (x : Option CacheData). FoundSame h (lookup_global_cache h g input step available)
      (use_cache_data h twin step available x))
      (get_alike h g.global_cache d t.alike input available (candidate_is_applicable g step))
      (data_same (cache_get h g.global_cache input available (candidate_is_applicable g step)))

  cycle_same : FoundSame h (check_cycle_on_stack h g input step available) (check_cycle_on_stack h twin input step available)
  cycle_same = by (stack_find g.stack input)
    where
      closed : Graph → Option OnStack → Option Outcome
      closed x found = elim found [ none ↦ none | some head ↦ some (close_cycle h x input step available head) ]

      by : (found : Option OnStack) → FoundSame h (closed g found) (closed twin found)
      by none = tt
      by (some head) =
          let v = updated (cycle_head h.goals g.stack step head.index) false (CycleOnStack input) available in
          (refl, refl, v)

  -- the result is kept
  module _ (inside : input < h.goals) (r : EvaluationResult) (nested : length r.nested_goals ≡ h.goals) where
    in_slot : r.required_depth ≤ h.top → Same h (insert_in_slot h g input r) (insert_in_slot h twin input r)
    in_slot l =
        subst (λ (x : Bool). Same h (insert_in_slot h g input r) (inserted twin x))
        (conflicts_alike h g.global_cache d t.alike input (slot_for r) r.result)
        (by (conflicts (slot_at h g.global_cache input (slot_for r)) r.result))
      where
        kept : Graph → Bool → Option (List ℕ)
        kept x c = elim c [ true ↦ none | false ↦ some (write_slot h x.global_cache input (slot_for r) (slot_bytes r)) ]

        inserted : Graph → Bool → Outcome
        inserted x c =
            elim (kept x c) [ none ↦ Stopped CacheConflict | some cache ↦ Done (with_global_cache x cache) r.result ]

        by : (c : Bool) → Same h (inserted g c) (inserted twin c)
        by true = refl
        by false =
            let m : slot_for r < slots_per_goal h = slot_bound h r l r.encountered_overflow in
            let long : length (slot_bytes r) ≡ slot_size h = omega (arith, nested) in
            (refl, refl, write_beside h input (slot_for r) inside m (slot_bytes r) long g.stack g.global_cache d t)

    in_cache : Same h (insert_global_cache h g input r) (insert_global_cache h twin input r)
    in_cache = by (leb r.required_depth h.top) refl
      where
        by : (x : Bool) → leb r.required_depth h.top ≡ x
            → Same h (elim x [ true ↦ insert_in_slot h g input r | false ↦ Stopped Unreachable ])
            (elim x [ true ↦ insert_in_slot h twin input r | false ↦ Stopped Unreachable ])
        by true e = in_slot (leb→le r.required_depth h.top (of_true _ e))
        by false e = refl

    result_same : Same h (insert_result h g input step r) (insert_result h twin input step r)
    result_same =
        either h (heads_empty r.heads) _ _ _ _ in_cache
        (either h h.provisional _ _ _ _
        (either h (leb (2 * h.goals) (length g.provisional_cache)) _ _ _ _ refl (refl, refl, t))
        (refl, refl, t))

after_same : (h : Header) (input : ℕ) (step : PathKind) (available : ℕ) → input < h.goals → (o o' : TaskOutcome)
    → TaskSame h o o' → Same h (after_task h input step available o) (after_task h input step available o')
after_same h input step available l (Evaluated g r) (Evaluated g' r') (e, n, z, t) =
    subst₂ (λ (x : Graph) (y : EvaluationResult). Same h (after_task h input step available (Evaluated g r))
    (after_task h input step available (Evaluated x y))) z e
    (result_same h _ g'.global_cache
    (updated h g g'.global_cache t input step available
    r.heads r.encountered_overflow (Ordinary r.nested_goals) (available - r.required_depth))
    input step available l r n)
after_same h input step available l (Evaluated g r) (TaskStopped q) v = absurd v
after_same h input step available l (TaskStopped q) (Evaluated g r) v = absurd v
after_same h input step available l (TaskStopped q) (TaskStopped q') v = v

module _ (h : Header) (compute : ℕ → Graph → Outcome)
    (keeps : (input : ℕ) (g : Graph) (d : List ℕ) → Twin h g d
    → Same h (compute input g) (compute input (with_global_cache g d))) where
  at_depth_same : (g : Graph) (d : List ℕ) → Twin h g d → (input : ℕ) (step : PathKind) (available : ℕ)
      → input < h.goals
      → Same h (evaluate_at_depth h compute g input step available)
      (evaluate_at_depth h compute (with_global_cache g d) input step available)
  at_depth_same g d t input step available l =
      unless_same h (lookup_provisional_cache h g input step available)
      (lookup_provisional_cache h (with_global_cache g d) input step available) _ _
      (entries_same h g d t input step available)
      (unless_same h (lookup_global_cache h g input step available)
      (lookup_global_cache h (with_global_cache g d) input step available) _ _
      (slot_same h g d t input step available)
      (unless_same h (check_cycle_on_stack h g input step available)
      (check_cycle_on_stack h (with_global_cache g d) input step available) _ _
      (cycle_same h g d t input step available)
      (after_same h input step available l (task pushed) (task (with_global_cache pushed d))
      (task_same h (compute input) (keeps input) (pred h.limit) 1 false pushed d
      (with_frames h g.stack _ _ d t (length-replicate h.goals 0, t.frames))))))
    where
      pushed : Graph
      pushed = with_stack g (new_frame h.goals input step available g.stack ∷ g.stack)

      task : Graph → TaskOutcome
      task = evaluate_goal_in_task (compute input) (pred h.limit) 1 false

  with_same : KeepsSame h (evaluate_goal_with h compute)
  with_same g d t input step lower l = by (allowed_depth_for_nested h g.root_depth g.stack lower)
    where
      evaluated : Graph → Option ℕ → Outcome
      evaluated x o =
          elim o [
            | none ↦ Done (with_stack x (handle_overflow x.stack)) Overflow
            | some available ↦ evaluate_at_depth h compute x input step available
          ]

      by : (o : Option ℕ) → Same h (evaluated g o) (evaluated (with_global_cache g d) o)
      by none = (refl, refl, with_frames h g.stack _ _ d t (overflow_sized h.goals g.stack t.frames))
      by (some available) = at_depth_same g d t input step available l

module _ (b : Book) (ok : BookOk b) where
  compute_same : (evaluate : Evaluator) → KeepsSame b.header evaluate → (input : ℕ) (g : Graph) (d : List ℕ)
      → Twin b.header g d
      → Same b.header (compute_goal evaluate b input g) (compute_goal evaluate b input (with_global_cache g d))
  compute_same evaluate keeps input g d t = by (part_at b.parts input) refl
    where
      computed : Graph → Option Part → Outcome
      computed x p = elim p [ none ↦ Stopped Unreachable | some q ↦ eval_part evaluate b.header.goals q x ]

      by : (p : Option Part) → part_at b.parts input ≡ p
          → Same b.header (computed g p) (computed (with_global_cache g d) p)
      by none e = refl
      by (some q) e =
          part_same b.header evaluate keeps q (steps_of (Inside b.header) b input q e (ok.inside input)) g d t

  evaluate_same : (off : ℕ) → KeepsSame b.header (evaluate_goal b off)
  evaluate_same zero = with_same b.header (λ input g. Stopped Unreachable) (λ input g d t. refl)
  evaluate_same (suc off) =
      with_same b.header (compute_goal (evaluate_goal b off) b)
      (compute_same (evaluate_goal b off) (evaluate_same off))

-- ---- caches are in form alike where their slots are
slots_alike : (h : Header) (s : Stack) (c d : List ℕ) → Beside h s c d → (goal : ℕ) → goal < h.goals → (k : ℕ)
    → k ≤ slots_per_goal h → slots_fit h c goal k ≡ slots_fit h d goal k
slots_alike h s c d t goal l zero m = refl
slots_alike h s c d t goal l (suc k) m =
    λ i. t.forms goal k l (omega arith) i && slots_alike h s c d t goal l k (omega arith) i

goals_alike : (h : Header) (s : Stack) (c d : List ℕ) → Beside h s c d → (n : ℕ) → n ≤ h.goals
    → goals_fit h c n ≡ goals_fit h d n
goals_alike h s c d t zero l = refl
goals_alike h s c d t (suc n) l =
    λ i. slots_alike h s c d t n (omega arith) (slots_per_goal h) (omega arith) i
    && goals_alike h s c d t n (omega arith) i

both_true : (x y : Bool) → T x → T y → x ≡ y
both_true true true p q = refl
both_true true false p q = absurd q
both_true false y p q = absurd p

-- ---- the query
module _ (b : Book) (ok : BookOk b) (c d work : List ℕ) (goal depth : ℕ) (v : Alike b.header c d)
    (form : cache_fits b.header c ≡ cache_fits b.header d) where
  abbrev h : Header
  h = b.header

  zeros_alike : zeros c ≡ zeros d
  zeros_alike = ap (λ (n : ℕ). replicate n 0) v.size

  outcome_alike : (o o' : Outcome) → Same h o o' → RepliesAlike h (reply_of c work o) (reply_of d work o')
  outcome_alike (Done g a) (Done g' a') (e, z, t) =
      record {
        response = ap Ok e;
        work = refl;
        cache = t.alike;
        form = goals_alike h g.stack g.global_cache g'.global_cache t h.goals (omega arith);
      }
  outcome_alike (Done g a) (Stopped r) w = absurd w
  outcome_alike (Stopped r) (Done g a) w = absurd w
  outcome_alike (Stopped r) (Stopped r') w =
      record {
        response = ap Err w;
        work = refl;
        cache =
            record {
              size = ap length zeros_alike;
              bytes = λ n q l other. ap (λ (x : List ℕ). get_or x (n * slot_size h + q) 0) zeros_alike;
            };
        form = ap (cache_fits h) zeros_alike;
      }

  checks_alike : first_failed (checks b c work goal depth) ≡ first_failed (checks b d work goal depth)
  checks_alike =
      λ i. first_failed
      (record { passed = ltb goal h.goals; otherwise = UnknownGoal }
      ∷ record { passed = leb depth h.top; otherwise = DepthAboveTop }
      ∷ record { passed = eqb (v.size i) (cache_length h); otherwise = CacheLength }
      ∷ record { passed = form i; otherwise = CacheForm }
      ∷ record { passed = eqb (length work) (work_length h.goals); otherwise = WorkLength }
      ∷ [])

  root_twin : Passed h c goal depth → Twin h (new_graph depth c) d
  root_twin p =
      record {
        alike = v;
        size = p.order.size;
        forms = λ goal slot l m.
            both_true _ _ (fits_at h c p.form goal slot l m) (fits_at h d (subst T form p.form) goal slot l m);
        frames = tt;
      }

  checked_alike : (o : Option Refusal) → first_failed (checks b c work goal depth) ≡ o
      → RepliesAlike h (elim o [ some r ↦ untouched r c work | none ↦ reply_of c work (evaluate_root b c goal depth) ])
      (elim o [ some r ↦ untouched r d work | none ↦ reply_of d work (evaluate_root b d goal depth) ])
  checked_alike (some r) e = record { response = refl; work = refl; cache = v; form = form }
  checked_alike none e =
      let p : Passed h c goal depth = passed b c work goal depth e in
      outcome_alike (evaluate_root b c goal depth) (evaluate_root b d goal depth)
      (evaluate_same b ok h.goals (new_graph depth c) d (root_twin p) goal Inductive true p.inside)

  book_alike : RepliesAlike h (query_book b c work goal depth) (query_book b d work goal depth)
  book_alike =
      subst (λ (o : Option Refusal). RepliesAlike h (query_book b c work goal depth)
      (elim o [ some r ↦ untouched r d work | none ↦ reply_of d work (evaluate_root b d goal depth) ]))
      checks_alike (checked_alike (first_failed (checks b c work goal depth)) refl)

  query_alike : (bytes : List ℕ) → read_book bytes ≡ Accepted b
      → RepliesAlike h (query bytes c work goal depth) (query bytes d work goal depth)
  query_alike bytes e = subst (λ (o : BookRead). RepliesAlike h (asked o c) (asked o d)) (sym e) book_alike
    where
      asked : BookRead → List ℕ → Reply
      asked o cache = elim o [ Rejected r ↦ untouched r cache work | Accepted b' ↦ query_book b' cache work goal depth ]

pub unread : PassesUnread
unread bytes b e c d v form [] = tt
unread bytes b e c d v form (q ∷ qs) =
    let r : RepliesAlike b.header (reply_to bytes c q) (reply_to bytes d q) =
    query_alike b (any_read bytes b e) c d q.work q.goal q.depth v form bytes e in
    (r, unread bytes b e (reply_to bytes c q).cache (reply_to bytes d q).cache r.cache r.form qs)
