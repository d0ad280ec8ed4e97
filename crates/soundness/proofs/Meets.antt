-- Every state that an evaluation meets is in order.
use mathlib.Core.Bool.{Bool, false, true}
use mathlib.Core.List.{List, [], ◌++◌, ◌∷◌}
use mathlib.Core.Option.{Option, none, some}
use mathlib.Core.Path.{◌≡◌, ap, refl}
use Prim.Native.Nat.{◌+◌, ◌<◌, ◌≤◌, pred, suc, zero, ℕ}
use native.Mathlib.Omega.{arith}
use lib.ListN.{length}
use Rattle.definition.specs.Answers.{same_answer}
use Rattle.definition.specs.CacheForm.{most_passes}
use Rattle.definition.specs.Candidates.{enter_single_candidate, finish_single_candidate}
use Rattle.definition.specs.Evaluate.{Evaluator, compute_goal, eval_part, evaluate_goal, evaluate_goal_with, new_frame}
use Rattle.definition.specs.Graph.{Done, EvaluationResult, Graph, Outcome, Stopped, with_stack}
use Rattle.definition.specs.Heads.{heads_empty}
use Rattle.definition.specs.Lookup.{allowed_depth_for_nested, close_cycle, lookup_global_cache, lookup_provisional_cache}
use Rattle.definition.specs.Part.{All, Any, Call, End, Node, Part, Parts, Pick, Then, UndecidedLine, part_at}
use Rattle.definition.specs.Stack.{Frame, OnStack, stack_find}
use Rattle.definition.specs.Task.{Evaluated, TaskOutcome, TaskStopped, evaluate_goal_in_task}
use Rattle.definition.specs.declared.answers.Answer.{Answer}
use Rattle.definition.specs.declared.answers.Answer.TheVariants.{No, Yes}
use Rattle.definition.specs.declared.format.Header.{Header}
use Rattle.definition.specs.declared.paths.PathKind.{PathKind}
use Rattle.definition.specs.declared.replies.Refusal.TheVariants.{Unreachable}
use Rattle.soundness.specs.Always.{Apart, Counted, EventInOrder, InOrder, goals_of}
use Rattle.soundness.specs.Trace.{Answers, InsertsEntry, InsertsInSlot, Trace, Tracer, after, met, trace_after_task, trace_at_depth, trace_compute, trace_goal, trace_goal_with, trace_new_frame, trace_part, trace_pick, trace_task, trace_until, unless_met}
use Rattle.definition.proofs.Passes.{RanWithin}
use Rattle.soundness.proofs.Traces.{only_append}
use Rattle.soundness.proofs.Calls.{AllCalls, Calls}
use Rattle.soundness.proofs.World.{World}
use Rattle.soundness.proofs.Counters.{Reads}
use Rattle.soundness.proofs.Assumed.{Base, base_of, length_bases}
use Rattle.soundness.proofs.Inv.{After, BasesOk, CalledBy, State, in_order}
use Rattle.soundness.proofs.Candidates.{enter_change, finish_change}
use Rattle.soundness.proofs.Parts.{Callable, Claims, EvalOk, RightAt, part_ok}
use Rattle.soundness.proofs.Runs.{ComputesGoal, Ordered, TaskAfter, TracesGoal, task_meets}
use Rattle.soundness.proofs.Lookups.{FindPost, depth_ok, find_at}
use Rattle.soundness.proofs.Evaluate.{callable, compute_ok, evaluate_ok, frame_ok, new_bases, none_left, pushed, runs_counted, top_goal, updated, with_ok}

-- what `traceGoal` promises
abbrev pub TraceOk : World → List Base → Tracer → Type 0
TraceOk W xs trace =
    (g : Graph) (goal : ℕ) (step : PathKind) (lower : Bool) → State W xs g → goal < W.book.header.goals
    → CalledBy W xs goal step
    → Ordered W (trace g goal step lower)

module _ (W : World) (xs : List Base) where
  joined : (s t : Trace) → Ordered W s → Ordered W t → Ordered W (s ++ t)
  joined = only_append (EventInOrder W.book.header)

  after_meets : (P : Reads → Answer → Type 0) (g : Graph) (o : Outcome) (more : Graph → Answer → Trace)
      → After W xs g P o
      → ((g1 : Graph) (a : Answer) → State W xs g1 → Ordered W (more g1 a)) → Ordered W (after o more)
  after_meets P g (Done g1 a) more (d, s, p) k = k g1 a s.inv
  after_meets P g (Stopped r) more t k = tt

  unless_stop : (t : Bool) (s : Trace) → Ordered W s → Ordered W (elim t [ true ↦ [] | false ↦ s ])
  unless_stop true s v = tt
  unless_stop false s v = v

  unless_found_lem : (o : Option Outcome) (t : Trace) → Ordered W t → Ordered W (unless_met o t)
  unless_found_lem (some o) t v = tt
  unless_found_lem none t v = v

  -- ---- compute_goal
  module _ (evaluate : Evaluator) (ok : EvalOk W xs evaluate) (trace : Tracer) (meets : TraceOk W xs trace) where
    abbrev G : ℕ
    G = W.book.header.goals

    mutual
      part_meets : (p : Part) → Calls (Callable W xs) p → (g : Graph) → State W xs g
          → Ordered W (trace_part evaluate trace G p g)
      part_meets (Call goal kind lower) c g v = meets g goal kind lower v c.0 c.1
      part_meets (Node All ps) c g v = until_meets No ps c g v
      part_meets (Node Any ps) c g v = until_meets Yes ps c g v
      part_meets (Node Pick ps) c g v = pick_meets ps c g v
      part_meets UndecidedLine c g v = tt

      until_meets : (stop : Answer) (ps : Parts) → AllCalls (Callable W xs) ps → (g : Graph) → State W xs g
          → Ordered W (trace_until evaluate trace G stop ps g)
      until_meets stop End c g v = tt
      until_meets stop (Then p ps) c g v =
          joined (trace_part evaluate trace G p g) _ (part_meets p c.0 g v)
          (after_meets (RightAt W xs p) g (eval_part evaluate G p g) _ (part_ok W xs evaluate ok p c.0 g v) λ g1 a w.
          unless_stop (same_answer a stop) _ (until_meets stop ps c.1 g1 w))

      pick_meets : (ps : Parts) → AllCalls (Callable W xs) ps → (g : Graph) → State W xs g
          → Ordered W (trace_pick evaluate trace G ps g)
      pick_meets End c g v = tt
      pick_meets (Then p ps) c g v =
          let w : State W xs (enter_single_candidate G g) = (enter_change W xs g v).inv in
          joined (trace_part evaluate trace G p (enter_single_candidate G g)) _
          (part_meets p c.0 (enter_single_candidate G g) w)
          (after_meets (RightAt W xs p) (enter_single_candidate G g) (eval_part evaluate G p (enter_single_candidate G g)) _
          (part_ok W xs evaluate ok p c.0 (enter_single_candidate G g) w) λ g1 a u.
          pick_meets ps c.1 (finish_single_candidate g1) (finish_change W xs g1 u).inv)

    own_meets : (g : Graph) → State W xs g → (o : Option Part) → ((p : Part) → o ≡ some p → Calls (Callable W xs) p)
        → Ordered W (elim o [ none ↦ [] | some p ↦ trace_part evaluate trace G p g ])
    own_meets g v none calls = tt
    own_meets g v (some p) calls = part_meets p (calls p refl) g v

compute_meets : (W : World) (xs : List Base) (evaluate : Evaluator)
    → ((x : Base) → BasesOk W (x ∷ xs) → EvalOk W (x ∷ xs) evaluate)
    → (trace : Tracer) → ((x : Base) → BasesOk W (x ∷ xs) → TraceOk W (x ∷ xs) trace)
    → TracesGoal W xs (trace_compute evaluate trace W.book)
compute_meets W xs evaluate ok trace meets x s g v = (
  (in_order W (x ∷ xs) s g v, top_goal W.book.header g.stack x xs v.here v.frames, tt),
  own_meets W (x ∷ xs) evaluate (ok x s) trace (meets x s) g v (part_at W.book.parts x.goal) (callable W x xs),
)

-- ---- evaluate_goal
module _ (W : World) (xs : List Base) (bases : BasesOk W xs) (g₀ : Graph) (v : State W xs g₀)
    (small : length g₀.stack ≤ W.book.header.goals)
    (goal : ℕ) (inside : goal < W.book.header.goals) (step : PathKind) (available : ℕ)
    (deep : available ≤ W.book.header.top)
    (call : CalledBy W xs goal step) where
  abbrev h : Header
  h = W.book.header

  inserts_meets : (g : Graph) (r : EvaluationResult) → InOrder h g → Counted h r.passes → (on empty : Bool)
      → Ordered W (elim empty [
        | true ↦ met g (InsertsInSlot goal r)
        | false ↦ elim on [ true ↦ met g (InsertsEntry goal r) | false ↦ [] ]
      ])
  inserts_meets g r w c on true = ((w, inside, c), tt)
  inserts_meets g r w c true false = ((w, inside, c), tt)
  inserts_meets g r w c false false = tt

  after_task_meets : (t : TaskOutcome) → TaskAfter W xs g₀.stack goal available t → RanWithin 1 (most_passes h) t
      → Ordered W (trace_after_task h goal step available t)
  after_task_meets (Evaluated g r) w c =
      inserts_meets _ r (in_order W xs bases _
      (updated W xs bases g₀ v small goal inside step available deep call g r w))
      (record { once = c.0; most = c.1 }) h.provisional (heads_empty r.heads)
  after_task_meets (TaskStopped r) w c = tt

  module _ (compute : ℕ → Graph → Outcome) (ok : ComputesGoal W xs compute) (trace : ℕ → Graph → Trace)
      (meets : TracesGoal W xs trace) where
    abbrev new : Frame
    new = new_frame h.goals goal step available g₀.stack

    frame_meets : Apart goal (goals_of g₀.stack) → Ordered W (trace_new_frame h compute trace g₀ goal step available)
    frame_meets apart =
        joined W xs (trace_task (compute goal) (trace goal) (pred h.limit) (with_stack g₀ (new ∷ g₀.stack))) _
        (task_meets W xs g₀.stack goal available v.here
        (omega (arith, length_bases g₀.stack, ap length v.here)) v.frames
        compute ok trace meets (pred h.limit) (base_of new) new (with_stack g₀ (new ∷ g₀.stack))
        refl refl (new_bases W xs bases g₀ v small goal inside step available deep call apart) refl
        (pushed W xs bases g₀ v small goal inside step available deep call))
        (after_task_meets (evaluate_goal_in_task (compute goal) (pred h.limit) 1 false (with_stack g₀ (new ∷ g₀.stack)))
        (frame_ok W xs bases g₀ v small goal inside step available deep call compute ok apart (pred h.limit))
        (runs_counted h (compute goal) (with_stack g₀ (new ∷ g₀.stack))))

    cycle_meets : (o : Option OnStack) → FindPost goal g₀.stack o
        → Ordered W (unless_met (elim o [ none ↦ none | some head ↦ some (close_cycle h g₀ goal step available head) ])
        (trace_new_frame h compute trace g₀ goal step available))
    cycle_meets none apart = frame_meets apart
    cycle_meets (some head) t = tt

    at_depth_meets : Ordered W (trace_at_depth h compute trace g₀ goal step available)
    at_depth_meets =
        unless_found_lem W xs (lookup_provisional_cache h g₀ goal step available) _
        (unless_found_lem W xs (lookup_global_cache h g₀ goal step available) _
        (cycle_meets (stack_find g₀.stack goal) (find_at goal g₀.stack)))

module _ (W : World) (xs : List Base) (bases : BasesOk W xs) (small : length xs ≤ W.book.header.goals)
    (compute : ℕ → Graph → Outcome)
    (ok : ComputesGoal W xs compute) (trace : ℕ → Graph → Trace) (meets : TracesGoal W xs trace) where
  from_depth_meets : (g : Graph) (v : State W xs g) (goal : ℕ) → goal < W.book.header.goals
      → (step : PathKind) (lower : Bool)
      → CalledBy W xs goal step → (t : Trace) → Ordered W t → (o : Option ℕ)
      → allowed_depth_for_nested W.book.header g.root_depth g.stack lower ≡ o
      → Ordered W (elim o [
        | none ↦ []
        | some available ↦ trace_at_depth W.book.header compute trace g goal step available
      ] ++ t)
  from_depth_meets g v goal l step lower call t w none e = w
  from_depth_meets g v goal l step lower call t w (some available) e =
      joined W xs (trace_at_depth W.book.header compute trace g goal step available) t
      (at_depth_meets W xs bases g v (omega (arith, length_bases g.stack, ap length v.here)) goal l step available
      (depth_ok W.book.header g.root_depth g.stack v.root v.frames lower available e)
      call compute ok trace meets)
      w

  with_meets : TraceOk W xs (trace_goal_with W.book.header compute trace)
  with_meets g goal step lower v l call = (
    (in_order W xs bases g v, l, tt),
    from_depth_meets g v goal l step lower call
        (after (evaluate_goal_with W.book.header compute g goal step lower) λ g1 a. met g1 (Answers goal))
        (after_meets W xs (Claims W xs goal) g (evaluate_goal_with W.book.header compute g goal step lower)
        (λ g1 a. met g1 (Answers goal))
        (with_ok W xs bases small compute ok g goal step lower v l call) λ g1 a w. ((in_order W xs bases g1 w, l, tt), tt))
        (allowed_depth_for_nested W.book.header g.root_depth g.stack lower) refl,
  )

pub evaluate_meets : (W : World) (off : ℕ) (xs : List Base) → BasesOk W xs → length xs + off ≡ W.book.header.goals
    → TraceOk W xs (trace_goal W.book off)
evaluate_meets W zero xs bases e =
    with_meets W xs bases (omega arith) (λ input g. Stopped Unreachable) (none_left W xs (omega arith))
    (λ input g. []) (λ x s g v. tt)
evaluate_meets W (suc off) xs bases e =
    with_meets W xs bases (omega arith) (compute_goal (evaluate_goal W.book off) W.book)
    (compute_ok W xs (evaluate_goal W.book off) (λ x s. evaluate_ok W off (x ∷ xs) s (omega arith)))
    (trace_compute (evaluate_goal W.book off) (trace_goal W.book off) W.book)
    (compute_meets W xs (evaluate_goal W.book off) (λ x s. evaluate_ok W off (x ∷ xs) s (omega arith))
    (trace_goal W.book off)
    (λ x s. evaluate_meets W off (x ∷ xs) s (omega arith)))
