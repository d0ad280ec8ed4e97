-- The result goes to one of the caches.
use mathlib.Core.Path.{◌≡◌, refl, sym, ap, ◌∙◌, subst}
use mathlib.Core.Bool.{Bool, true, false}
use mathlib.Core.Option.{Option, none, some}
use mathlib.Core.List.{List}
use Prim.Native.Nat.{ℕ, ◌+◌, ◌*◌, ◌-◌, ◌≤◌, ◌<◌}
use native.Mathlib.Omega.{arith}
use borrow.Author.Tests.{le-leb, lt-leb}
use Rattle.std.specs.Prelude.{Result, Ok, Err, ⊤}
use Rattle.definition.specs.declared.paths.PathKind.{PathKind}
use Rattle.definition.specs.declared.answers.Answer.{Answer}
use Rattle.definition.specs.declared.format.Header.{Header}
use Rattle.definition.specs.declared.replies.Refusal.{Refusal}
use Rattle.definition.specs.declared.replies.Refusal.TheVariants.{ProvisionalCacheFull, CacheConflict, Unreachable}
use Rattle.definition.specs.Heads.{heads_empty}
use Rattle.definition.specs.Stack.{Frame, required_depth_of}
use Rattle.definition.specs.Graph.{Graph, EvaluationResult, with_global_cache, finalize}
use Rattle.definition.specs.Graph as graph
use Rattle.definition.specs.Parent.{update_parent_goal, Ordinary}
use Rattle.definition.specs.GlobalCache.{cache_insert}
use Rattle.definition.specs.Evaluate.{insert_in_slot, insert_global_cache, insert_provisional_cache, insert_result, after_task}
use Rattle.layout.specs.Frame.{frame_of}
use Rattle.layout.specs.Work.{stack_of, graph_of}
use Rattle.stack.specs.Bytes.{frame_at}
use Rattle.global_cache.specs.declared.Conflict.{Conflict}
use Rattle.global_cache.specs.Cache.{header_with, evaluated, inserted}
use Rattle.global_cache.proofs.Headers.{insert_with}
use Rattle.provisional_cache.specs.declared.Full.{Full}
use Rattle.provisional_cache.specs.Inserts.{Inserted}
use Rattle.provisional_cache.proofs.Outcomes.{insert_stops, insert_goes, kept_under, full_past}
use Rattle.evaluation.specs.declared.Ran.{Ran}
use Rattle.evaluation.specs.Outcomes.{TaskOutcome, done, outcome_of, ran_of, task_outcome_of}
use Rattle.task.specs.Results.{ParentUpdated}

module _ (h : Header) (root height n goal : ℕ) (overflow : Bool) (answer : Answer) (passes : ℕ) (bs cache : List ℕ) where
  -- the popped frame, the result and the graph
  abbrev f : Frame
  f = frame_at h.goals height bs

  abbrev result : EvaluationResult
  result = finalize f overflow answer passes

  abbrev g : Graph
  g = graph_of h.goals root height n bs cache

  -- ---- `in_global_cache`
  abbrev at_depth : Bool → graph.Outcome
  at_depth t = elim t [ true ↦ insert_in_slot h g goal result | false ↦ graph.Stopped Unreachable ]

  abbrev made : Option (List ℕ) → graph.Outcome
  made o = elim o [ none ↦ graph.Stopped CacheConflict | some c ↦ graph.Done (with_global_cache g c) answer ]

  module _ (d : ℕ) (is-d : d ≡ required_depth_of f) where
    pub global_past : h.top < d → outcome_of h.goals root height bs cache (Err Unreachable) ≡ insert_global_cache h g goal result
    unfolding outcome_of
    global_past lt = sym (ap at_depth (lt-leb (required_depth_of f) h.top (subst (λ (x : ℕ). h.top < x) is-d lt)))

    module _ (few : d ≤ h.top) (nested : List ℕ) (is-nested : nested ≡ f.nested_goals) (i : Result ⊤ Conflict) (new : List ℕ)
        (e : cache_insert (header_with h.goals h.top) cache goal (evaluated overflow d nested answer passes) ≡ inserted i new) where
      slotted : made (inserted i new) ≡ insert_global_cache h g goal result
      slotted =
          ap made (sym e ∙ (λ t. cache_insert (header_with h.goals h.top) cache goal (evaluated overflow (is-d t) (is-nested t) answer passes)) ∙ insert_with h cache goal result)
          ∙ sym (ap at_depth (le-leb (required_depth_of f) h.top (subst (λ (x : ℕ). x ≤ h.top) is-d few)))

      pub global_kept : i ≡ Ok tt → outcome_of h.goals root height bs new (done answer n) ≡ insert_global_cache h g goal result
      unfolding outcome_of
      global_kept is = sym (ap (λ (x : Result ⊤ Conflict). made (inserted x new)) is) ∙ slotted

      pub global_conflict : (conflict : Conflict) → i ≡ Err conflict → outcome_of h.goals root height bs new (Err CacheConflict) ≡ insert_global_cache h g goal result
      unfolding outcome_of
      global_conflict conflict is = sym (ap (λ (x : Result ⊤ Conflict). made (inserted x new)) is) ∙ slotted

  -- ---- `in_provisional_cache`
  module _ (step : PathKind) (new : List ℕ) (i : Result ⊤ Full) (w : Inserted h.goals height n goal step overflow answer bs new i) where
    pub provisional_kept : height < h.goals → i ≡ Ok tt → outcome_of h.goals root height new cache (done answer (n + 1)) ≡ insert_provisional_cache h g goal step result
    unfolding outcome_of
    provisional_kept lt is =
        sym (insert_goes h root height n goal step overflow answer bs new cache i w result refl refl refl (omega arith) (kept_under h.goals height n goal step overflow answer bs new i w is))

    pub provisional_full : (full : Full) → i ≡ Err full → outcome_of h.goals root height new cache (Err ProvisionalCacheFull) ≡ insert_provisional_cache h g goal step result
    unfolding outcome_of
    provisional_full full is =
        sym (insert_stops h root height n goal step overflow answer bs new cache i w result refl refl refl (full_past h.goals height n goal step overflow answer bs new i w full is))

  -- ---- `result`
  module _ (step : PathKind) (b : Bool) (e : b ≡ heads_empty f.heads) where
    abbrev kept : Bool → graph.Outcome
    kept t = elim t [ true ↦ insert_provisional_cache h g goal step result | false ↦ graph.Done g answer ]

    abbrev into : Bool → graph.Outcome
    into s = elim s [ true ↦ insert_global_cache h g goal result | false ↦ kept h.provisional ]

    pub result_global : b ≡ true → (o : graph.Outcome) → o ≡ insert_global_cache h g goal result → o ≡ insert_result h g goal step result
    result_global taken o is = is ∙ sym (ap into (sym e ∙ taken))

    pub result_provisional : b ≡ false → h.provisional ≡ true → (o : graph.Outcome) → o ≡ insert_provisional_cache h g goal step result → o ≡ insert_result h g goal step result
    result_provisional left on o is = is ∙ sym (ap kept on) ∙ sym (ap into (sym e ∙ left))

    pub result_alone : b ≡ false → h.provisional ≡ false → outcome_of h.goals root height bs cache (done answer n) ≡ insert_result h g goal step result
    unfolding outcome_of
    result_alone left off = sym (ap kept off) ∙ sym (ap into (sym e ∙ left))

-- how many entries there are
pub provisional_few : (goals height n goal : ℕ) (step : PathKind) (overflow : Bool) (answer : Answer) (bs new : List ℕ) (i : Result ⊤ Full)
    → Inserted goals height n goal step overflow answer bs new i → i ≡ Ok tt → n + 1 ≤ 2 * goals
provisional_few goals height n goal step overflow answer bs new i w is = let under = kept_under goals height n goal step overflow answer bs new i w is in omega arith

-- ---- `finish`
pub finish_refused : (h : Header) (root height goal available : ℕ) (step : PathKind) (o : TaskOutcome) (bs cache : List ℕ)
    → (x : Refusal) → o ≡ Err x
    → outcome_of h.goals root height bs cache (Err x)
    ≡ after_task h goal step available (task_outcome_of h.goals root height bs cache o)
unfolding outcome_of
finish_refused h root height goal available step o bs cache x was =
    ap (λ (y : TaskOutcome). after_task h goal step available (task_outcome_of h.goals root height bs cache y)) (sym was)

pub finish_evaluated : (h : Header) (root height goal available : ℕ) (step : PathKind) (ran : Ran) (bs cache : List ℕ)
    → (o : TaskOutcome) → o ≡ Ok ran
    → (d reached : ℕ) → d ≡ required_depth_of (frame_at h.goals height bs) → reached ≡ available - d
    → (mid : List ℕ) → ParentUpdated h.goals height step ran.evaluated.overflow reached bs mid
    → insert_result h (graph_of h.goals root height ran.evaluated.entries mid cache) goal step
    (finalize (frame_at h.goals height mid) ran.evaluated.overflow ran.evaluated.answer ran.passes)
    ≡ after_task h goal step available (task_outcome_of h.goals root height bs cache o)
unfolding ran_of
finish_evaluated h root height goal available step ran bs cache o was d reached is-d is-reached mid updated =
    let x = ran.evaluated in
    let f : Frame = frame_at h.goals height bs in
    let e : reached ≡ available - required_depth_of f = is-reached ∙ ap (λ (y : ℕ). available - y) is-d in
    let s = updated.stack
    ∙ ap (update_parent_goal (stack_of h.goals height bs) step f.heads x.overflow (Ordinary f.nested_goals)) e in
    let es = updated.entries x.entries in
    let fs : frame_at h.goals height mid ≡ f = ap (frame_of h.goals) updated.above in
    (λ t. insert_result h (record { root_depth = root; stack = s t; provisional_cache = es t; global_cache = cache }) goal
    step (finalize (fs t) x.overflow x.answer ran.passes))
    ∙ ap (λ (y : TaskOutcome). after_task h goal step available (task_outcome_of h.goals root height bs cache y)) (sym was)
