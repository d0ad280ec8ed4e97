-- A pushed frame: its runs, until it is popped for good.
use mathlib.Core.Bool.{Bool}
use mathlib.Core.List.{List, ◌∷◌}
use mathlib.Core.Logic.{◌⊎◌, inl, inr}
use mathlib.Core.Option.{Option, some}
use mathlib.Core.Path.{◌∙◌, ◌≡◌, ap, refl, sym}
use Prim.Native.Nat.{◌*◌, ◌<◌, ◌≤◌, suc, zero, ℕ}
use native.Mathlib.Omega.{arith}
use lib.Dec.{T}
use lib.ListN.{length}
use Rattle.definition.specs.Answers.{is_ambiguous}
use Rattle.definition.specs.Endings.{ending_of, tidy_up}
use Rattle.definition.specs.Graph.{Done, EvaluationResult, Graph, Outcome, Stopped, finalize, with_stack}
use Rattle.definition.specs.Parent.{or_no_usages}
use Rattle.definition.specs.Stack.{Frame, Stack}
use Rattle.definition.specs.Task.{Evaluated, TaskOutcome, TaskStopped, after_pop, evaluate_goal_in_task, iteration, no_turn, push_rerun, rerun_frame}
use Rattle.definition.specs.Usages.{no_usages}
use Rattle.definition.specs.declared.answers.Answer.{Answer}
use Rattle.definition.specs.declared.answers.Answer.TheVariants.{Overflow}
use Rattle.definition.specs.declared.endings.Ending.{Ending}
use Rattle.definition.specs.declared.endings.Ending.TheVariants as ending
use Rattle.definition.specs.declared.paths.PathKind.{PathKind}
use Rattle.definition.specs.declared.usages.HeadUsages.{HeadUsages}
use Rattle.soundness.specs.Always.{EventInOrder, Every, Expected, FrameInOrder, FramesInOrder, HasHead, HeadsBelow, Known}
use Rattle.soundness.specs.Trace.{MeetsOnly, Trace, after, if_rerun, trace_next, trace_task}
use Rattle.definition.proofs.Reruns.{rerun_left}
use Rattle.soundness.proofs.Logic.{clash, nobody}
use Rattle.soundness.proofs.Traces.{only_append}
use Rattle.soundness.proofs.World.{World}
use Rattle.soundness.proofs.Counters.{Reads, counter, limit_positive}
use Rattle.soundness.proofs.Assumed.{A, Base, Within, base_of, bases_of, length_bases}
use Rattle.soundness.proofs.Inv.{After, BasesOk, CacheOk, EntryOk, Gain, Inv, State, Change, all_above, reads_of, top_gains, under_above}
use Rattle.soundness.proofs.Changes.{every_map}
use Rattle.soundness.proofs.Parts.{RightGoal}
use Rattle.soundness.proofs.Pop.{tidied_fewer, tidies_entries}
use Rattle.soundness.proofs.Settle.{Turn, Why, again, ends, first, kept_why, later, limit, mixed, no_head_lem, settled, turn, unread, why_not}
use Rattle.soundness.proofs.Rebase.{KeepsRight, Rest, entry_under, not_known, tidied_ok}

-- what is known when the frame on fs is popped for good
pub record Finished (W : World) (xs : List Base) (fs : Stack) (goal available : ℕ) (g : Graph) (r : EvaluationResult) : Type 0 where
  pub stack : g.stack ≡ fs
  pub claims : T (W.claim r.result (A W xs (reads_of r.heads)) goal)
  pub heads : length r.heads ≡ W.book.header.goals
  pub below : HeadsBelow (length fs) r.heads
  pub nested : length r.nested_goals ≡ W.book.header.goals
  pub required : r.required_depth ≤ available
  pub inv : Inv W xs (λ i. Known fs i ⊎ HasHead r.heads i) g

abbrev pub TaskAfter : World → List Base → Stack → ℕ → ℕ → TaskOutcome → Type 0
TaskAfter W xs fs goal available (Evaluated g r) = Finished W xs fs goal available g r
TaskAfter W xs fs goal available (TaskStopped r) = Expected r

-- what `computeGoal` promises, on the stack of xs
abbrev pub ComputesGoal : World → List Base → (ℕ → Graph → Outcome) → Type 0
ComputesGoal W xs compute =
    (x : Base) → BasesOk W (x ∷ xs) → (g : Graph) → State W (x ∷ xs) g
    → After W (x ∷ xs) g (RightGoal W (x ∷ xs) x.goal) (compute x.goal g)

-- every event of a trace is in order
abbrev pub Ordered : World → Trace → Type 0
Ordered W = MeetsOnly (EventInOrder W.book.header)

-- what `traceCompute` promises
abbrev pub TracesGoal : World → List Base → (ℕ → Graph → Trace) → Type 0
TracesGoal W xs trace =
    (x : Base) → BasesOk W (x ∷ xs) → (g : Graph) → State W (x ∷ xs) g → Ordered W (trace x.goal g)

module _ (W : World) (xs : List Base) (fs : Stack) (goal available : ℕ) (here : bases_of fs ≡ xs) (small : length xs ≤ W.book.header.goals)
    (framesOk : FramesInOrder W.book.header fs) where
  len : length fs ≡ length xs
  len = sym (length_bases fs) ∙ ap length here

  abbrev Task : TaskOutcome → Type 0
  Task = TaskAfter W xs fs goal available

  -- what is known when a run is over: f was popped, its answer is a, and a rests on reads that f has counted
  record Ran (x : Base) (f : Frame) (g : Graph) (a : Answer) : Type 0 where
    is_goal : x.goal ≡ goal
    is_depth : x.depth ≡ available
    bases : BasesOk W (x ∷ xs)
    same : base_of f ≡ x
    frame : FrameInOrder W.book.header (length fs) f
    root : g.root_depth ≤ W.book.header.top
    entries : Every (EntryOk W (x ∷ xs) (Known (f ∷ fs))) g.provisional_cache
    live : length g.provisional_cache ≤ 2 * W.book.header.goals
    cache : CacheOk W g.global_cache
    reads : Reads
    under : Within (length xs) reads (reads_of f.heads)
    top : (k : PathKind) → 0 < reads (length xs) k → 0 < counter (or_no_usages f.usages) k
    right : RightGoal W (x ∷ xs) x.goal reads a

  -- f ends for the reason w with the answer r, of which c is the claim
  module _ (x : Base) (f : Frame) (g : Graph) (a : Answer) (v : Ran x f g a) (o : Bool) (pass : ℕ) (end : Ending) (r : Answer)
      (w : Why x.provisional f.usages r end) (c : T (W.claim r (A W xs (reads_of f.heads)) x.goal)) where
    abbrev remains : Graph
    remains = tidy_up end (with_stack g fs) f

    keeps_right : KeepsRight W x xs f fs len end
    keeps_right u s k t = go (kept_why (W.start x.goal) w u s k t)
      where
        go : (r ≡ W.start x.goal) ⊎ T (is_ambiguous s)
            → T (W.claim (W.start x.goal) (A W xs (reads_of f.heads)) x.goal) ⊎ T (is_ambiguous s)
        go (inl z) = inl (rw z at c)
        go (inr m) = inr m

    entries_left : Every (EntryOk W xs (Rest W x xs f fs len)) remains.provisional_cache
    entries_left =
        tidied_ok W x xs f fs len end (λ z. not_known W x xs f fs len ((why_not w).1 z)) small keeps_right _ (λ i k. k)
        (λ z. absurd ((why_not w).0 z)) g v.entries

    finish : Finished W xs fs goal available remains (finalize f o r pass)
    finish =
        rw (tidies_entries end (with_stack g fs) f)
        (record {
          stack = refl;
          claims = rw v.is_goal at c;
          heads = v.frame.heads;
          below = v.frame.below;
          nested = v.frame.nested;
          required = omega (arith, v.is_depth, ap (λ (y : Base). y.depth) v.same);
          inv =
              record {
                here = here;
                root = v.root;
                frames = framesOk;
                entries = entries_left;
                live = omega (arith, v.live, tidied_fewer end (with_stack g fs) f);
                cache = v.cache;
              };
        })

  -- a run from g₀, whose stack has f₀ on fs, ends in g
  abbrev Popped : Base → Graph → Stack → Answer → Type 0
  Popped x g s a = (f : Frame) × (s ≡ f ∷ fs) × Ran x f g a

  popped_ran : (x : Base) (f₀ : Frame) {s : Stack} {d : Reads} (g : Graph) (a : Answer)
      → x.goal ≡ goal → x.depth ≡ available → BasesOk W (x ∷ xs) → Gain (f₀ ∷ fs) s d
      → Inv W (x ∷ xs) (Known s) g → bases_of s ≡ x ∷ xs → FramesInOrder W.book.header s
      → RightGoal W (x ∷ xs) x.goal d a → Popped x g s a
  popped_ran x f₀ g a i j v (top_gains {f' = f} {d = d} t) inv h fr r = (
    f,
    refl,
    record {
      is_goal = i;
      is_depth = j;
      bases = v;
      same = (cc);
      frame = fr.0;
      root = inv.root;
      entries = inv.entries;
      live = inv.live;
      cache = inv.cache;
      reads = d;
      under = λ m k l z. omega (arith, limit_positive, t.heads m k (omega (arith, len)));
      top = λ k z. omega (arith, limit_positive, t.usages k, ap (λ (n : ℕ). d n k) len);
      right = r;
    },
  )

  ran : (x : Base) (f₀ : Frame) (g₀ g : Graph) (a : Answer) (d : Reads)
      → x.goal ≡ goal → x.depth ≡ available → BasesOk W (x ∷ xs)
      → g₀.stack ≡ f₀ ∷ fs → Change W (x ∷ xs) g₀ g d → RightGoal W (x ∷ xs) x.goal d a → Popped x g g.stack a
  ran x f₀ g₀ g a d i j v st s r =
      popped_ran x f₀ g a i j v (rw st at s.gain) s.inv s.inv.here s.inv.frames r

  -- f is pushed again
  abbrev rerun_from : Graph → Frame → Answer → Graph
  rerun_from g f a = push_rerun (tidy_up ending.Rerun (with_stack g fs) f) f a

  -- the next turn of the loop
  abbrev NextOk : ℕ → (Bool → Graph → TaskOutcome) → Type 0
  NextOk left next =
      (o : Bool) (x : Base) (f : Frame) (g : Graph) (a : Answer) → Ran x f g a → ending_of left f a ≡ ending.Rerun
      → Task (next o (rerun_from g f a))

  module _ (left pass : ℕ) (next : Bool → Graph → TaskOutcome) (ok : NextOk left next) where
    ended : {p : Option Answer} {u : Option HeadUsages} {a : Answer} {end : Ending} → Why p u a end
        → (o : Bool) (f : Frame) (g : Graph) → after_pop next pass o f a end g ≡ Evaluated g (finalize f o a pass)
    ended (no_head_lem e) o f g = refl
    ended (later e) o f g = refl
    ended (first e s) o f g = refl
    ended (unread s) o f g = refl
    ended (mixed s) o f g = refl

    turn_ok : (x : Base) (f : Frame) (g : Graph) (a : Answer) (o : Bool) → Ran x f g a → {end : Ending}
        → ending_of left f a ≡ end → Turn x.provisional f.usages a end
        → Task (after_pop next pass o f a end (tidy_up end (with_stack g fs) f))
    turn_ok x f g a o v {end} e (ends w) =
        rw (ended w o f (tidy_up end (with_stack g fs) f))
        (finish x f g a v o pass end a w
        (settled W x xs v.reads (reads_of f.heads) f.usages a v.under v.top
        (under_above W x xs v.bases (reads_of f.heads)) v.right w))
    turn_ok x f g a o v e limit =
        finish x f g a v o pass (ending.Ambiguity Overflow) Overflow (mixed tt)
        (W.ambiguous Overflow tt (A W xs (reads_of f.heads)) x.goal)
    turn_ok x f g a o v e again = ok o x f g a v e

    run_ok : (x : Base) (f₀ : Frame) (g₀ : Graph) (o : Bool) → x.goal ≡ goal → x.depth ≡ available
        → BasesOk W (x ∷ xs) → g₀.stack ≡ f₀ ∷ fs
        → (out : Outcome) → After W (x ∷ xs) g₀ (RightGoal W (x ∷ xs) x.goal) out → Task (iteration left pass next o out)
    run_ok x f₀ g₀ o i j v st (Done g a) (d, s, r) =
        let (f, e, w) = ran x f₀ g₀ g a d i j v st s r in
        let z : f.provisional_result ≡ x.provisional = ap (λ (y : Base). y.provisional) w.same in
        rw e (turn_ok x f g a _ w refl (rw z at (turn left f.provisional_result f.usages a)))
    run_ok x f₀ g₀ o i j v st (Stopped r) t = t

  -- ---- the loop
  abbrev rerun_base : Base → Answer → Base
  rerun_base x a = record { goal = x.goal; step = x.step; depth = x.depth; provisional = some a }

  rerun_bases : (x : Base) (f : Frame) (g : Graph) (a : Answer) → Ran x f g a → BasesOk W (rerun_base x a ∷ xs)
  rerun_bases x f g a v = (
    record {
      result = λ b e n.
          let z : a ≡ b = cc in
          rw z at (W.free a x.goal (λ y. n (sym z ∙ y)) (A W (x ∷ xs) v.reads) nobody
          (W.pop a (A W (x ∷ xs) v.reads) x.goal (all_above W x xs v.bases v.reads) v.right));
      by_call = v.bases.0.by_call;
      apart = v.bases.0.apart;
    },
    v.bases.1,
  )

  rerun_known : (f : Frame) (a : Answer) (i : ℕ) → Known (f ∷ fs) i → Known (rerun_frame f a ∷ fs) i
  rerun_known f a i (inl (e, h)) = inl (e, (no_usages, refl))
  rerun_known f a i (inr l) = inr l

  rerun_frame_lem : {f : Frame} {a : Answer} → FrameInOrder W.book.header (length fs) f → FrameInOrder W.book.header (length fs) (rerun_frame f a)
  rerun_frame_lem v = record { goal = v.goal; depth = v.depth; reached = v.reached; heads = v.heads; below = v.below; nested = v.nested }

  rest_known : (x : Base) (f : Frame) (g : Graph) (a : Answer) → Ran x f g a → (i : ℕ) → Rest W x xs f fs len i
      → Known (rerun_frame f a ∷ fs) i
  rest_known x f g a v i (inl k) = inr (inr k)
  rest_known x f g a v i (inr p) = inr (inl (v.frame.below i p, p))

  rerun_inv : (x : Base) (f : Frame) (g : Graph) (a : Answer) → Ran x f g a
      → Inv W (rerun_base x a ∷ xs) (Known (rerun_frame f a ∷ fs)) (rerun_from g f a)
  rerun_inv x f g a v =
      record {
        here = ap (λ (y : Base). rerun_base y a ∷ bases_of fs) v.same ∙ ap (λ (ys : List Base). rerun_base x a ∷ ys) here;
        root = v.root;
        frames = (rerun_frame_lem v.frame, framesOk);
        entries =
            every_map _ _ (entry_under W (rerun_base x a) xs (Known (rerun_frame f a ∷ fs)))
            (rerun_from g f a).provisional_cache
            (tidied_ok W x xs f fs len ending.Rerun (λ z. clash (cc)) small (λ u r k. absurd k) _
            (rest_known x f g a v) (λ z. rerun_known f a) g v.entries);
        live = omega (arith, v.live, tidied_fewer ending.Rerun (with_stack g fs) f);
        cache = v.cache;
      }

  pub task_ok : (compute : ℕ → Graph → Outcome) → ComputesGoal W xs compute
      → (left pass : ℕ) (o : Bool) (x : Base) (f : Frame) (g : Graph)
      → x.goal ≡ goal → x.depth ≡ available → BasesOk W (x ∷ xs) → g.stack ≡ f ∷ fs
      → State W (x ∷ xs) g → Task (evaluate_goal_in_task (compute goal) left pass o g)
  task_ok compute ok zero pass o x f g i j v st inv =
      run_ok zero pass no_turn (λ o' x' f' g' a w z. absurd (omega (arith, rerun_left zero f' a z)))
      x f g o i j v st (compute goal g) (rw (← i) (ok x v g inv))
  task_ok compute ok (suc left) pass o x f g i j v st inv =
      run_ok (suc left) pass (evaluate_goal_in_task (compute goal) left (suc pass))
      (λ o' x' f' g' a w z. task_ok compute ok left (suc pass) o' (rerun_base x' a) (rerun_frame f' a) (rerun_from g' f' a)
      w.is_goal w.is_depth (rerun_bases x' f' g' a w) refl (rerun_inv x' f' g' a w))
      x f g o i j v st (compute goal g) (rw (← i) (ok x v g inv))

  -- ---- what the runs meet
  abbrev MeetsFrom : (Graph → Trace) → Type 0
  MeetsFrom trace =
      (x : Base) (f : Frame) (g : Graph) → x.goal ≡ goal → x.depth ≡ available
      → BasesOk W (x ∷ xs) → g.stack ≡ f ∷ fs → State W (x ∷ xs) g
      → Ordered W (trace g)

  next_meets : (end : Ending) (t : Trace) → Ordered W t → Ordered W (if_rerun end t)
  next_meets ending.Nothing t v = tt
  next_meets (ending.Fixpoint fixpoint) t v = tt
  next_meets ending.NoUsages t v = tt
  next_meets (ending.Ambiguity kind) t v = tt
  next_meets ending.Overflow t v = tt
  next_meets ending.Rerun t v = v

  run_meets : (left : ℕ) (more : Graph → Trace) → MeetsFrom more
      → (x : Base) (f₀ : Frame) (g₀ : Graph) → x.goal ≡ goal → x.depth ≡ available
      → BasesOk W (x ∷ xs) → g₀.stack ≡ f₀ ∷ fs
      → (out : Outcome) → After W (x ∷ xs) g₀ (RightGoal W (x ∷ xs) x.goal) out
      → Ordered W (after out λ g a. trace_next left more g g.stack a)
  run_meets left more k x f₀ g₀ i j v st (Done g a) (d, s, r) =
      let (f, e, w) = ran x f₀ g₀ g a d i j v st s r in
      rw e
      (next_meets (ending_of left f a) (more (rerun_from g f a))
      (k (rerun_base x a) (rerun_frame f a) (rerun_from g f a) w.is_goal w.is_depth
      (rerun_bases x f g a w) refl (rerun_inv x f g a w)))
  run_meets left more k x f₀ g₀ i j v st (Stopped r) t = tt

  pub task_meets : (compute : ℕ → Graph → Outcome) → ComputesGoal W xs compute
      → (trace : ℕ → Graph → Trace) → TracesGoal W xs trace → (left : ℕ)
      → MeetsFrom (trace_task (compute goal) (trace goal) left)
  task_meets compute ok trace meets zero x f g i j v st inv = rw (← i) (meets x v g inv)
  task_meets compute ok trace meets (suc left) x f g i j v st inv =
      only_append (EventInOrder W.book.header) (trace goal g) _ (rw (← i) (meets x v g inv))
      (run_meets (suc left) (trace_task (compute goal) (trace goal) left) (task_meets compute ok trace meets left)
      x f g i j v st (compute goal g) (rw (← i) (ok x v g inv)))
