-- `evaluateGoal` is right of every goal.
use mathlib.Core.Bool.{Bool, false, not, true}
use mathlib.Core.List.{List, [], ◌++◌, ◌∷◌}
use mathlib.Core.Logic.{◌⊎◌, inl, inr}
use mathlib.Core.Option.{Option, none, some}
use mathlib.Core.Path.{◌≡◌, ap, refl, subst, sym}
use Prim.Native.Nat.{◌*◌, ◌+◌, ◌-◌, ◌<◌, ◌≤◌, pred, suc, zero, ℕ}
use native.Mathlib.Omega.{arith}
use lib.Dec.{T, leb, nleb→lt}
use lib.ListN.{length, length-append, length-replicate}
use Rattle.definition.specs.CacheForm.{most_passes}
use Rattle.definition.specs.Evaluate.{Evaluator, after_task, compute_goal, eval_part, evaluate_at_depth, evaluate_goal, evaluate_goal_with, evaluate_new_frame, insert_global_cache, insert_in_slot, insert_provisional_cache, new_entry, new_frame}
use Rattle.definition.specs.GlobalCache.{cache_insert}
use Rattle.definition.specs.Graph.{Done, Entry, EvaluationResult, Graph, Outcome, Stopped, unless_found, with_global_cache, with_provisional_cache, with_stack}
use Rattle.definition.specs.Heads.{heads_empty}
use Rattle.definition.specs.Lookup.{allowed_depth_for_nested, check_cycle_on_stack, lookup_global_cache, lookup_provisional_cache}
use Rattle.definition.specs.Parent.{Ordinary, handle_overflow, update_parent_goal}
use Rattle.definition.specs.Part.{Part, part_at}
use Rattle.definition.specs.Stack.{Frame, Stack, stack_find}
use Rattle.definition.specs.Task.{Evaluated, TaskOutcome, TaskStopped, evaluate_goal_in_task}
use Rattle.definition.specs.declared.answers.Answer.{Answer}
use Rattle.definition.specs.declared.answers.Answer.TheVariants.{No, Overflow, Yes}
use Rattle.definition.specs.declared.format.Header.{Header}
use Rattle.definition.specs.declared.paths.PathKind.{PathKind}
use Rattle.definition.specs.declared.replies.Refusal.TheVariants.{CacheConflict, ProvisionalCacheFull, Unreachable}
use Rattle.soundness.specs.Always.{Apart, Counted, Distinct, Every, FrameInOrder, FramesInOrder, HasHead, Known, goals_of}
use Rattle.soundness.specs.Sets.{holds}
use Rattle.definition.proofs.Passes.{RanWithin, task_within}
use Rattle.soundness.proofs.Logic.{clash, nobody, of_false, outside}
use Rattle.soundness.proofs.Support.{step}
use Rattle.soundness.proofs.Calls.{Calls, steps_of}
use Rattle.soundness.proofs.World.{World}
use Rattle.soundness.proofs.Counters.{Reads, nothing}
use Rattle.soundness.proofs.Assumed.{A, A-mono, A-none, A-under, Base, base_of, bases_of, length_bases}
use Rattle.soundness.proofs.Inv.{After, BasesOk, CalledBy, EntryOk, Gain, State, distinct_goals, goals_here, reads_of}
use Rattle.soundness.proofs.Changes.{after_map, every_map, gain_known}
use Rattle.soundness.proofs.HeadLaws.{absent_no_heads, empty_heads, head_or_unused, not_empty_lem}
use Rattle.soundness.proofs.Update.{child_reads, update_gains, update_inv, update_known}
use Rattle.soundness.proofs.Candidates.{overflow_change}
use Rattle.soundness.proofs.Parts.{Callable, Claims, EvalOk, RightAt, RightGoal, part_ok}
use Rattle.soundness.proofs.Runs.{ComputesGoal, Finished, TaskAfter, task_ok}
use Rattle.soundness.proofs.Lookups.{Found, cycle_or, depth_ok, find_at, global_found, provisional_found}
use Rattle.soundness.proofs.Slots.{Kept, insert_ok}
use Rattle.soundness.proofs.Pigeons.{full_stack}

-- a goal's part is run L times at most, and once at least
pub runs_counted : (h : Header) (compute : Graph → Outcome) (g : Graph)
    → RanWithin 1 (most_passes h) (evaluate_goal_in_task compute (pred h.limit) 1 false g)
runs_counted h compute g = task_within 1 (most_passes h) compute (pred h.limit) 1 false g (omega arith) (omega arith)

every_append : (P : Entry → Type 0) (es : List Entry) (e : Entry) → Every P es → P e → Every P (es ++ (e ∷ []))
every_append P [] e v p = (p, tt)
every_append P (d ∷ es) e v p = (v.0, every_append P es e v.1 p)

module _ (W : World) (xs : List Base) (bases : BasesOk W xs) (g₀ : Graph) (v : State W xs g₀) (small : length g₀.stack ≤ W.book.header.goals)
    (goal : ℕ) (inside : goal < W.book.header.goals) (step : PathKind) (available : ℕ) (deep : available ≤ W.book.header.top)
    (call : CalledBy W xs goal step) where
  abbrev h : Header
  h = W.book.header

  -- the outcome answers the goal
  abbrev Settled : Outcome → Type 0
  Settled = After W xs g₀ (Claims W xs goal)

  room : length xs ≤ h.goals
  room = omega (arith, length_bases g₀.stack, ap length v.here)

  -- ---- after the frame was popped
  module _ (g : Graph) (r : EvaluationResult) (w : Finished W xs g₀.stack goal available g r) where
    abbrev s' : Stack
    s' = update_parent_goal g.stack step r.heads r.encountered_overflow (Ordinary r.nested_goals) (available - r.required_depth)

    abbrev g' : Graph
    g' = with_stack g s'

    room' : length g.stack ≤ h.goals
    room' = omega (arith, ap length w.stack)

    gain : Gain g₀.stack s' (child_reads r.heads)
    gain =
        subst (λ (z : Stack). Gain z s' (child_reads r.heads)) w.stack
        (update_gains W step r.heads r.encountered_overflow (Ordinary r.nested_goals) (available - r.required_depth)
        g.stack w.inv.frames room')

    named : (i : ℕ) → HasHead r.heads i → Known s' i
    named i p =
        update_known W step r.heads r.encountered_overflow (Ordinary r.nested_goals) (available - r.required_depth)
        g.stack w.inv.frames room' i (omega (arith, w.below i p, ap length w.stack)) p

    known : (i : ℕ) → Known g₀.stack i ⊎ HasHead r.heads i → Known s' i
    known i (inl k) = gain_known gain i k
    known i (inr p) = named i p

    pub updated : State W xs g'
    updated =
        update_inv W step r.heads r.encountered_overflow (Ordinary r.nested_goals) (available - r.required_depth) xs
        (λ i. Known g₀.stack i ⊎ HasHead r.heads i) g w.inv room' known

    claimed : Claims W xs goal (child_reads r.heads) r.result
    claimed =
        W.mono r.result (A W xs (reads_of r.heads)) (A W xs (child_reads r.heads))
        (A-mono W xs (reads_of r.heads) (child_reads r.heads) (λ i k l z. omega arith)) goal w.claims

    -- into the global cache
    outright : heads_empty r.heads ≡ true → T (W.claim r.result nobody goal)
    outright e =
        W.mono r.result (A W xs (reads_of r.heads)) nobody
        (A-none W xs (reads_of r.heads) (λ i k. zeros i (head_or_unused r.heads i _ refl) k)) goal w.claims
      where
        zeros : (i : ℕ) → HasHead r.heads i ⊎ ((k : PathKind) → reads_of r.heads i k ≡ 0) → (k : PathKind) → reads_of r.heads i k ≡ 0
        zeros i (inl p) = absurd (empty_heads r.heads e i p)
        zeros i (inr z) = z

    cached : (o : Option (List ℕ)) → Kept W o → Settled (elim o [ none ↦ Stopped CacheConflict | some cache ↦ Done (with_global_cache g' cache) r.result ])
    cached none k = inr refl
    cached (some cache) k = (
      child_reads r.heads,
      record {
        gain = gain;
        inv =
            record {
              here = updated.here;
              root = updated.root;
              frames = updated.frames;
              entries = updated.entries;
              live = updated.live;
              cache = k;
            };
      },
      claimed,
    )

    -- among the provisional entries
    entry_ok : heads_empty r.heads ≡ false → EntryOk W xs (Known s') (new_entry g' goal step r)
    entry_ok e = record { claims = w.claims; order = record { heads = w.heads; known = named; not_empty = not_empty_lem r.heads e } }

    entered : (full : Bool) → leb (2 * h.goals) (length g.provisional_cache) ≡ full → heads_empty r.heads ≡ false
        → Settled (elim full [
          | true ↦ Stopped ProvisionalCacheFull
          | false ↦ Done (with_provisional_cache g' (g.provisional_cache ++ (new_entry g' goal step r ∷ []))) r.result
        ])
    entered true l e = inl refl
    entered false l e = (
      child_reads r.heads,
      record {
        gain = gain;
        inv =
            record {
              here = updated.here;
              root = updated.root;
              frames = updated.frames;
              entries = every_append (EntryOk W xs (Known s')) g.provisional_cache (new_entry g' goal step r) updated.entries (entry_ok e);
              live =
                  omega (
                    arith,
                    nleb→lt (2 * h.goals) (length g.provisional_cache) (of_false _ l),
                    length-append g.provisional_cache (new_entry g' goal step r ∷ []),
                  );
              cache = updated.cache;
            };
      },
      claimed,
    )

    -- there is a slot for the required depth
    slotted : Counted h r.passes → (t : Bool) → leb r.required_depth h.top ≡ t → heads_empty r.heads ≡ true
        → Settled (elim t [ true ↦ insert_in_slot h g' goal r | false ↦ Stopped Unreachable ])
    slotted c true f e =
        cached (cache_insert h g.global_cache goal r)
        (insert_ok W g.global_cache w.inv.cache goal inside r w.nested (omega (arith, w.required)) c (outright e))
    slotted c false f e = absurd (omega (arith, w.required, nleb→lt r.required_depth h.top (of_false _ f)))

    kept : Counted h r.passes → (on empty : Bool) → heads_empty r.heads ≡ empty
        → Settled (elim empty [
          | true ↦ insert_global_cache h g' goal r
          | false ↦ elim on [ true ↦ insert_provisional_cache h g' goal step r | false ↦ Done g' r.result ]
        ])
    kept c on true e = slotted c (leb r.required_depth h.top) refl e
    kept c true false e = entered (leb (2 * h.goals) (length g.provisional_cache)) refl e
    kept c false false e = (child_reads r.heads, record { gain = gain; inv = updated }, claimed)

  after_task_lem : (t : TaskOutcome) → TaskAfter W xs g₀.stack goal available t → RanWithin 1 (most_passes h) t
      → Settled (after_task h goal step available t)
  after_task_lem (Evaluated g r) w c =
      kept g r w (record { once = c.0; most = c.1 }) h.provisional (heads_empty r.heads) refl
  after_task_lem (TaskStopped r) w c = w

  -- ---- the frame is pushed
  abbrev new : Frame
  new = new_frame h.goals goal step available g₀.stack

  pub new_bases : Apart goal (goals_of g₀.stack) → BasesOk W (base_of new ∷ xs)
  new_bases apart = (
    record {
      result = λ a e n. clash (cc);
      by_call = call;
      apart = subst (λ (l : List ℕ). Apart goal l) (sym (goals_here g₀.stack xs v.here)) apart;
    },
    bases,
  )

  under_new : (e : Entry) → EntryOk W xs (Known g₀.stack) e → EntryOk W (base_of new ∷ xs) (Known (new ∷ g₀.stack)) e
  under_new e u =
      record {
        claims =
            W.mono e.result (A W xs (reads_of e.heads)) (A W (base_of new ∷ xs) (reads_of e.heads))
            (A-under W (base_of new) xs (reads_of e.heads)) e.input u.claims;
        order = record { heads = u.order.heads; known = λ i p. inr (inr (u.order.known i p)); not_empty = u.order.not_empty };
      }

  new_frame_lem : FrameInOrder h (length g₀.stack) new
  new_frame_lem =
      record {
        goal = inside;
        depth = deep;
        reached = omega arith;
        heads = length-replicate h.goals none;
        below = λ i p. absurd (absent_no_heads h.goals i p);
        nested = length-replicate h.goals 0;
      }

  pub pushed : State W (base_of new ∷ xs) (with_stack g₀ (new ∷ g₀.stack))
  pushed =
      record {
        here = ap (λ (ys : List Base). base_of new ∷ ys) v.here;
        root = v.root;
        frames = (new_frame_lem, v.frames);
        entries =
            every_map (EntryOk W xs (Known g₀.stack)) (EntryOk W (base_of new ∷ xs) (Known (new ∷ g₀.stack)))
            under_new g₀.provisional_cache v.entries;
        live = v.live;
        cache = v.cache;
      }

  module _ (compute : ℕ → Graph → Outcome) (ok : ComputesGoal W xs compute) where
    pub frame_ok : Apart goal (goals_of g₀.stack) → (left : ℕ)
        → TaskAfter W xs g₀.stack goal available (evaluate_goal_in_task (compute goal) left 1 false (with_stack g₀ (new ∷ g₀.stack)))
    frame_ok apart left =
        task_ok W xs g₀.stack goal available v.here room v.frames compute ok left 1 false (base_of new) new (with_stack g₀ (new ∷ g₀.stack))
        refl refl (new_bases apart) refl pushed

    new_ok : Apart goal (goals_of g₀.stack) → Settled (evaluate_new_frame h compute g₀ goal step available)
    new_ok apart =
        after_task_lem (evaluate_goal_in_task (compute goal) (pred h.limit) 1 false (with_stack g₀ (new ∷ g₀.stack)))
        (frame_ok apart (pred h.limit)) (runs_counted h (compute goal) (with_stack g₀ (new ∷ g₀.stack)))

    or_ok : (o : Option Outcome) (next : Outcome) → Found W xs g₀ v small goal o → Settled next → Settled (unless_found o next)
    or_ok none next f k = k
    or_ok (some o) next f k = f

    cycle_ok : Settled (unless_found (check_cycle_on_stack h g₀ goal step available) (evaluate_new_frame h compute g₀ goal step available))
    cycle_ok =
        cycle_or W xs bases g₀ v small goal step available call (evaluate_new_frame h compute g₀ goal step available) new_ok
        (stack_find g₀.stack goal) (find_at goal g₀.stack)

    at_depth_lem : Settled (evaluate_at_depth h compute g₀ goal step available)
    at_depth_lem =
        or_ok (lookup_provisional_cache h g₀ goal step available) _ (provisional_found W xs g₀ v small goal step available)
        (or_ok (lookup_global_cache h g₀ goal step available) _ (global_found W xs g₀ v small goal inside step available deep) cycle_ok)

-- ---- compute_goal
part_there : (ps : List Part) (g : ℕ) → g < length ps → part_at ps g ≡ none → ⊥
part_there [] g l e = omega arith
part_there (p ∷ ps) zero l e = clash (cc)
part_there (p ∷ ps) (suc g) l e = part_there ps g (omega arith) e

-- the goal of the frame on top is one of the book's
pub top_goal : (h : Header) (s : Stack) (x : Base) (xs : List Base) → bases_of s ≡ x ∷ xs → FramesInOrder h s
    → x.goal < h.goals
top_goal h [] x xs e v = clash (cc)
top_goal h (f ∷ fs) x xs e v = let z : base_of f ≡ x = cc in subst (λ (y : Base). y.goal < h.goals) z v.0.goal

-- the calls of the part of the goal on top
pub callable : (W : World) (x : Base) (xs : List Base) (p : Part) → part_at W.book.parts x.goal ≡ some p
    → Calls (Callable W (x ∷ xs)) p
callable W x xs p e =
    steps_of (Callable W (x ∷ xs)) W.book x.goal p e
    (λ y k t. (W.read.inside x.goal y k t, W.steps x.goal y k t))

module _ (W : World) (xs : List Base) (evaluate : Evaluator) (ok : EvalOk W xs evaluate) (g : Graph) (v : State W xs g) (goal : ℕ)
    (inside : goal < W.book.header.goals)
    (calls : (p : Part) → part_at W.book.parts goal ≡ some p → Calls (Callable W xs) p) where
  own_part : (p : Part) → part_at W.book.parts goal ≡ some p → (d : Reads) (a : Answer) → RightAt W xs p d a → RightGoal W xs goal d a
  own_part p e d a r =
      record {
        when_yes =
            λ z. subst (λ (o : Option Part). T (elim o [ none ↦ false | some x ↦ holds false (W.claim Yes (A W xs d)) x ])) (sym e) (r.when_yes z);
        when_no =
            λ z. subst (λ (o : Option Part). T (not (elim o [ none ↦ false | some x ↦ holds true (outside (W.claim No (A W xs d))) x ]))) (sym e)
            (r.when_no z);
      }

  compute_by_lem : (o : Option Part) → part_at W.book.parts goal ≡ o
      → After W xs g (RightGoal W xs goal) (elim o [ none ↦ Stopped Unreachable | some p ↦ eval_part evaluate W.book.header.goals p g ])
  compute_by_lem none e = absurd (part_there W.book.parts goal (omega (arith, W.read.whole)) e)
  compute_by_lem (some p) e =
      after_map W xs g (RightAt W xs p) (RightGoal W xs goal) (own_part p e) (eval_part evaluate W.book.header.goals p g)
      (part_ok W xs evaluate ok p (calls p e) g v)

pub compute_ok : (W : World) (xs : List Base) (evaluate : Evaluator) → ((x : Base) → BasesOk W (x ∷ xs) → EvalOk W (x ∷ xs) evaluate)
    → ComputesGoal W xs (compute_goal evaluate W.book)
compute_ok W xs evaluate ok x s g v =
    compute_by_lem W (x ∷ xs) evaluate (ok x s) g v x.goal (top_goal W.book.header g.stack x xs v.here v.frames)
    (callable W x xs) (part_at W.book.parts x.goal) refl

-- with every goal on the stack nothing is computed
pub none_left : (W : World) (xs : List Base) → length xs ≡ W.book.header.goals
    → ComputesGoal W xs (λ input g. Stopped Unreachable)
none_left W xs e x s g v =
    absurd (omega (
      arith,
      full_stack W.book.header g.stack v.frames
          (subst (λ (l : List ℕ). Distinct l) (goals_here g.stack (x ∷ xs) v.here) (distinct_goals W (x ∷ xs) s)),
      length_bases g.stack,
      ap length v.here,
    ))

-- ---- evaluate_goal
module _ (W : World) (xs : List Base) (bases : BasesOk W xs) (small : length xs ≤ W.book.header.goals) (compute : ℕ → Graph → Outcome)
    (ok : ComputesGoal W xs compute) where
  from_depth : (g : Graph) (v : State W xs g) (goal : ℕ) → goal < W.book.header.goals → (step : PathKind) (lower : Bool)
      → CalledBy W xs goal step
      → (o : Option ℕ) → allowed_depth_for_nested W.book.header g.root_depth g.stack lower ≡ o
      → After W xs g (Claims W xs goal)
      (elim o [
        | none ↦ Done (with_stack g (handle_overflow g.stack)) Overflow
        | some available ↦ evaluate_at_depth
            W.book.header compute g goal step available
      ])
  from_depth g v goal l step lower call none e = (nothing, overflow_change W xs g v, W.ambiguous Overflow tt (A W xs nothing) goal)
  from_depth g v goal l step lower call (some available) e =
      at_depth_lem W xs bases g v (omega (arith, length_bases g.stack, ap length v.here)) goal l step available
      (depth_ok W.book.header g.root_depth g.stack v.root v.frames lower available e) call compute ok

  pub with_ok : EvalOk W xs (evaluate_goal_with W.book.header compute)
  with_ok g goal step lower v l call =
      from_depth g v goal l step lower call (allowed_depth_for_nested W.book.header g.root_depth g.stack lower) refl

-- `off` goals are not on the stack
pub evaluate_ok : (W : World) (off : ℕ) (xs : List Base) → BasesOk W xs → length xs + off ≡ W.book.header.goals
    → EvalOk W xs (evaluate_goal W.book off)
evaluate_ok W zero xs bases e = with_ok W xs bases (omega arith) (λ input g. Stopped Unreachable) (none_left W xs (omega arith))
evaluate_ok W (suc off) xs bases e =
    with_ok W xs bases (omega arith) (compute_goal (evaluate_goal W.book off) W.book)
    (compute_ok W xs (evaluate_goal W.book off) (λ x s. evaluate_ok W off (x ∷ xs) s (omega arith)))
