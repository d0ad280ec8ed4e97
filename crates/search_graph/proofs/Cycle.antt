-- The definition's equations where the three functions call each other, with nothing of the code in them.
use mathlib.Core.Path.{◌≡◌, refl, sym, ap, ◌∙◌, subst}
use mathlib.Core.Bool.{Bool, false}
use mathlib.Core.Option.{none, some}
use mathlib.Core.List.{List, ◌∷◌, []}
use Prim.Native.Nat.{ℕ, zero, suc, ◌+◌, ◌*◌, ◌-◌, ◌^◌, ◌≤◌, ◌<◌, pred}
use native.Mathlib.Omega.{arith}
use lib.ListN.{length, get_or, set, drop, replicate, length-replicate}
use Rattle.evaluation.proofs.Outcomes.{kept_done, counts_in, task_counts_in}
use Rattle.definition.proofs.Skeleton.{skeleton, Kept, TaskKept, part_kept, task_kept, again_kept, skeleton_kept}
use Rattle.definition.proofs.StepCounts.{push_counted, same_counted}
use Rattle.definition.specs.Stack.{Stack, CountsTrue}
use Rattle.definition.specs.declared.paths.PathKind.{PathKind}
use Rattle.definition.specs.declared.answers.Answer.{Answer}
use Rattle.definition.specs.declared.format.Header.{Header}
use Rattle.definition.specs.declared.replies.Refusal.{Refusal}
use Rattle.definition.specs.declared.replies.Refusal.TheVariants.{Unreachable}
use Rattle.definition.specs.Part.{Book, part_at}
use Rattle.definition.specs.Graph.{Graph, with_stack}
use Rattle.definition.specs.Graph as graph
use Rattle.definition.specs.Task.{evaluate_goal_in_task, iteration}
use Rattle.definition.specs.Task as task
use Rattle.definition.specs.Evaluate.{eval_part, compute_goal, new_frame, after_task, evaluate_new_frame, evaluate_goal_with, evaluate_goal}
use Rattle.layout.specs.Work.{merged_of, stack_of}
use Rattle.layout.proofs.Graphs.{length_stack}
use Rattle.stack.specs.Places.{PlacesHeld}
use Rattle.stack.proofs.Loops.{top, under_is}
use Rattle.stack.proofs.Places.{places_pushed, places_popped, same_places}
use Rattle.book.specs.Parts.{part_in}
use Rattle.book.specs.Read.{book_in}
use Rattle.global_cache.specs.Cache.{CacheBytes}
use Rattle.std.specs.Prelude.{Result, Ok, Err}
use Rattle.std.proofs.lemmas.Result.{IfOk-at_ok}
use Rattle.evaluation.specs.declared.Evaluated.{Evaluated}
use Rattle.evaluation.specs.Workspace.{WorkBytes, graph_in, stack_in}
use Rattle.evaluation.specs.Outcomes.{Outcome, TaskOutcome, done, outcome_of, task_outcome_of, IsDone, CountsIn, TaskCountsIn}
use Rattle.delegate.specs.Picks.{graph_at}
use Rattle.lookup.specs.declared.Found.{Found}
use Rattle.lookup.specs.declared.Found.TheVariants.{Known, Push}
use Rattle.lookup.specs.Lookups.{found}
use Rattle.task.specs.declared.Iteration.{Iteration}
use Rattle.task.specs.declared.Iteration.TheVariants.{End, Again}
use Rattle.task.specs.Turns.{next_turn, turned, taken, FewTurned, CountsTurned}
use Rattle.task.proofs.Turns.{turn_is, next_is}
use Rattle.search_graph.specs.Calls.{Running, evaluator, goal_from, task_from, Comes, TaskComes, part_from, computed}
use Rattle.search_graph.specs.Between.{LookedUp, Pushed, IterationEnded, Finished}

-- ---- the measure: goals off the stack, then iterations left, then bytes left
abbrev pub rank : ℕ → ℕ → ℕ → ℕ
rank off left bytes = (off * 128 + left) * 2 ^ 64 + bytes

pub lower : (a a1 b b1 t : ℕ) → a * 2 ^ 64 + b ≡ t → a1 < a → b1 < 2 ^ 64 → a1 * 2 ^ 64 + b1 < t
lower a a1 b b1 t e less l = omega arith

pub fewer : (a b b1 t : ℕ) → a * 2 ^ 64 + b ≡ t → b1 < b → a * 2 ^ 64 + b1 < t
fewer a b b1 t e l = omega arith

-- ---- the buffers after a call
pub work_next : {goals : ℕ} {work : List ℕ} (new : List ℕ) → WorkBytes goals work → length new ≡ length work
    → WorkBytes goals new
work_next new w e = record { some = w.some; few = w.few; long = e ∙ w.long }

pub cache_next : {goals top : ℕ} {cache : List ℕ} (new : List ℕ) → CacheBytes goals top cache
    → length new ≡ length cache → CacheBytes goals top new
cache_next new c e = record { few = c.few; low = c.low; whole = e ∙ c.whole }

pub running_next : {book starts places cache work : List ℕ} {h : Header} {root height n : ℕ}
    (newPlaces newCache newWork : List ℕ) (newHeight m : ℕ)
    → Running book starts places cache work h root height n
    → length newCache ≡ length cache → length newWork ≡ length work
    → newHeight ≤ h.goals → m ≤ 2 * h.goals → CountsTrue (stack_in h.goals newHeight newWork)
    → PlacesHeld (stack_in h.goals newHeight newWork) newPlaces
    → Running book starts newPlaces newCache newWork h root newHeight m
running_next newPlaces newCache newWork newHeight m r ec ew le few counts placed =
    record {
      read = r.read;
      enough = r.enough;
      slots = cache_next newCache r.slots ec;
      bytes = work_next newWork r.bytes ew;
      stack = le;
      entries = few;
      shallow = r.shallow;
      counts = counts;
      placed = placed;
    }

-- with as many frames, of the same skeleton
pub running_on : {book starts places cache work : List ℕ} {h : Header} {root height n : ℕ}
    (newPlaces newCache newWork : List ℕ) (m : ℕ)
    → Running book starts places cache work h root height n
    → length newCache ≡ length cache → length newWork ≡ length work → m ≤ 2 * h.goals
    → skeleton (stack_in h.goals height newWork) ≡ skeleton (stack_in h.goals height work)
    → PlacesHeld (stack_in h.goals height work) newPlaces
    → Running book starts newPlaces newCache newWork h root height m
running_on {work = work} {h = h} {height = height} newPlaces newCache newWork m r ec ew few bones placed =
    let old = stack_in h.goals height work in let new = stack_in h.goals height newWork in
    running_next newPlaces newCache newWork height m r ec ew r.stack few (same_counted old new bones r.counts)
    (same_places old new newPlaces bones placed)

-- no frame has a place yet
pub none_placed : (goals : ℕ) (work : List ℕ) → PlacesHeld (stack_in goals 0 work) (replicate 64 0)
unfolding stack_of
none_placed goals work = record { long = length-replicate {A = ℕ} 64 0; placed = tt }

-- ---- the skeleton after a call: the definition's evaluations keep it
pub computed_kept : (book p : List ℕ) (in_pick : Bool) (h : Header) (height : ℕ) (k : Stack) (g : Graph)
    → skeleton g.stack ≡ k → Kept k (computed book p in_pick h height g)
computed_kept book p in_pick h height k g e =
    part_kept (evaluator book h height) h.goals (skeleton_kept (book_in book) (h.goals - height)) k
    (part_in h.goals in_pick p) g e

module _ (book : List ℕ) (h : Header) (root height n : ℕ) (work cache : List ℕ) (in_pick : Bool) (p : List ℕ)
    {low : ℕ} {new cache1 places1 : List ℕ} {r : Outcome}
    (came : Comes h.goals root height low (part_from book p in_pick h root height n work cache) work new cache1
    places1 r) where
  came_kept : Kept (skeleton (stack_in h.goals height work))
      (outcome_of h.goals root height (graph_in h.goals new) cache1 r)
  came_kept =
      subst (Kept (skeleton (stack_in h.goals height work))) (sym came.is)
      (computed_kept book p in_pick h height _ (graph_at h.goals root height n work cache) refl)

  pub part_skeleton : IsDone r
      → skeleton (stack_in h.goals height new) ≡ skeleton (stack_in h.goals height work)
  part_skeleton done = kept_done h.goals root height (graph_in h.goals new) cache1 r _ done came_kept

  pub part_counts : CountsTrue (stack_in h.goals height work) → CountsIn (stack_in h.goals height new) r
  part_counts c =
      counts_in h.goals root height (graph_in h.goals new) cache1 r (stack_in h.goals height work) c came_kept

-- ---- evaluate: the lookups, then a new frame
abbrev compute_by : Book → ℕ → ℕ → Graph → graph.Outcome
compute_by b zero input g = graph.Stopped Unreachable
compute_by b (suc off) input g = compute_goal (evaluate_goal b off) b input g

evaluates : (b : Book) (off : ℕ) (g : Graph) (goal : ℕ) (step : PathKind) (lower : Bool)
    → evaluate_goal b off g goal step lower ≡ evaluate_goal_with b.header (compute_by b off) g goal step lower
evaluates b zero g goal step lower = refl
evaluates b (suc off) g goal step lower = refl

-- the definition's compute_goal with `height` frames on the stack
abbrev computer : List ℕ → Header → ℕ → ℕ → Graph → graph.Outcome
computer book h height = compute_by (book_in book) (h.goals - height)

module _ {book starts places cache work : List ℕ} {h : Header} {root height n goal : ℕ} {step : PathKind} {lower : Bool}
    (run : Running book starts places cache work h root height n) {work1 : List ℕ} {r : Found}
    (looked : LookedUp h root height n goal step lower work work1 cache r) where
  finds : goal_from book h root height n work cache goal step lower
      ≡ found h (computer book h height) goal step r (graph_at h.goals root height n work1 cache)
  finds =
      evaluates (book_in book) (h.goals - height) (graph_at h.goals root height n work cache) goal step lower
      ∙ ap (λ (x : Header). evaluate_goal_with x (computer book h height)
      (graph_at h.goals root height n work cache) goal step lower)
      run.read.header
      ∙ looked.is (computer book h height)

  -- nothing was found: the bytes of the graph are as they were
  looked_same : {d : ℕ} → r ≡ Push d → stack_in h.goals height work ≡ stack_in h.goals height work1
  looked_same {d} e = ap (stack_of h.goals height) (sym (looked.missed d e))

  pub looked_counts : {d : ℕ} → r ≡ Push d → CountsTrue (stack_in h.goals height work1)
  looked_counts e = subst CountsTrue (looked_same e) run.counts

  pub known : (a : Answer) → r ≡ Known a
      → Comes h.goals root height height (goal_from book h root height n work cache goal step lower) work work1
      cache places (done a n)
  unfolding outcome_of found
  known a e =
      record {
        is = sym (finds ∙ ap (λ (x : Found). found h (computer book h height) goal step x
            (graph_at h.goals root height n work1 cache)) e);
        few = run.entries;
        merged = λ i lt. looked.merged i;
        placed = run.placed;
      }

  module _ {d : ℕ} (e : r ≡ Push d) where
    pushes : goal_from book h root height n work cache goal step lower
        ≡ evaluate_new_frame h (computer book h height) (graph_at h.goals root height n work1 cache) goal step d
    unfolding found
    pushes = finds ∙ ap (λ (x : Found). found h (computer book h height) goal step x
        (graph_at h.goals root height n work1 cache)) e

    -- every goal is on the stack
    pub full : h.goals ≤ height
        → Comes h.goals root height height (goal_from book h root height n work cache goal step lower) work work1
        cache places (Err Unreachable)
    unfolding outcome_of
    full le =
        let none-off : h.goals - height ≡ 0 = omega arith in
        record {
          is = sym
              (pushes
              ∙ ap (λ (off : ℕ). evaluate_new_frame h (compute_by (book_in book) off)
              (graph_at h.goals root height n work1 cache) goal step d)
              none-off
              ∙ stops (pred h.limit) _);
          few = tt;
          merged = λ i lt. looked.merged i;
          placed = run.placed;
        }
      where
        stops : (left : ℕ) (g : Graph)
            → after_task h goal step d
            (evaluate_goal_in_task (λ g1. graph.Stopped Unreachable) left 1 false g) ≡ graph.Stopped Unreachable
        stops zero g = refl
        stops (suc left) g = refl

    -- a new frame: its goal's place becomes its index
    pushed_stack : {work2 : List ℕ} → Pushed h.goals height goal step d work1 work2
        → stack_in h.goals (height + 1) work2
        ≡ new_frame h.goals goal step d (stack_in h.goals height work1) ∷ stack_in h.goals height work1
    pushed_stack push = ap (λ (g : Graph). g.stack) (push.is 0 0 [])

    pub pushed_counts : {work2 : List ℕ} → Pushed h.goals height goal step d work1 work2
        → CountsTrue (stack_in h.goals (height + 1) work2)
    pushed_counts push =
        subst CountsTrue (sym (pushed_stack push))
        (push_counted (stack_in h.goals height work1) h.goals goal step d (looked_counts e))

    pub pushed_places : {work2 : List ℕ} → Pushed h.goals height goal step d work1 work2 → goal < 64
        → PlacesHeld (stack_in h.goals (height + 1) work2) (set places goal height)
    pushed_places push inside =
        let s = stack_in h.goals height work in
        let new = new_frame h.goals goal step d (stack_in h.goals height work1) in
        let at : length s ≡ height = length_stack h.goals height (graph_in h.goals work) in
        subst (λ (l : Stack). PlacesHeld l (set places goal height))
        (ap (λ (l : Stack). new ∷ l) (looked_same e) ∙ sym (pushed_stack push))
        (subst (λ (i : ℕ). PlacesHeld (new ∷ s) (set places goal i)) at
        (places_pushed new s places (looked.off d e) inside run.placed))

    -- its iterations, and what follows them
    module _ (lt : height < h.goals) (known-goal : goal < h.goals) {work2 : List ℕ}
        (push : Pushed h.goals height goal step d work1 work2)
        {p : List ℕ} (starts-at : p ≡ drop (get_or starts goal 0) book) {left : ℕ} (less : left ≡ pred h.limit)
        {work3 cache3 places3 : List ℕ} {o : TaskOutcome}
        (came : TaskComes h.goals root (height + 1 - 1) (task_from book p h root (height + 1) n left work2 cache)
        work2 work3 cache3 places3 o)
      where
        the_part : part_at (book_in book).parts goal ≡ some (part_in h.goals false p)
        the_part =
            (run.read.started goal known-goal).part
            ∙ ap (λ (bs : List ℕ). some (part_in h.goals false bs)) (sym starts-at)

        one_off : h.goals - height ≡ suc (h.goals - (height + 1))
        one_off = omega arith

        popped : height + 1 - 1 ≡ height
        popped = omega arith

        computes : (λ (g : Graph). computer book h height goal g)
            ≡ eval_part (evaluator book h (height + 1)) h.goals (part_in h.goals false p)
        computes =
            ap (λ (m : ℕ). λ (g : Graph). compute_by (book_in book) m goal g) one_off
            ∙ (λ i. λ (g : Graph).
            elim (the_part i) [
              | none ↦ graph.Stopped Unreachable
              | some q ↦ eval_part (evaluator book h (height + 1)) (book_in book).header.goals q g
            ])
            ∙ ap (λ (x : Header). eval_part (evaluator book h (height + 1)) x.goals (part_in h.goals false p))
            run.read.header

        tasks : task_outcome_of h.goals root height (graph_in h.goals work3) cache3 o
            ≡ evaluate_goal_in_task (computer book h height goal) (pred h.limit) 1 false
            (with_stack (graph_at h.goals root height n work1 cache)
            (new_frame h.goals goal step d (stack_in h.goals height work1) ∷ stack_in h.goals height work1))
        tasks =
            ap (λ (m : ℕ). task_outcome_of h.goals root m (graph_in h.goals work3) cache3 o) (sym popped)
            ∙ came.is
            ∙ (λ i. evaluate_goal_in_task (sym computes i) (less i) 1 false (push.is root n cache i))

        -- the frames below are as they were, but for what no count and no place depends on
        pub ran_counts : TaskCountsIn (stack_in h.goals height work3) o
        ran_counts =
            subst (λ (k : ℕ). TaskCountsIn (stack_in h.goals k work3) o) popped
            (task_counts_in h.goals root (height + 1 - 1) (graph_in h.goals work3) cache3 o
            (stack_in h.goals height work1) (looked_counts e)
            (subst (TaskKept (skeleton (stack_in h.goals height work1))) (sym came.is)
            (task_kept _ _ (computed book p false h (height + 1)) (computed_kept book p false h (height + 1) _) left 1 false
            (graph_at h.goals root (height + 1) n work2 cache) (ap skeleton (pushed_stack push)))))

        came_placed : PlacesHeld (stack_in h.goals height work) places3
        came_placed =
            subst (λ (l : Stack). PlacesHeld l places3)
            (ap (λ (k : ℕ). stack_in h.goals k work2) popped
            ∙ under_is h.goals height (graph_in h.goals work2) (pushed_stack push) ∙ sym (looked_same e))
            came.placed

        pub framed : {work4 cache4 : List ℕ} {x : Outcome}
            → Finished h height goal step d o work3 work4 cache3 cache4 x
            → Comes h.goals root height height (goal_from book h root height n work cache goal step lower) work
            work4 cache4 places3 x
        framed end =
            record {
              is = end.is root ∙ ap (after_task h goal step d) tasks ∙ sym pushes;
              few = end.few;
              merged = λ i low. end.merged i ∙ came.merged i (rw popped low) ∙ push.merged i ∙ looked.merged i;
              placed = came_placed;
            }

-- ---- rerun: a turn of its loop. The iterations from here on make the whole; `first` is the workspace before the loop,
-- and of `most` reruns `left` are left
pub record Turn (f : Graph → graph.Outcome) (goals root height most : ℕ) (whole : task.TaskOutcome)
    (first work cache places : List ℕ)
    (left : ℕ) (overflow : Bool) (n : ℕ) : Type 0 where
  pub low : left ≤ most
  pub few : n ≤ 2 * goals
  pub value : evaluate_goal_in_task f left (most - left + 1) overflow (graph_at goals root height n work cache) ≡ whole
  pub merged : (i : ℕ) → i < height - 1 → merged_of goals i work ≡ merged_of goals i first
  pub counts : CountsTrue (stack_in goals height work)
  pub bones : skeleton (stack_in goals height work) ≡ skeleton (stack_in goals height first)
  pub placed : PlacesHeld (stack_in goals height first) places

module _ {f : Graph → graph.Outcome} {goals root height most : ℕ} {whole : task.TaskOutcome}
    {first work cache places : List ℕ}
    {left : ℕ} {overflow : Bool} {n : ℕ}
    (here : Turn f goals root height most whole first work cache places left overflow n)
    {work1 cache1 places1 : List ℕ} {o : Outcome}
    (read : Comes goals root height (height - 1) (f (graph_at goals root height n work cache)) work work1 cache1
    places1 o) where
  -- the number of this turn
  abbrev pass : ℕ
  pass = most - left + 1

  -- what is left to do after the part was run
  turn_whole : iteration left pass (next_turn f left pass) overflow (outcome_of goals root height (graph_in goals work1) cache1 o)
      ≡ whole
  turn_whole =
      ap (iteration left pass (next_turn f left pass) overflow) read.is
      ∙ sym (turn_is f left pass overflow (graph_at goals root height n work cache))
      ∙ here.value

  placed_on : PlacesHeld (stack_in goals height first) places1
  placed_on =
      same_places (stack_in goals height work) (stack_in goals height first) places1 (sym here.bones) read.placed

  placed_under : 1 ≤ height → PlacesHeld (stack_in goals (height - 1) first) places1
  placed_under under =
      places_popped _ _ places1
      (subst (λ (l : Stack). PlacesHeld l places1) (top goals (graph_in goals first) height under) placed_on)

  module _ {work2 : List ℕ} {r : Result Iteration Refusal}
      (ended : IterationEnded goals height left overflow o work1 work2 r) where
    goes_on : taken goals root height pass (next_turn f left pass) (graph_in goals work2) cache1 r ≡ whole
    goes_on = sym (ended.is root cache1 pass (next_turn f left pass)) ∙ turn_whole

    merged_on : (i : ℕ) → i < height - 1 → merged_of goals i work2 ≡ merged_of goals i first
    merged_on i lt = ended.merged i ∙ read.merged i lt ∙ here.merged i lt

    -- a refusal is the task's
    pub turn_refused : 1 ≤ height → (x : Refusal) → r ≡ Err x
        → TaskComes goals root (height - 1) whole first work2 cache1 places1 (Err x)
    turn_refused under x e =
        record {
          is = sym (ap (taken goals root height pass (next_turn f left pass) (graph_in goals work2) cache1) e) ∙ goes_on;
          few = tt;
          merged = merged_on;
          placed = placed_under under;
        }

    module _ {i : Iteration} (ok : r ≡ Ok i) where
      turns_on : turned goals root height pass (next_turn f left pass) (graph_in goals work2) cache1 i ≡ whole
      turns_on = sym (ap (taken goals root height pass (next_turn f left pass) (graph_in goals work2) cache1) ok) ∙ goes_on

      few_on : FewTurned goals left i
      few_on = IfOk-at_ok (FewTurned goals left) ok ended.few

      pub turn_ends : 1 ≤ height → most < 99 → (e : Evaluated) → i ≡ End e
          → TaskComes goals root (height - 1) whole first work2 cache1 places1 (Ok (record { evaluated = e; passes = pass }))
      unfolding turned
      turn_ends under few e is =
          record {
            is = sym (ap (turned goals root height pass (next_turn f left pass) (graph_in goals work2) cache1) is) ∙ turns_on;
            few = (subst (FewTurned goals left) is few_on, omega arith);
            merged = merged_on;
            placed = placed_under under;
          }

      -- an iteration is left
      pub turn_left : (met : Bool) (m : ℕ) → i ≡ Again met m → 0 < left
      turn_left met m e = (subst (FewTurned goals left) e few_on).1

      pub turn_again : ((k : Stack) (g : Graph) → skeleton g.stack ≡ k → Kept k (f g))
          → (met : Bool) (m : ℕ) → i ≡ Again met m
          → Turn f goals root height most whole first work2 cache1 places1 (left - 1) met m
      unfolding turned
      turn_again keeps met m e =
          let some = turn_left met m e in
          let before = here.low in
          let next-pass : suc pass ≡ most - (left - 1) + 1 = omega arith in
          record {
            low = omega arith;
            few = (subst (FewTurned goals left) e few_on).0;
            value =
                sym (ap (λ (k : ℕ). evaluate_goal_in_task f (left - 1) k met (graph_at goals root height m work2 cache1)) next-pass)
                ∙ sym (ap (λ (next : Bool → Graph → task.TaskOutcome). next met (graph_at goals root height m work2 cache1)) (next_is f left pass some))
                ∙ sym (ap (turned goals root height pass (next_turn f left pass) (graph_in goals work2) cache1) e) ∙ turns_on;
            merged = merged_on;
            counts = subst (CountsTurned (stack_in goals height work2)) e
                (IfOk-at_ok (CountsTurned (stack_in goals height work2)) ok ended.counts);
            bones =
                again_kept left pass overflow met (graph_at goals root height m work2 cache1) _
                (outcome_of goals root height (graph_in goals work1) cache1 o)
                (λ next. ended.is root cache1 pass next
                ∙ ap (taken goals root height pass next (graph_in goals work2) cache1) ok
                ∙ ap (turned goals root height pass next (graph_in goals work2) cache1) e)
                (subst (Kept (skeleton (stack_in goals height work))) (sym read.is)
                (keeps _ (graph_at goals root height n work cache) refl))
                ∙ here.bones;
            placed = placed_on;
          }
