-- The end of an iteration.
use mathlib.Core.Path.{◌≡◌, refl, sym, ap, ap₂, ◌∙◌, subst}
use mathlib.Core.Bool.{Bool, ◌||◌}
use mathlib.Core.List.{List, [], ◌∷◌}
use Prim.Native.Nat.{ℕ, zero, suc, ◌+◌, ◌-◌, ◌*◌, ◌≤◌, ◌<◌}
use native.Mathlib.Omega.{arith}
use types.Run.{OneOf, miss}
use denote.Enum.Declared.{tag_of}
use Rattle.definition.specs.declared.answers.Answer.{Answer}
use Rattle.definition.specs.declared.answers.Answer.TheVariants.{Overflow}
use Rattle.definition.specs.declared.endings.Ending.{Ending}
use Rattle.definition.specs.contracts.endings.Ending.{the_type}
use Rattle.definition.specs.declared.endings.Ending.TheVariants as ending
use Rattle.std.specs.Prelude.{Ok, Err}
use Rattle.definition.specs.declared.replies.Refusal.{Refusal}
use Rattle.definition.specs.Stack.{Stack, Frame, CountsTrue}
use Rattle.definition.specs.Graph.{Graph, finalize, with_stack}
use Rattle.definition.specs.Graph as graph
use Rattle.definition.specs.Endings.{ending_of, pop}
use Rattle.definition.specs.Task as task
use Rattle.definition.proofs.Reruns.{rerun_left}
use Rattle.layout.specs.Frame.{frame_of}
use Rattle.layout.specs.Work.{stack_of, graph_of}
use Rattle.stack.specs.Bytes.{StackBytes, frame_bytes, frame_at}
use Rattle.stack.specs.Written.{TopChanged}
use Rattle.stack.proofs.Loops.{top}
use Rattle.stack.proofs.Counts.{rerun_true}
use Rattle.provisional_cache.proofs.Writes.{frame_kept}
use Rattle.pop.specs.Endings as pops
use Rattle.evaluation.specs.declared.Done.{Done}
use Rattle.evaluation.specs.Outcomes.{Outcome, outcome_of, ran_of}
use Rattle.task.specs.declared.Iteration.{Iteration}
use Rattle.task.specs.declared.Iteration.TheVariants.{End, Again}
use Rattle.task.specs.Turns.{next_turn, turned, FewLeft, FewTurned}
use Rattle.task.specs.Iterations.{FramePopped, TurnTaken}

abbrev Next : Type 0
Next = Bool → Graph → task.TaskOutcome

-- ---- `popped`, by the numbers of the endings' variants
ends_so : (e : Ending) → OneOf (0 ∷ 1 ∷ 2 ∷ 3 ∷ 4 ∷ []) (tag_of the_type e) → (answer : Answer)
    → (e ≡ ending.Overflow → answer ≡ Overflow) → (next : Next) (pass : ℕ) (overflow : Bool) (f : Frame) (g : Graph)
    → task.after_pop next pass overflow f answer e g ≡ task.Evaluated g (finalize f overflow answer pass)
ends_so ending.Nothing k answer h next pass overflow f g = refl
ends_so (ending.Fixpoint fixpoint) k answer h next pass overflow f g = refl
ends_so ending.NoUsages k answer h next pass overflow f g = refl
ends_so (ending.Ambiguity kind) k answer h next pass overflow f g = refl
ends_so ending.Overflow k answer h next pass overflow f g =
    ap (λ (a : Answer). task.Evaluated g (finalize f overflow a pass)) (sym (h refl))
ends_so ending.Rerun k answer h next pass overflow f g = absurd (miss (0 ∷ 1 ∷ 2 ∷ 3 ∷ 4 ∷ []) 5 tt k)

module _ (goals height n : ℕ) (e : Ending) (overflow : Bool) (answer : Answer) (old : List ℕ)
    (st : StackBytes goals height old)
    (some : 1 ≤ height) (few : n ≤ 2 * goals) (mid : List ℕ) (kept : ℕ)
    (popped : pops.FramePopped goals height e n old mid kept) where
  abbrev own : ℕ
  own = height - 1

  abbrev f : Frame
  f = frame_at goals own old

  left_few : kept ≤ 2 * goals
  left_few = let l = popped.few in omega arith

  -- the goal's outcome
  pub over : OneOf (0 ∷ 1 ∷ 2 ∷ 3 ∷ 4 ∷ []) (tag_of the_type e) → (e ≡ ending.Overflow → answer ≡ Overflow)
      → FramePopped goals height e n overflow answer old mid (End (record { answer = answer; overflow = overflow; entries = kept }))
  unfolding turned ran_of
  over k limit =
      let h = st.high in
      let same = sym (frame_kept goals old mid own popped.frames (omega arith)) in
      record {
        is = λ root cache pass next.
            ends_so e k answer limit next pass overflow f (pop e (graph_of goals root height n old cache))
            ∙ ap₂ (λ (x : Frame) (g : Graph). task.Evaluated g (finalize x overflow answer pass)) same
            (sym (popped.is root cache));
        few = left_few;
        counts = tt;
      }

  -- the frame is on top again
  pub again : e ≡ ending.Rerun → (new : List ℕ) → TopChanged goals own (λ f. task.rerun_frame f answer) mid new
      → FramePopped goals height e n overflow answer old new (Again overflow kept)
  unfolding turned
  again is new w =
      let whole : own + 1 ≡ height = omega arith in
      let h = st.high in
      let same = sym (frame_kept goals old mid own popped.frames (omega arith)) in
      let s = sym (ap (λ (k : ℕ). stack_of goals k new) (sym whole) ∙ w.stack) in
      let es = sym (w.entries kept) in
      record {
        is = λ root cache pass next.
            ap₂ (λ (x : Ending) (g : Graph). task.after_pop next pass overflow f answer x g) is (sym (popped.is root cache))
            ∙ ap (λ (x : Frame). next overflow (task.push_rerun (graph_of goals root own kept mid cache) x answer)) same
            ∙ ap (next overflow)
            (λ t. record { root_depth = root; stack = s t; provisional_cache = es t; global_cache = cache });
        few = (left_few, is);
        counts =
            subst (λ (k : ℕ). CountsTrue (stack_of goals k new)) whole
            (rerun_true goals own answer mid new w
            (subst (λ (k : ℕ). CountsTrue (stack_of goals k mid)) (sym whole)
            (subst CountsTrue (sym (popped.frames.stacks height st.high)) st.counts)));
      }

-- ---- `end_iteration`

-- any ending but the step limit's
pub not_limit : (e : Ending) → OneOf (0 ∷ 1 ∷ 2 ∷ 3 ∷ 5 ∷ []) (tag_of the_type e) → e ≡ ending.Overflow → ⊥
not_limit e k is =
    let z : OneOf (0 ∷ 1 ∷ 2 ∷ 3 ∷ 5 ∷ []) 4 =
    subst (λ (x : Ending). OneOf (0 ∷ 1 ∷ 2 ∷ 3 ∷ 5 ∷ []) (tag_of the_type x)) is k in
    miss (0 ∷ 1 ∷ 2 ∷ 3 ∷ 5 ∷ []) 4 tt z

-- what is read of the frame's bytes
pub met_is : (goals at : ℕ) (bs r : List ℕ) (overflow b met : Bool) → r ≡ frame_bytes goals at bs
    → b ≡ (frame_of goals r).encountered_overflow → met ≡ (overflow || b)
    → met ≡ (overflow || (frame_at goals at bs).encountered_overflow)
met_is goals at bs r overflow b met is e m =
    m
    ∙ ap (λ (x : Bool). overflow || x) (e ∙ ap (λ (l : List ℕ). (frame_of goals l).encountered_overflow) is)

pub ending_is : (goals at left : ℕ) (bs r : List ℕ) (answer : Answer) (x : Ending) → r ≡ frame_bytes goals at bs
    → x ≡ ending_of left (frame_of goals r) answer
    → x ≡ ending_of left (frame_at goals at bs) answer
ending_is goals at left bs r answer x is e = e ∙ ap (λ (l : List ℕ). ending_of left (frame_of goals l) answer) is

module _ (goals height left : ℕ) (overflow : Bool) (done : Done) (old : List ℕ) (some : 1 ≤ height) (met : Bool)
    (is-met : met ≡ (overflow || (frame_at goals (height - 1) old).encountered_overflow))
    (e : Ending) (is-e : e ≡ ending_of left (frame_at goals (height - 1) old) done.answer) (new : List ℕ) (r : Iteration) where
  abbrev frame : Frame
  frame = frame_at goals (height - 1) old

  opened : (root : ℕ) (cache : List ℕ) (pass : ℕ) (next : Next)
      → task.end_iteration left pass next overflow (graph_of goals root height done.entries old cache) done.answer (stack_of goals height old)
      ≡ task.after_pop next pass met frame done.answer e (pop e (graph_of goals root height done.entries old cache))
  opened root cache pass next =
      let g : Graph = graph_of goals root height done.entries old cache in
      let s = top goals old height some in
      ap (task.end_iteration left pass next overflow g done.answer) s
      ∙ ap (λ (x : Stack). task.after_pop next pass (overflow || frame.encountered_overflow) frame done.answer
      (ending_of left frame done.answer) (pop (ending_of left frame done.answer) (with_stack g x))) (sym s)
      ∙ ap₂ (λ (m : Bool) (x : Ending). task.after_pop next pass m frame done.answer x (pop x g)) (sym is-met) (sym is-e)

  few_turned : (i : Iteration) → FewLeft goals e i → FewTurned goals left i
  few_turned (End t) w = w
  few_turned (Again m k) w = (w.0, rerun_left left frame done.answer (sym is-e ∙ w.1))

  follows_done : FramePopped goals height e done.entries met done.answer old new r
      → TurnTaken goals height left overflow (Ok done) old new (Ok r)
  unfolding outcome_of
  follows_done made =
      record {
        is = λ root cache pass next. opened root cache pass next ∙ made.is root cache pass next;
        few = few_turned r made.few;
        counts = made.counts;
      }

  pub follows : (o : Outcome) → o ≡ Ok done → FramePopped goals height e done.entries met done.answer old new r
      → TurnTaken goals height left overflow o old new (Ok r)
  follows o was made =
      subst (λ (x : Outcome). TurnTaken goals height left overflow x old new (Ok r)) (sym was) (follows_done made)

  -- past the step limit
  pub follows_limit : (o : Outcome) → o ≡ Ok done → e ≡ ending.Overflow
      → FramePopped goals height ending.Overflow done.entries met Overflow old new r
      → TurnTaken goals height left overflow o old new (Ok r)
  follows_limit o was is made =
      follows o was (record {
        is = λ root cache pass next.
            ap (λ (x : Ending). task.after_pop next pass met frame done.answer x
            (pop x (graph_of goals root height done.entries old cache))) is ∙ made.is root cache pass next;
        few = subst (λ (x : Ending). FewLeft goals x r) (sym is) made.few;
        counts = made.counts;
      })

-- a refusal
pub turn_refused : (goals height left : ℕ) (overflow : Bool) (o : Outcome) (old : List ℕ) (x : Refusal) → o ≡ Err x
    → TurnTaken goals height left overflow o old old (Err x)
unfolding outcome_of
turn_refused goals height left overflow o old x was =
    subst (λ (y : Outcome). TurnTaken goals height left overflow y old old (Err x)) (sym was)
    (record { is = λ root cache pass next. refl; few = tt; counts = tt })

-- a turn is one of the definition's, with those after it
pub turn_is : (compute : Graph → graph.Outcome) (left pass : ℕ) (overflow : Bool) (g : Graph)
    → task.evaluate_goal_in_task compute left pass overflow g
    ≡ task.iteration left pass (next_turn compute left pass) overflow (compute g)
turn_is compute zero pass overflow g = refl
turn_is compute (suc left) pass overflow g = refl

pub next_is : (compute : Graph → graph.Outcome) (left pass : ℕ) → 0 < left
    → next_turn compute left pass ≡ task.evaluate_goal_in_task compute (left - 1) (suc pass)
next_is compute left pass some = let e : left ≡ suc (left - 1) = omega arith in ap (λ (n : ℕ). next_turn compute n pass) e
