-- What specs/Always.antt says, on examples: a wrong version makes a fact of this file false.
use mathlib.Core.Bool.{Bool, false, true}
use mathlib.Core.List.{List, [], ◌++◌, ◌∷◌}
use mathlib.Core.Logic.{◌⊎◌, inl, inr}
use mathlib.Core.Option.{Option, none, some}
use mathlib.Core.Path.{◌≡◌, ap, refl, subst, sym}
use Prim.Native.Nat.{◌+◌, ◌<◌, ◌≤◌, suc, zero, ℕ}
use native.Mathlib.Omega.{arith}
use lib.Dec.{T}
use lib.ListN.{length, replicate}
use Rattle.definition.specs.Answers.{refusal_number}
use Rattle.definition.specs.CacheForm.{cache_length}
use Rattle.definition.specs.Evaluate.{compute_goal, evaluate_goal, new_frame}
use Rattle.definition.specs.GlobalCache.{overflow_slot, slot_at, slot_depth, slot_held, slots_per_goal}
use Rattle.definition.specs.Graph.{Done, Entry, EvaluationResult, Graph, Stopped, with_stack}
use Rattle.definition.specs.Heads.{CycleHeads}
use Rattle.definition.specs.Part.{Book}
use Rattle.definition.specs.Query.{evaluate_root, query}
use Rattle.definition.specs.Steps.{no_steps}
use Rattle.definition.specs.Stack.{Frame, Stack, stack_find}
use Rattle.definition.specs.Task.{Evaluated, TaskOutcome, TaskStopped, evaluate_goal_in_task}
use Rattle.definition.specs.Usages.{no_usages}
use Rattle.definition.specs.declared.answers.Answer.{Answer}
use Rattle.definition.specs.declared.answers.Answer.TheVariants.{No, Yes}
use Rattle.definition.specs.declared.heads.CycleHead.{CycleHead}
use Rattle.definition.specs.declared.paths.PathKind.{PathKind}
use Rattle.definition.specs.declared.paths.PathKind.TheVariants.{Inductive}
use Rattle.definition.specs.declared.replies.Refusal.{Refusal}
use Rattle.definition.specs.declared.replies.Refusal.TheVariants.{CacheConflict, ProvisionalCacheFull, Unreachable}
use Rattle.std.specs.Prelude.{Err}
use Rattle.definition.specs.declared.usages.HeadUsages.{HeadUsages}
use Rattle.soundness.specs.Always.{Always, CacheInOrder, Distinct, Ends, EntryInOrder, Every, Expected, FinishesFrame, Follows, FrameInOrder, FramesInOrder, HasHead, HeadsOn, InOrder, Keeps, Known, NeverUnreachable, Passes, goals_of}
use Rattle.soundness.proofs.SampleBooks.{book, header, workspace}

-- ---- the goals on a stack
goal_twice : Distinct (0 ∷ 1 ∷ 0 ∷ []) → ⊥
goal_twice d = d.0.1.0 refl

goal_twice_below : Distinct (2 ∷ 0 ∷ 0 ∷ []) → ⊥
goal_twice_below d = d.1.0.0 refl

distinct : Distinct (0 ∷ 1 ∷ [])
distinct = ((λ e. omega arith, tt), (tt, tt))

-- ---- states. Two goals, T 0; the frame of goal 1 stands on that of goal 0, which is a head of it
abbrev pub some_head : CycleHead
some_head = record { paths = 1; usages = no_usages }

abbrev head0 : CycleHeads
head0 = some some_head ∷ none ∷ []

abbrev pub head1 : CycleHeads
head1 = none ∷ some some_head ∷ []

abbrev no_head : CycleHeads
no_head = none ∷ none ∷ []

abbrev frame : ℕ → ℕ → ℕ → CycleHeads → Option HeadUsages → Frame
frame goal available reached heads usages =
    record {
      input = goal;
      step_kind_from_parent = Inductive;
      available_depth = available;
      min_reached_available_depth = reached;
      provisional_result = none;
      heads = heads;
      encountered_overflow = false;
      usages = usages;
      candidate_usages = none;
      nested_goals = 0 ∷ 0 ∷ [];
      step_counts = no_steps;
    }

abbrev bottom : Frame
bottom = frame 0 0 0 no_head (some no_usages)

abbrev top : Frame
top = frame 1 0 0 head0 none

abbrev pub entry : CycleHeads → Entry
entry heads = record { input = 1; encountered_overflow = false; heads = heads; path_from_head = Inductive; result = No }

abbrev graph : ℕ → Stack → List Entry → List ℕ → Graph
graph depth stack entries cache =
    record { root_depth = depth; stack = stack; provisional_cache = entries; global_cache = cache }

abbrev vacant : List ℕ
vacant = replicate 24 0

-- an entry of goal 1 that rests on goal 0
abbrev state : Graph
state = graph 0 (top ∷ bottom ∷ []) (entry head0 ∷ []) vacant

-- ---- heads
abbrev missing : {A : Type 0} → Option A → Bool
missing none = true
missing (some x) = false

pub not_there : {A : Type 0} (o : Option A) (x : A) → o ≡ some x → T (missing o) → ⊥
not_there o x e t = subst (λ o. T (missing o)) e t

none_there : (i : ℕ) → HasHead no_head i → ⊥
none_there zero h = not_there none h.0 h.1 tt
none_there (suc zero) h = not_there none h.0 h.1 tt
none_there (suc (suc i)) h = not_there none h.0 h.1 tt

one_there : (i : ℕ) → HasHead head0 i → i ≡ 0
one_there zero h = refl
one_there (suc zero) h = absurd (not_there none h.0 h.1 tt)
one_there (suc (suc i)) h = absurd (not_there none h.0 h.1 tt)

-- frame 1 is no head, and no frame above it has it among its heads
not_known : Known (frame 1 0 0 head1 none ∷ bottom ∷ []) 1 → ⊥
not_known (inl k) = not_there none k.1.0 k.1.1 tt
not_known (inr (inl k)) = omega (arith, k.0)
not_known (inr (inr (inl k))) = omega (arith, k.0)
not_known (inr (inr (inr (inl k)))) = omega (arith, k.0)
not_known (inr (inr (inr (inr k)))) = k

-- goal 0 is known as a head by the frame above it, and, alone on the stack, by its own usages
known_above : Known (top ∷ bottom ∷ []) 0
known_above = inr (inl (omega arith, (some_head, refl)))

known_itself : Known (bottom ∷ []) 0
known_itself = inl (refl, (no_usages, refl))

-- ---- a frame in order
goal_beyond : FrameInOrder (header 2 0) 1 (frame 2 0 0 head0 none) → ⊥
goal_beyond f = omega (arith, f.goal)

too_deep : FrameInOrder (header 2 0) 1 (frame 1 1 0 head0 none) → ⊥
too_deep f = omega (arith, f.depth)

reached_above : FrameInOrder (header 2 5) 1 (frame 1 3 4 head0 none) → ⊥
reached_above f = omega (arith, f.reached)

few_heads : FrameInOrder (header 2 0) 1 (frame 1 0 0 [] none) → ⊥
few_heads f = omega (arith, f.heads)

head_of_itself : FrameInOrder (header 2 0) 1 (frame 1 0 0 head1 none) → ⊥
head_of_itself f = omega (arith, f.below 1 (some_head, refl))

few_nested : FrameInOrder (header 3 0) 1 (frame 1 0 0 (none ∷ no_head) none) → ⊥
few_nested f = omega (arith, f.nested)

every_frame : FramesInOrder (header 2 0) (top ∷ frame 2 0 0 no_head none ∷ []) → ⊥
every_frame f = goal_beyond_below f.1.0
  where
    goal_beyond_below : FrameInOrder (header 2 0) 0 (frame 2 0 0 no_head none) → ⊥
    goal_beyond_below f = omega (arith, f.goal)

top_in_order : FrameInOrder (header 2 0) 1 top
top_in_order =
    record {
      goal = omega arith;
      depth = omega arith;
      reached = omega arith;
      heads = refl;
      below = λ i h. omega (arith, one_there i h);
      nested = refl;
    }

-- ---- an entry in order
entry_without_heads : EntryInOrder (header 2 0) (λ i. Unit {0}) (entry no_head) → ⊥
entry_without_heads e = none_there e.not_empty.0 e.not_empty.1

entry_of_unknown : EntryInOrder (header 2 0) (λ i. ⊥) (entry head0) → ⊥
entry_of_unknown e = e.known 0 (some_head, refl)

entry_of_few : EntryInOrder (header 3 0) (λ i. Unit {0}) (entry head0) → ⊥
entry_of_few e = omega (arith, e.heads)

every_entry : Every (EntryInOrder (header 2 0) (λ i. Unit {0})) (entry head0 ∷ entry no_head ∷ []) → ⊥
every_entry e = entry_without_heads e.1.0

entry_in_order : EntryInOrder (header 2 0) (Known (top ∷ bottom ∷ [])) (entry head0)
entry_in_order =
    record {
      heads = refl;
      known = λ i h. subst (Known (top ∷ bottom ∷ [])) (sym (one_there i h)) known_above;
      not_empty = (0, (some_head, refl));
    }

-- ---- a cache in order
short_cache : CacheInOrder (header 2 0) [] → ⊥
short_cache c = omega (arith, c.size)

-- one goal, T 5: the overflow slot of depth 2 says depth 4
abbrev wrong_depth : List ℕ
wrong_depth = replicate 15 0 ++ (1 ∷ 3 ∷ 4 ∷ 1 ∷ 0 ∷ replicate 15 0)

wrong_depth_lem : CacheInOrder (header 1 5) wrong_depth → ⊥
wrong_depth_lem c = omega (arith, c.depths 0 2 (omega arith) (omega arith) tt)

-- its success slot says 4, which is no answer
abbrev no_answer : List ℕ
no_answer = 1 ∷ 4 ∷ 0 ∷ 1 ∷ 0 ∷ replicate 30 0

no_answer_lem : CacheInOrder (header 1 5) no_answer → ⊥
no_answer_lem c = omega (arith, c.answers 0 0 (omega arith) (omega arith) tt)

-- its part was run 0 times, or twice, where L is 1
abbrev ran : ℕ → List ℕ
ran passes = 1 ∷ 1 ∷ 0 ∷ passes ∷ 0 ∷ replicate 30 0

never_run : CacheInOrder (header 1 5) (ran 0) → ⊥
never_run c = omega (arith, (c.passes 0 0 (omega arith) (omega arith) tt).once)

run_too_often : CacheInOrder (header 1 5) (ran 2) → ⊥
run_too_often c = omega (arith, (c.passes 0 0 (omega arith) (omega arith) tt).most)

vacant_slots : (goal k : ℕ) → goal < 2 → k ≤ 0
    → T (slot_held (slot_at (header 2 0) vacant goal (overflow_slot k)))
    → slot_depth (slot_at (header 2 0) vacant goal (overflow_slot k)) ≡ k
vacant_slots zero zero l m t = absurd t
vacant_slots zero (suc k) l m t = absurd (omega (arith, m))
vacant_slots (suc zero) zero l m t = absurd t
vacant_slots (suc zero) (suc k) l m t = absurd (omega (arith, m))
vacant_slots (suc (suc goal)) k l m t = absurd (omega (arith, l))

none_held : (goal slot : ℕ) → goal < 2 → slot < slots_per_goal (header 2 0)
    → T (slot_held (slot_at (header 2 0) vacant goal slot)) → ⊥
none_held zero zero l m t = t
none_held zero (suc zero) l m t = t
none_held zero (suc (suc slot)) l m t = omega (arith, m)
none_held (suc zero) zero l m t = t
none_held (suc zero) (suc zero) l m t = t
none_held (suc zero) (suc (suc slot)) l m t = omega (arith, m)
none_held (suc (suc goal)) slot l m t = omega (arith, l)

vacant_in_order : CacheInOrder (header 2 0) vacant
vacant_in_order =
    record {
      size = refl;
      answers = λ goal slot l m t. absurd (none_held goal slot l m t);
      depths = vacant_slots;
      passes = λ goal slot l m t. absurd (none_held goal slot l m t);
    }

-- ---- a state in order
root_too_deep : InOrder (header 2 0) (graph 1 [] [] vacant) → ⊥
root_too_deep o = omega (arith, o.root)

frame_out_of_order : InOrder (header 2 0) (graph 0 (frame 2 0 0 no_head none ∷ []) [] vacant) → ⊥
frame_out_of_order o = omega (arith, o.frames.0.goal)

goal_twice_on_stack : InOrder (header 2 0) (graph 0 (bottom ∷ bottom ∷ []) [] vacant) → ⊥
goal_twice_on_stack o = o.distinct.0.0 refl

entry_of_no_head : InOrder (header 2 0) (graph 0 (frame 1 0 0 head1 none ∷ bottom ∷ []) (entry head1 ∷ []) vacant) → ⊥
entry_of_no_head o = not_known (o.entries.0.known 1 (some_head, refl))

cache_out_of_order : InOrder (header 2 0) (graph 0 [] [] []) → ⊥
cache_out_of_order o = short_cache o.cache

too_many_entries : (e : Entry) → InOrder (header 2 0) (graph 0 [] (e ∷ e ∷ e ∷ e ∷ e ∷ []) vacant) → ⊥
too_many_entries e o = omega (arith, o.live)

state_in_order : InOrder (header 2 0) state
state_in_order =
    record {
      root = omega arith;
      frames = (
        top_in_order,
        (
          record {
            goal = omega arith;
            depth = omega arith;
            reached = omega arith;
            heads = refl;
            below = λ i h. absurd (none_there i h);
            nested = refl;
          },
          tt,
        ),
      );
      distinct = ((λ e. omega arith, tt), (tt, tt));
      entries = (entry_in_order, tt);
      live = omega arith;
      cache = vacant_in_order;
    }

-- ---- what an evaluation comes to
expected_only : (r : Refusal) → Expected r → (refusal_number r ≡ 10) ⊎ (refusal_number r ≡ 11)
expected_only r (inl e) = inl (ap refusal_number e)
expected_only r (inr e) = inr (ap refusal_number e)

not_expected : Expected Unreachable → ⊥
not_expected x = neither (expected_only Unreachable x)
  where
    neither : (refusal_number Unreachable ≡ 10) ⊎ (refusal_number Unreachable ≡ 11) → ⊥
    neither (inl e) = omega (arith, e)
    neither (inr e) = omega (arith, e)

expected : Expected ProvisionalCacheFull × Expected CacheConflict
expected = (inl refl, inr refl)

no_heads_on : HeadsOn 1 (entry no_head) → ⊥
no_heads_on e = none_there e.0.0 e.0.1

head_above : HeadsOn 1 (entry head1) → ⊥
head_above e = omega (arith, e.1 1 (some_head, refl))

heads_on : HeadsOn 1 (entry head0)
heads_on = ((0, (some_head, refl)), λ i h. omega (arith, one_there i h))

-- the state stays in order, with the same goals on the stack
kept : Keeps (header 2 0) state (Done state No)
kept = (state_in_order, refl)

another_stack : Keeps (header 2 0) state (Done (graph 0 (bottom ∷ []) [] vacant) No) → ⊥
another_stack k = omega (arith, ap length k.1)

out_of_order : Keeps (header 2 0) state (Done (graph 1 (top ∷ bottom ∷ []) [] vacant) No) → ⊥
out_of_order k = omega (arith, k.0.root)

stopped_unreachable : Keeps (header 2 0) state (Stopped Unreachable) → ⊥
stopped_unreachable = not_expected

-- the frame of goal 1 is finished and popped
abbrev finished : CycleHeads → ℕ → EvaluationResult
finished heads required =
    record { encountered_overflow = false; required_depth = required; heads = heads; nested_goals = 0 ∷ 0 ∷ []; result = No; passes = 1 }

abbrev after : CycleHeads → Graph
after heads = graph 0 (bottom ∷ []) (entry heads ∷ []) vacant

finishes : FinishesFrame (bottom ∷ []) 0 (Evaluated (after head0) (finished head0 0))
finishes =
    record {
      stack = refl;
      entries = (heads_on, tt);
      heads = λ i h. omega (arith, one_there i h);
      required = omega arith;
    }

not_popped : FinishesFrame (bottom ∷ []) 0 (Evaluated state (finished head0 0)) → ⊥
not_popped f = omega (arith, ap length f.stack)

entry_left_above : FinishesFrame (bottom ∷ []) 0 (Evaluated (after head1) (finished head0 0)) → ⊥
entry_left_above f = head_above f.entries.0

result_of_itself : FinishesFrame (bottom ∷ []) 0 (Evaluated (after head0) (finished head1 0)) → ⊥
result_of_itself f = omega (arith, f.heads 1 (some_head, refl))

too_much_required : FinishesFrame (bottom ∷ []) 0 (Evaluated (after head0) (finished head0 1)) → ⊥
too_much_required f = omega (arith, f.required)

task_unreachable : FinishesFrame (bottom ∷ []) 0 (TaskStopped Unreachable) → ⊥
task_unreachable = not_expected

-- nothing is left at the end
ends : Ends (Done (graph 0 [] [] vacant) Yes)
ends = (refl, refl)

frame_left : Ends (Done (graph 0 (bottom ∷ []) [] vacant) Yes) → ⊥
frame_left e = omega (arith, ap length e.0)

entry_left : Ends (Done (graph 0 [] (entry head0 ∷ []) vacant) Yes) → ⊥
entry_left e = omega (arith, ap length e.1)

ends_unreachable : Ends (Stopped Unreachable) → ⊥
ends_unreachable = not_expected

-- ---- the claims, in plain words
passes : Passes (book Inductive) (replicate 35 0) workspace 0 5
passes = refl

module _ (b : Book) (always : Always b) where
  module _ (cache work : List ℕ) (goal depth : ℕ) (p : Passes b cache work goal depth) where
    root_of_a_query : (depth ≤ b.header.top) × (length cache ≡ cache_length b.header)
    root_of_a_query = let o = always.starts cache work goal depth p in (o.root, o.cache.size)

    refused_by_two : (r : Refusal) → evaluate_root b cache goal depth ≡ Stopped r
        → (refusal_number r ≡ 10) ⊎ (refusal_number r ≡ 11)
    refused_by_two r e = expected_only r (subst Ends e (always.ends cache work goal depth p))

    nothing_left : (g : Graph) (a : Answer) → evaluate_root b cache goal depth ≡ Done g a
        → (length g.stack ≡ 0) × (length g.provisional_cache ≡ 0)
    nothing_left g a e =
        let n = subst Ends e (always.ends cache work goal depth p) in (ap length n.0, ap length n.1)

  module _ (off : ℕ) (g : Graph) (goal : ℕ) (step : PathKind) (o : InOrder b.header g)
      (l : goal < b.header.goals) where
    same_goals : length g.stack + off ≡ b.header.goals → (lower : Bool) (g' : Graph) (a : Answer)
        → evaluate_goal b off g goal step lower ≡ Done g' a → goals_of g'.stack ≡ goals_of g.stack
    same_goals n lower g' a e = (subst (Keeps b.header g) e (always.keeps off g goal step lower o n l)).1

    -- the outcome of the goal's own frame
    abbrev task : ℕ → ℕ → TaskOutcome
    task left available =
        evaluate_goal_in_task (compute_goal (evaluate_goal b off) b goal) left 1 false
        (with_stack g (new_frame b.header.goals goal step available g.stack ∷ g.stack))

    popped_again : length g.stack + suc off ≡ b.header.goals → (left available : ℕ) → available ≤ b.header.top
        → stack_find g.stack goal ≡ none → (g' : Graph) (r : EvaluationResult)
        → task left available ≡ Evaluated g' r → (g'.stack ≡ g.stack) × (r.required_depth ≤ available)
    popped_again n left available m f g' r e =
        let k = subst (FinishesFrame g.stack available) e (always.finishes off left g goal step available o n l m f) in
        (k.stack, k.required)

-- ---- what follows of a state in order
orphan : Follows (header 2 0) (graph 0 (bottom ∷ []) (entry head1 ∷ []) vacant) → ⊥
orphan f = head_above f.entries.0

entry_on_empty_stack : Follows (header 2 0) (graph 0 [] (entry head0 ∷ []) vacant) → ⊥
entry_on_empty_stack f = omega (arith, ap length (f.no_entry refl))

full_stack_without : Follows (header 1 0) (graph 0 (top ∷ []) [] vacant) → ⊥
full_stack_without f = f.found 0 (omega arith) refl refl

hit_too_deep : Follows (header 1 5) (graph 5 [] [] wrong_depth) → ⊥
hit_too_deep f = omega (arith, f.hit 0 2 (λ nested. true) _ (omega arith) (omega arith) refl)

-- ---- no query comes to an unreachable branch
of_all_bytes : NeverUnreachable → (bytes cache work : List ℕ) (goal depth : ℕ)
    → (query bytes cache work goal depth).response ≡ Err Unreachable → ⊥
of_all_bytes never bytes cache work goal depth e = never bytes cache work goal depth e
