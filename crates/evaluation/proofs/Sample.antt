-- What outcomes and bytes stand for, on an example: a wrong version of specs/ makes a fact of this file false.
use mathlib.Core.Path.{◌≡◌, refl}
use mathlib.Core.Bool.{Bool, false, true}
use mathlib.Core.List.{List, [], ◌++◌, ◌∷◌}
use Prim.Native.Nat.{ℕ, ◌-◌}
use Rattle.std.specs.Prelude.{Ok, Err}
use native.Mathlib.Omega.{arith}
use lib.ListN.{length, replicate}
use Rattle.definition.specs.declared.answers.Answer.{Answer}
use Rattle.definition.specs.declared.answers.Answer.TheVariants.{No, Yes}
use Rattle.definition.specs.declared.replies.Refusal.{Refusal}
use Rattle.definition.specs.Graph.{Graph, finalize}
use Rattle.definition.specs.Graph as graph
use Rattle.definition.specs.Task as task
use Rattle.buffer.specs.Tables.{list_up}
use Rattle.layout.specs.Entry.{entry_of}
use Rattle.layout.specs.Frame.{frame_of}
use Rattle.layout.specs.Work.{entries_from, stack_of}
use Rattle.evaluation.specs.Outcomes.{TaskOutcome, done, FewEntries, FewTaskEntries, outcome_of, ran_of, task_outcome_of}
use Rattle.evaluation.specs.Workspace.{WorkBytes, graph_in}

-- ---- the graph's bytes for two goals: two frames of 196 bytes and four entries of 78
abbrev padded : ℕ → List ℕ → List ℕ
padded n xs = xs ++ replicate (n - length xs) 0

abbrev bottom : List ℕ
bottom = padded 196 (0 ∷ 0 ∷ 5 ∷ 5 ∷ [])

abbrev top : List ℕ
top = padded 196 (1 ∷ 2 ∷ 4 ∷ 3 ∷ [])

abbrev first : List ℕ
first = padded 78 (1 ∷ 0 ∷ 2 ∷ 1 ∷ [])

abbrev second : List ℕ
second = padded 78 (0 ∷ 1 ∷ 0 ∷ 0 ∷ [])

abbrev bytes : List ℕ
bytes = bottom ++ (top ++ (first ++ (second ++ replicate 156 0)))

-- a goal's iterations came to an answer
abbrev ran : Answer → Bool → ℕ → ℕ → TaskOutcome
ran answer overflow entries passes =
    Ok (record { evaluated = record { answer = answer; overflow = overflow; entries = entries }; passes = passes })

-- ---- with one frame on the stack, root depth 9 and two entries
module _ (cache : List ℕ) where
  abbrev held : Graph
  held =
      record {
        root_depth = 9;
        stack = frame_of 2 bottom ∷ [];
        provisional_cache = entry_of 2 first ∷ entry_of 2 second ∷ [];
        global_cache = cache;
      }

  done_is : outcome_of 2 9 1 bytes cache (done Yes 2) ≡ graph.Done held Yes
  unfolding outcome_of stack_of entries_from list_up
  done_is = refl

  -- the frame that was popped stands above it
  evaluated_is : task_outcome_of 2 9 1 bytes cache (ran No true 2 3)
      ≡ task.Evaluated held (finalize (frame_of 2 top) true No 3)
  unfolding ran_of stack_of entries_from list_up
  evaluated_is = refl

  stopped_is : (r : Refusal) → (outcome_of 2 9 1 bytes cache (Err r) ≡ graph.Stopped r)
      × (task_outcome_of 2 9 1 bytes cache (Err r) ≡ task.TaskStopped r)
  unfolding outcome_of
  stopped_is r = (refl, refl)

-- ---- there is room for four entries
one_too_many : FewEntries 2 (done Yes 5) → ⊥
one_too_many h = omega (arith, h)

one_too_many_evaluated : FewTaskEntries 2 (ran Yes false 5 1) → ⊥
one_too_many_evaluated h = omega (arith, h.0)

-- a byte holds how often the part was run
one_run_too_many : FewTaskEntries 2 (ran Yes false 4 256) → ⊥
one_run_too_many h = omega (arith, h.1)

few : FewEntries 2 (done Yes 4) × FewTaskEntries 2 (ran Yes false 4 255)
few = (omega arith, (omega arith, omega arith))

-- ---- the workspace: the graph, and two blocks of 72 bytes
abbrev work : List ℕ
work = bytes ++ replicate 144 7

graph_alone : WorkBytes 2 bytes → ⊥
graph_alone w = omega (arith, w.long)

no_goals_lem : (xs : List ℕ) → WorkBytes 0 xs → ⊥
no_goals_lem xs w = omega (arith, w.some)

many_goals : (xs : List ℕ) → WorkBytes 65 xs → ⊥
many_goals xs w = omega (arith, w.few)

work_bytes : WorkBytes 2 work
work_bytes = record { some = omega arith; few = omega arith; long = refl }

graph_is : graph_in 2 work ≡ bytes
unfolding graph_in
graph_is = refl
