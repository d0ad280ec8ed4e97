-- What each function between the calls says of the workspace, once the graph that was lent is back.
use mathlib.Core.Path.{◌≡◌, sym, ap, ◌∙◌, subst}
use mathlib.Core.Bool.{Bool}
use mathlib.Core.Option.{none}
use mathlib.Core.List.{List, ◌∷◌}
use Prim.Native.Nat.{ℕ, ◌+◌, ◌≤◌}
use lib.ListN.{length}
use Rattle.definition.specs.declared.paths.PathKind.{PathKind}
use Rattle.definition.specs.declared.format.Header.{Header}
use Rattle.definition.specs.Stack.{Stack, CountsTrue, stack_find}
use Rattle.definition.specs.Evaluate.{evaluate_goal_with, new_frame, after_task}
use Rattle.layout.specs.Work.{graph_length, stack_of, entries_of, graph_of}
use Rattle.stack.specs.Bytes.{StackBytes}
use Rattle.definition.specs.Task.{iteration}
use Rattle.stack.proofs.Parts.{part, returned}
use Rattle.std.specs.Prelude.{Result, IfOk}
use Rattle.definition.specs.declared.replies.Refusal.{Refusal}
use Rattle.evaluation.specs.Workspace.{WorkBytes, graph_in, stack_in}
use Rattle.evaluation.specs.Outcomes.{Outcome, TaskOutcome, outcome_of, task_outcome_of}
use Rattle.evaluation.proofs.Lent.{lent_bytes, lent_graph, graph_back, merged_back}
use Rattle.lookup.specs.declared.Found.{Found}
use Rattle.lookup.specs.Lookups.{found}
use Rattle.lookup.specs.Answers.{Answered}
use Rattle.task.specs.declared.Iteration.{Iteration}
use Rattle.task.specs.Turns.{taken, CountsTurned}
use Rattle.task.specs.Iterations.{TurnTaken}
use Rattle.task.specs.Results as results
use Rattle.search_graph.specs.Between.{LookedUp, Pushed, IterationEnded, Finished}

-- what is so of the stack of a workspace is so where its graph is lent
pub lent_stack : (goals : ℕ) (work : List ℕ) (n : ℕ) → WorkBytes goals work → n ≡ graph_length goals
    → (P : Stack → Type 0) (height : ℕ)
    → P (stack_in goals height work) → P (stack_of goals height (part work 0 n))
lent_stack goals work n w is P height c = subst (λ (bs : List ℕ). P (stack_of goals height bs))
    (sym (lent_graph goals work w n is)) c

pub lent_frames : (goals : ℕ) (work : List ℕ) (n : ℕ) → WorkBytes goals work → n ≡ graph_length goals → (height : ℕ)
    → height ≤ goals → CountsTrue (stack_in goals height work) → StackBytes goals height (part work 0 n)
lent_frames goals work n w is height le c =
    record {
      bytes = lent_bytes goals work w n is;
      high = le;
      counts = lent_stack goals work n w is CountsTrue height c;
    }

module _
    (h : Header) (work : List ℕ) (n : ℕ) (w : WorkBytes h.goals work) (is : n ≡ graph_length h.goals)
    (ys : List ℕ) (kept : length ys ≡ length (part work 0 n))
  where
    pub looked_up : (root height m goal : ℕ) (step : PathKind) (lower : Bool) (cache : List ℕ) (r : Found)
        → Answered h root height m goal step lower cache (part work 0 n) ys r
        → LookedUp h root height m goal step lower work (returned work 0 n ys) cache r
    looked_up root height m goal step lower cache r answered =
        record {
          is = λ compute.
              ap (λ (bs : List ℕ). evaluate_goal_with h compute (graph_of h.goals root height m bs cache) goal step lower)
              (sym (lent_graph h.goals work w n is))
              ∙ answered.is compute
              ∙ ap (λ (bs : List ℕ). found h compute goal step r (graph_of h.goals root height m bs cache))
              (sym (graph_back h.goals work w n is ys kept));
          low = answered.low;
          missed = λ d e. graph_back h.goals work w n is ys kept ∙ answered.missed d e
              ∙ lent_graph h.goals work w n is;
          off = λ d e. subst (λ (bs : List ℕ). stack_find (stack_of h.goals height bs) goal ≡ none)
              (lent_graph h.goals work w n is) (answered.off d e);
          merged = merged_back h.goals work w n is ys kept;
        }

    pub finished : (height goal : ℕ) (step : PathKind) (available : ℕ) (o : TaskOutcome) (cache cache_after : List ℕ) (r : Outcome)
        → results.Finished h height goal step available o cache cache_after (part work 0 n) ys r
        → Finished h height goal step available o work (returned work 0 n ys) cache cache_after r
    finished height goal step available o cache cache_after r made =
        record {
          is = λ root.
              ap (λ (bs : List ℕ). outcome_of h.goals root height bs cache_after r) (graph_back h.goals work w n is ys kept)
              ∙ made.is root
              ∙ ap (λ (bs : List ℕ). after_task h goal step available
              (task_outcome_of h.goals root height bs cache o))
              (lent_graph h.goals work w n is);
          few = made.few;
          merged = merged_back h.goals work w n is ys kept;
        }

module _
    (goals : ℕ) (work : List ℕ) (n : ℕ) (w : WorkBytes goals work) (is : n ≡ graph_length goals)
    (ys : List ℕ) (kept : length ys ≡ length (part work 0 n))
  where
    pub pushed : (height goal : ℕ) (step : PathKind) (available : ℕ)
        → stack_of goals (height + 1) ys
        ≡ new_frame goals goal step available (stack_of goals height (part work 0 n))
        ∷ stack_of goals height (part work 0 n)
        → ((m : ℕ) → entries_of goals m ys ≡ entries_of goals m (part work 0 n))
        → Pushed goals height goal step available work (returned work 0 n ys)
    pushed height goal step available es ee =
        let b = graph_back goals work w n is ys kept in
        let l = lent_graph goals work w n is in
        record {
          is = λ root m cache.
              let s : stack_of goals (height + 1) (graph_in goals (returned work 0 n ys))
              ≡ new_frame goals goal step available (stack_in goals height work) ∷ stack_in goals height work =
              ap (stack_of goals (height + 1)) b ∙ es
              ∙ ap (λ (bs : List ℕ). new_frame goals goal step available (stack_of goals height bs)
              ∷ stack_of goals height bs) l in
              let t : entries_of goals m (graph_in goals (returned work 0 n ys)) ≡ entries_of goals m (graph_in goals work) =
              ap (entries_of goals m) b ∙ ee m ∙ ap (entries_of goals m) l in
              λ j. record { root_depth = root; stack = s j; provisional_cache = t j; global_cache = cache };
          merged = merged_back goals work w n is ys kept;
        }

    pub iteration_ended : (height left : ℕ) (overflow : Bool) (o : Outcome) (r : Result Iteration Refusal)
        → TurnTaken goals height left overflow o (part work 0 n) ys r
        → IterationEnded goals height left overflow o work (returned work 0 n ys) r
    iteration_ended height left overflow o r made =
        record {
          is = λ root cache pass next.
              ap (λ (bs : List ℕ). iteration left pass next overflow (outcome_of goals root height bs cache o)) (sym (lent_graph goals work w n is))
              ∙ made.is root cache pass next
              ∙ ap (λ (bs : List ℕ). taken goals root height pass next bs cache r) (sym (graph_back goals work w n is ys kept));
          few = made.few;
          counts = subst (λ (bs : List ℕ). IfOk r (CountsTurned (stack_of goals height bs)))
              (sym (graph_back goals work w n is ys kept)) made.counts;
          merged = merged_back goals work w n is ys kept;
        }
