-- What all lookups together come to, whatever a new frame is computed by.
use Rattle.std.specs.Prelude.{◌≡◌, Bool, List, ℕ, ◌<◌}
use Rattle.std.proofs.Math.Option.{none}
use Rattle.definition.specs.declared.paths.PathKind.{PathKind}
use Rattle.definition.specs.declared.format.Header.{Header}
use Rattle.definition.specs.Stack.{stack_find}
use Rattle.definition.specs.Graph.{Graph, Outcome}
use Rattle.definition.specs.Evaluate.{evaluate_at_depth, evaluate_goal_with}
use Rattle.layout.specs.Work.{stack_of, graph_of}
use Rattle.lookup.specs.declared.Found.{Found}
use Rattle.lookup.specs.declared.Found.TheVariants.{Push}
use Rattle.lookup.specs.Lookups.{found}

-- at a depth
pub record AnsweredAt (h : Header) (height n goal : ℕ) (step : PathKind) (available : ℕ) (cache old new : List ℕ) (r : Found) : Type 0 where
  pub is : (root : ℕ) (compute : ℕ → Graph → Outcome)
      → evaluate_at_depth h compute (graph_of h.goals root height n old cache) goal step available
      ≡ found h compute goal step r (graph_of h.goals root height n new cache)
  pub low : (d : ℕ) → r ≡ Push d → d < 256
  pub missed : (d : ℕ) → r ≡ Push d → new ≡ old
  pub off : (d : ℕ) → r ≡ Push d → stack_find (stack_of h.goals height old) goal ≡ none

-- at the depth that is allowed
pub record Answered (h : Header) (root height n goal : ℕ) (step : PathKind) (lower : Bool)
    (cache old new : List ℕ) (r : Found) : Type 0 where
  pub is : (compute : ℕ → Graph → Outcome)
      → evaluate_goal_with h compute (graph_of h.goals root height n old cache) goal step lower
      ≡ found h compute goal step r (graph_of h.goals root height n new cache)
  pub low : (d : ℕ) → r ≡ Push d → d < 256
  pub missed : (d : ℕ) → r ≡ Push d → new ≡ old
  pub off : (d : ℕ) → r ≡ Push d → stack_find (stack_of h.goals height old) goal ≡ none
