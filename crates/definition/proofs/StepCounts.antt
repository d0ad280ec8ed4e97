-- The counts of steps are true after push, pop and rerun, and wherever the skeleton is one whose counts are true: so
-- after every evaluation.
use Prim.Native.Nat.{ℕ}
use mathlib.Core.Path.{◌≡◌, refl, sym, ap, ◌∙◌, subst}
use mathlib.Core.Bool.{Bool}
use mathlib.Core.List.{List, [], ◌∷◌}
use Rattle.definition.specs.declared.paths.PathKind.{PathKind}
use Rattle.definition.specs.declared.answers.Answer.{Answer}
use Rattle.definition.specs.Heads.{CycleHeads}
use Rattle.definition.specs.Steps.{count_steps}
use Rattle.definition.specs.Stack.{Frame, Stack, step_kinds, CountsTrue}
use Rattle.definition.specs.Parent.{UpdateParentGoalCtxt, update_parent_goal}
use Rattle.definition.specs.Part.{Book}
use Rattle.definition.specs.Graph.{Graph, Outcome, Done, Stopped}
use Rattle.definition.specs.Task.{rerun_frame}
use Rattle.definition.specs.Evaluate.{new_frame, evaluate_goal}
use Rattle.definition.proofs.Skeleton.{skeleton, Kept, skeleton_kept}

pub push_counted : (s : Stack) (goals input : ℕ) (step : PathKind) (available : ℕ)
    → CountsTrue s → CountsTrue (new_frame goals input step available s ∷ s)
push_counted s goals input step available c = (refl, c)

pub pop_counted : (f : Frame) (s : Stack) → CountsTrue (f ∷ s) → CountsTrue s
pop_counted f s c = c.1

pub rerun_counted : (f : Frame) (s : Stack) (a : Answer) → CountsTrue (f ∷ s) → CountsTrue (rerun_frame f a ∷ s)
rerun_counted f s a c = c

pub update_counted : (s : Stack) (step : PathKind) (hs : CycleHeads) (overflow : Bool)
    (ctxt : UpdateParentGoalCtxt) (reached : ℕ)
    → CountsTrue s → CountsTrue (update_parent_goal s step hs overflow ctxt reached)
update_counted [] step hs overflow ctxt reached c = c
update_counted (f ∷ fs) step hs overflow ctxt reached c = c

-- ---- the counts of a stack are those of its skeleton
same_kinds : (s : Stack) → step_kinds (skeleton s) ≡ step_kinds s
same_kinds [] = refl
same_kinds (f ∷ fs) = ap (λ (ks : List PathKind). f.step_kind_from_parent ∷ ks) (same_kinds fs)

counted_skeleton : (s : Stack) → CountsTrue s → CountsTrue (skeleton s)
counted_skeleton [] c = tt
counted_skeleton (f ∷ fs) c = (c.0 ∙ sym (ap count_steps (same_kinds (f ∷ fs))), counted_skeleton fs c.1)

skeleton_counted : (s : Stack) → CountsTrue (skeleton s) → CountsTrue s
skeleton_counted [] c = tt
skeleton_counted (f ∷ fs) c = (c.0 ∙ ap count_steps (same_kinds (f ∷ fs)), skeleton_counted fs c.1)

-- so they are true of every stack with a skeleton of which they are true
pub same_counted : (old new : Stack) → skeleton new ≡ skeleton old → CountsTrue old → CountsTrue new
same_counted old new e c = skeleton_counted new (subst CountsTrue (sym e) (counted_skeleton old c))

-- every evaluation keeps the counts true: the graph that is left, if one is, has true counts
abbrev Counted : Outcome → Type 0
Counted (Done g a) = CountsTrue g.stack
Counted (Stopped r) = Unit {0}

pub counts_kept : (b : Book) (off : ℕ) (g : Graph) (goal : ℕ) (step : PathKind) (lower : Bool) → CountsTrue g.stack
    → Counted (evaluate_goal b off g goal step lower)
counts_kept b off g goal step lower c =
    by (evaluate_goal b off g goal step lower) (skeleton_kept b off (skeleton g.stack) g goal step lower refl)
  where
    by : (o : Outcome) → Kept (skeleton g.stack) o → Counted o
    by (Done g1 a) e = same_counted g.stack g1.stack e c
    by (Stopped r) e = tt
