-- stack.rs. The top of the stack comes first, so a frame's index is the number of frames under it.
use Rattle.std.specs.Prelude.{ℕ, suc, ◌-◌, ◌≡◌, Bool, true, false, List, [], ◌∷◌, eqb, length, take}
use Rattle.std.proofs.Math.Option.{Option, none, some}
use Rattle.definition.specs.declared.paths.PathKind.{PathKind}
use Rattle.definition.specs.declared.usages.HeadUsages.{HeadUsages}
use Rattle.definition.specs.declared.answers.Answer.{Answer}
use Rattle.definition.specs.Paths.{extend_all}
use Rattle.definition.specs.Steps.{StepCounts, count_steps}
use Rattle.definition.specs.Heads.{CycleHeads}
use Rattle.definition.specs.Nested.{NestedGoals}

-- StackEntry; `stepCounts` is document 02's, and nothing here reads it
pub record Frame : Type 0 where
  pub input : ℕ
  pub step_kind_from_parent : PathKind
  pub available_depth : ℕ
  pub min_reached_available_depth : ℕ
  pub provisional_result : Option Answer
  pub heads : CycleHeads
  pub encountered_overflow : Bool
  pub usages : Option HeadUsages
  pub candidate_usages : Option (List HeadUsages)
  pub nested_goals : NestedGoals
  pub step_counts : StepCounts

-- ---- a frame with one field that is another
abbrev pub with_reached : Frame → ℕ → Frame
with_reached f reached =
    record {
      input = f.input;
      step_kind_from_parent = f.step_kind_from_parent;
      available_depth = f.available_depth;
      min_reached_available_depth = reached;
      provisional_result = f.provisional_result;
      heads = f.heads;
      encountered_overflow = f.encountered_overflow;
      usages = f.usages;
      candidate_usages = f.candidate_usages;
      nested_goals = f.nested_goals;
      step_counts = f.step_counts;
    }

abbrev pub with_provisional_result : Frame → Option Answer → Frame
with_provisional_result f answer =
    record {
      input = f.input;
      step_kind_from_parent = f.step_kind_from_parent;
      available_depth = f.available_depth;
      min_reached_available_depth = f.min_reached_available_depth;
      provisional_result = answer;
      heads = f.heads;
      encountered_overflow = f.encountered_overflow;
      usages = f.usages;
      candidate_usages = f.candidate_usages;
      nested_goals = f.nested_goals;
      step_counts = f.step_counts;
    }

abbrev pub with_heads : Frame → CycleHeads → Frame
with_heads f hs =
    record {
      input = f.input;
      step_kind_from_parent = f.step_kind_from_parent;
      available_depth = f.available_depth;
      min_reached_available_depth = f.min_reached_available_depth;
      provisional_result = f.provisional_result;
      heads = hs;
      encountered_overflow = f.encountered_overflow;
      usages = f.usages;
      candidate_usages = f.candidate_usages;
      nested_goals = f.nested_goals;
      step_counts = f.step_counts;
    }

abbrev pub with_overflow : Frame → Bool → Frame
with_overflow f overflow =
    record {
      input = f.input;
      step_kind_from_parent = f.step_kind_from_parent;
      available_depth = f.available_depth;
      min_reached_available_depth = f.min_reached_available_depth;
      provisional_result = f.provisional_result;
      heads = f.heads;
      encountered_overflow = overflow;
      usages = f.usages;
      candidate_usages = f.candidate_usages;
      nested_goals = f.nested_goals;
      step_counts = f.step_counts;
    }

abbrev pub with_usages : Frame → Option HeadUsages → Frame
with_usages f u =
    record {
      input = f.input;
      step_kind_from_parent = f.step_kind_from_parent;
      available_depth = f.available_depth;
      min_reached_available_depth = f.min_reached_available_depth;
      provisional_result = f.provisional_result;
      heads = f.heads;
      encountered_overflow = f.encountered_overflow;
      usages = u;
      candidate_usages = f.candidate_usages;
      nested_goals = f.nested_goals;
      step_counts = f.step_counts;
    }

abbrev pub with_candidate_usages : Frame → Option (List HeadUsages) → Frame
with_candidate_usages f us =
    record {
      input = f.input;
      step_kind_from_parent = f.step_kind_from_parent;
      available_depth = f.available_depth;
      min_reached_available_depth = f.min_reached_available_depth;
      provisional_result = f.provisional_result;
      heads = f.heads;
      encountered_overflow = f.encountered_overflow;
      usages = f.usages;
      candidate_usages = us;
      nested_goals = f.nested_goals;
      step_counts = f.step_counts;
    }

abbrev pub with_nested_goals : Frame → NestedGoals → Frame
with_nested_goals f ns =
    record {
      input = f.input;
      step_kind_from_parent = f.step_kind_from_parent;
      available_depth = f.available_depth;
      min_reached_available_depth = f.min_reached_available_depth;
      provisional_result = f.provisional_result;
      heads = f.heads;
      encountered_overflow = f.encountered_overflow;
      usages = f.usages;
      candidate_usages = f.candidate_usages;
      nested_goals = ns;
      step_counts = f.step_counts;
    }

-- ---- what is read of frames

-- StackEntry::required_depth
abbrev pub required_depth_of : Frame → ℕ
required_depth_of f = f.available_depth - f.min_reached_available_depth

abbrev pub Stack : Type 0
Stack = List Frame

abbrev pub step_kinds : Stack → List PathKind
step_kinds [] = []
step_kinds (f ∷ fs) = f.step_kind_from_parent ∷ step_kinds fs

-- each frame holds how many steps of each kind lie at or below it
abbrev pub CountsTrue : Stack → Type 0
CountsTrue [] = Unit {0}
CountsTrue (f ∷ fs) = (f.step_counts ≡ count_steps (step_kinds (f ∷ fs))) × CountsTrue fs

-- the steps of the frames above a head
abbrev pub cycle_step_kinds : Stack → ℕ → List PathKind
cycle_step_kinds s head = step_kinds (take (length s - suc head) s)

-- cycle_path_kind of mod.rs; the head's own step is left out
abbrev pub cycle_path_kind : Stack → PathKind → ℕ → PathKind
cycle_path_kind s stepKindToHead head = extend_all stepKindToHead (cycle_step_kinds s head)

-- Stack::find, with the provisional result of the frame that it finds. The goals on a stack are distinct, so there is at most one
pub record OnStack : Type 0 where
  pub index : ℕ
  pub provisional_result : Option Answer

abbrev pub stack_find : Stack → ℕ → Option OnStack
stack_find [] input = none
stack_find (f ∷ fs) input =
    elim (eqb f.input input) [
      | true ↦ some (record { index = length fs; provisional_result = f.provisional_result })
      | false ↦ stack_find fs input
    ]
