-- `update_parent_goal` and `handle_overflow` of mod.rs.
use Rattle.std.specs.Prelude.{ℕ, min, Bool, true, false, not, ◌||◌, List, [], ◌∷◌, length, get_or, take}
use Rattle.std.proofs.Math.Option.{Option, none, some}
use Rattle.definition.specs.declared.paths.PathKind.{PathKind}
use Rattle.definition.specs.declared.usages.HeadUsages.{HeadUsages}
use Rattle.definition.specs.declared.heads.CycleHead.{CycleHead}
use Rattle.definition.specs.Paths.{extend_with, flag_of, empty_path}
use Rattle.definition.specs.Usages.{no_usages, add_usages_from_nested}
use Rattle.definition.specs.Heads.{CycleHeads, join_head, for_each_head}
use Rattle.definition.specs.Nested.{NestedGoals, nested_empty, insert_nested, extend_from_child}
use Rattle.definition.specs.Stack.{Frame, with_reached, with_heads, with_overflow, with_usages, with_candidate_usages, with_nested_goals, Stack}

pub data UpdateParentGoalCtxt : Type 0 where
  Ordinary : NestedGoals → UpdateParentGoalCtxt
  CycleOnStack : ℕ → UpdateParentGoalCtxt
  ProvisionalCacheHit : UpdateParentGoalCtxt

-- a candidate's usages gain at most 1 of each kind at each head, new or known
abbrev pub track_usages : List HeadUsages → CycleHeads → List HeadUsages
track_usages [] cs = []
track_usages (u ∷ us) [] = u ∷ us
track_usages (u ∷ us) (none ∷ cs) = u ∷ track_usages us cs
track_usages (u ∷ us) (some c ∷ cs) = add_usages_from_nested u c.usages ∷ track_usages us cs

abbrev pub add_to_candidate : Option (List HeadUsages) → CycleHeads → Option (List HeadUsages)
add_to_candidate none cs = none
add_to_candidate (some us) cs = some (track_usages us cs)

abbrev pub or_no_usages : Option HeadUsages → HeadUsages
or_no_usages none = no_usages
or_no_usages (some u) = u

-- the frame's own usages gain at most 1 of each kind
abbrev pub add_to_usages : Option HeadUsages → Option CycleHead → Option HeadUsages
add_to_usages u none = u
add_to_usages u (some c) = some (add_usages_from_nested (or_no_usages u) c.usages)

abbrev pub join_child : PathKind → CycleHead → Option CycleHead → CycleHead
join_child step c h = join_head h (extend_with c.paths step) c.usages

-- the loop over the child's heads, for the parent at index `own`
abbrev pub add_heads : PathKind → ℕ → CycleHeads → Frame → Frame
add_heads step own cs f =
    with_candidate_usages
    (with_usages
    (with_heads f (for_each_head (join_child step) f.heads (take own cs)))
    (add_to_usages f.usages (get_or cs own none)))
    (add_to_candidate f.candidate_usages cs)

abbrev pub add_nested : UpdateParentGoalCtxt → PathKind → NestedGoals → NestedGoals
add_nested (Ordinary nested) step own = extend_from_child own step nested
add_nested (CycleOnStack head) step own = insert_nested own head (flag_of step)
add_nested ProvisionalCacheHit step own = own

abbrev pub depends_on_cycle : UpdateParentGoalCtxt → Bool
depends_on_cycle (Ordinary nested) = not (nested_empty nested)
depends_on_cycle (CycleOnStack head) = true
depends_on_cycle ProvisionalCacheHit = true

-- the nested goals after the child: the parent itself is among them once it depends on a cycle
abbrev pub nested_after : UpdateParentGoalCtxt → PathKind → ℕ → NestedGoals → NestedGoals
nested_after ctxt step input own =
    elim (depends_on_cycle ctxt) [
      | true ↦ insert_nested (add_nested ctxt step own) input empty_path
      | false ↦ add_nested ctxt step own
    ]

-- beside the heads: overflow, the depth reached, the nested goals
abbrev pub add_rest : PathKind → Bool → UpdateParentGoalCtxt → ℕ → Frame → Frame
add_rest step overflow ctxt reached f =
    with_nested_goals
    (with_overflow
    (with_reached f (min f.min_reached_available_depth reached))
    (f.encountered_overflow || overflow))
    (nested_after ctxt step f.input f.nested_goals)

abbrev pub update_parent_goal : Stack → PathKind → CycleHeads → Bool → UpdateParentGoalCtxt → ℕ → Stack
update_parent_goal [] step hs overflow ctxt reached = []
update_parent_goal (f ∷ fs) step hs overflow ctxt reached =
    add_rest step overflow ctxt reached (add_heads step (length fs) hs f) ∷ fs

abbrev pub mark_overflow : Frame → Frame
mark_overflow f = with_nested_goals (with_overflow f true) (insert_nested f.nested_goals f.input empty_path)

abbrev pub handle_overflow : Stack → Stack
handle_overflow [] = []
handle_overflow (f ∷ fs) = mark_overflow f ∷ fs
