-- What a nested goal, the child, does to its parent's frame.
use Rattle.std.specs.Prelude.{ℕ, min, Bool, true, false, ◌||◌, List, ◌≡◌, ◌≢◌, eqb, ltb, get_or}
use Rattle.std.proofs.Math.Option.{Option, none, some}
use Rattle.definition.specs.declared.paths.PathKind.{PathKind}
use Rattle.definition.specs.declared.usages.HeadUsages.{HeadUsages}
use Rattle.definition.specs.declared.heads.CycleHead.{CycleHead}
use Rattle.definition.specs.Paths.{flag_of, extend_with, empty_path}
use Rattle.definition.specs.Usages.{one_usage, add_usages_from_nested}
use Rattle.definition.specs.Heads.{CycleHeads, insert_head}
use Rattle.definition.specs.Nested.{NestedGoals, insert_nested, extend_from_child}
use Rattle.definition.specs.Stack.{Frame, with_reached, with_heads, with_overflow, with_usages, with_candidate_usages, with_nested_goals}
use Rattle.definition.specs.Parent.{or_no_usages}
use Rattle.buffer.specs.Regions.{region}
use Rattle.layout.specs.Blocks.{usages_size, usages_of}
use Rattle.layout.specs.Frame.{frame_is_head, usages_start, frame_of}
use Rattle.layout.specs.AtIndex.{add_from_nested_at}

-- the usages of a candidate, where one is tracked, with those of a nested goal at index i
abbrev pub tracked_at : Option (List HeadUsages) → ℕ → HeadUsages → Option (List HeadUsages)
tracked_at none i u = none
tracked_at (some us) i u = some (add_from_nested_at us i u)

-- the head c of the child, one step further
abbrev pub joined : PathKind → ℕ → CycleHead → CycleHeads → CycleHeads
joined step i c hs = insert_head hs i (extend_with c.paths step) c.usages

abbrev pub used : HeadUsages → Option HeadUsages → Option HeadUsages
used u before = some (add_usages_from_nested (or_no_usages before) u)

-- each of them on a frame
abbrev pub track_at : ℕ → HeadUsages → Frame → Frame
track_at i u f = with_candidate_usages f (tracked_at f.candidate_usages i u)

abbrev pub join_used : ℕ → ℕ → HeadUsages → Frame → Frame
join_used i paths u f = with_heads f (insert_head f.heads i paths u)

abbrev pub use_own : HeadUsages → Frame → Frame
use_own u f = with_usages f (used u f.usages)

-- a head at index i, reached by paths and used, for the parent at index `own`
abbrev pub use_at : ℕ → ℕ → ℕ → HeadUsages → Frame → Frame
use_at own i paths u f =
    with_candidate_usages
    (with_usages
    (with_heads f (elim (ltb i own) [ true ↦ insert_head f.heads i paths u | false ↦ f.heads ]))
    (elim (eqb i own) [ true ↦ used u f.usages | false ↦ f.usages ]))
    (tracked_at f.candidate_usages i u)

-- the head c of the child, at index i, one step further
abbrev pub add_head_at : PathKind → ℕ → ℕ → CycleHead → Frame → Frame
add_head_at step own i c f = use_at own i (extend_with c.paths step) c.usages f

-- the head of a cycle: reached by the last step alone, and used once, in the kind of the whole cycle
abbrev pub cycle_head : PathKind → PathKind → CycleHead
cycle_head step kind = record { paths = flag_of step; usages = one_usage kind }

-- the frame is a head: its usages stand in its bytes, and nothing else is another
pub record HeadBegun (goals : ℕ) (old new : List ℕ) : Type 0 where
  pub marked : get_or new frame_is_head 0 ≢ 0
  pub usages : usages_of (region usages_start usages_size new) ≡ or_no_usages (frame_of goals old).usages
  pub others : (u : Option HeadUsages) → with_usages (frame_of goals new) u ≡ with_usages (frame_of goals old) u

-- overflow, and the depth reached
abbrev pub reach_frame : Bool → ℕ → Frame → Frame
reach_frame overflow reached f =
    with_overflow (with_reached f (min f.min_reached_available_depth reached)) (f.encountered_overflow || overflow)

-- paths to a nested goal, to the frame's own goal, and to the nested goals of the child
abbrev pub insert_goal : ℕ → ℕ → Frame → Frame
insert_goal goal paths f = with_nested_goals f (insert_nested f.nested_goals goal paths)

abbrev pub insert_own : Frame → Frame
insert_own f = insert_goal f.input empty_path f

abbrev pub extend_nested : PathKind → NestedGoals → Frame → Frame
extend_nested step child f = with_nested_goals f (extend_from_child f.nested_goals step child)

-- the rest after a goal whose nested goals are among the frame's already; `none`: it has none
abbrev pub finish_nested : Bool → Bool → ℕ → Frame → Frame
finish_nested overflow true reached f = reach_frame overflow reached f
finish_nested overflow false reached f = insert_own (reach_frame overflow reached f)
