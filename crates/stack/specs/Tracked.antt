-- The usages of the candidate that a frame tracks, and usages that are taken from a frame.
use Rattle.std.specs.Prelude.{ℕ, List, [], ◌∷◌}
use Rattle.definition.specs.declared.usages.HeadUsages.{HeadUsages}
use Rattle.definition.specs.Heads.{ignore_at_heads}
use Rattle.definition.specs.Stack.{Frame, with_heads, with_usages}
use Rattle.definition.specs.Candidates.{candidate_usages_of, ignore_own_usages}
use Rattle.layout.specs.AtIndex.{ignore_at}

-- the usages of the candidate that a frame tracks; none where it tracks none
abbrev pub tracked_of : ℕ → Frame → List HeadUsages
tracked_of goals f = candidate_usages_of goals (f ∷ [])

-- usages are taken from the head at index i, from every head, from the frame's own
abbrev pub ignore_head_at : ℕ → HeadUsages → Frame → Frame
ignore_head_at i u f = with_heads f (ignore_at i u f.heads)

abbrev pub ignore_heads : List HeadUsages → Frame → Frame
ignore_heads us f = with_heads f (ignore_at_heads f.heads us)

abbrev pub ignore_own : HeadUsages → Frame → Frame
ignore_own u f = with_usages f (ignore_own_usages f.usages u)
