-- A graph whose parent, the top of the lowest `height` frames, was updated after a nested goal.
use Rattle.std.specs.Prelude.{◌≡◌, Bool, List, ℕ, ◌+◌, ◌≤◌, length}
use Rattle.definition.specs.declared.paths.PathKind.{PathKind}
use Rattle.definition.specs.Heads.{CycleHeads}
use Rattle.definition.specs.Nested.{NestedGoals, nested_empty}
use Rattle.definition.specs.Parent.{UpdateParentGoalCtxt, update_parent_goal}
use Rattle.buffer.specs.Regions.{region}
use Rattle.layout.specs.Blocks.{heads_size, heads_of}
use Rattle.layout.specs.Frame.{frame_size}
use Rattle.layout.specs.Entry.{entry_size, entry_of}
use Rattle.layout.specs.Work.{frame_start, entry_start, stack_of, entries_of}
use Rattle.stack.specs.Bytes.{frame_bytes, frame_at}
use Rattle.stack.specs.Child.{extend_nested}
use Rattle.stack.specs.Written.{TopChanged}

-- the heads in the block at `start` of a graph, and those of entry i
abbrev pub heads_in : ℕ → ℕ → List ℕ → CycleHeads
heads_in goals start graph = heads_of goals (region start (heads_size goals) graph)

abbrev pub entry_heads : ℕ → ℕ → List ℕ → CycleHeads
entry_heads goals i graph = (entry_of goals (region (entry_start goals i) (entry_size goals) graph)).heads

-- the nested goals of the frame at index i
abbrev pub nested_at : ℕ → ℕ → List ℕ → NestedGoals
nested_at goals i graph = (frame_at goals i graph).nested_goals

-- the frame at index `own` has the nested goals of the frame above it; `none`: there are none
pub record NestedJoined (goals own : ℕ) (step : PathKind) (old new : List ℕ) (none : Bool) : Type 0 where
  pub frame : TopChanged goals own (extend_nested step (nested_at goals (own + 1) old)) old new
  pub empty : none ≡ nested_empty (nested_at goals (own + 1) old)

-- a block of heads behind frame `own`
abbrev pub HeadsAbove : ℕ → ℕ → ℕ → List ℕ → Type 0
HeadsAbove goals own start graph = (frame_start goals own + frame_size goals ≤ start) × (start + heads_size goals ≤ length graph)

-- the entries, and the frame above the parent, are as they were
pub record Updated
    (goals height : ℕ) (step : PathKind) (hs : CycleHeads) (overflow : Bool) (ctxt : UpdateParentGoalCtxt) (reached : ℕ)
    (old new : List ℕ) : Type 0 where
  pub stack : stack_of goals height new ≡ update_parent_goal (stack_of goals height old) step hs overflow ctxt reached
  pub entries : (n : ℕ) → entries_of goals n new ≡ entries_of goals n old
  pub above : frame_bytes goals height new ≡ frame_bytes goals height old
