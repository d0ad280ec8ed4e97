-- A workspace in which the merged usages of the frame at index `own` were written, or that frame.
use Rattle.std.specs.Prelude.{◌≡◌, ℕ, ◌+◌, ◌<◌, List, ◌∷◌}
use Rattle.definition.specs.declared.usages.HeadUsages.{HeadUsages}
use Rattle.definition.specs.Stack.{Frame, Stack}
use Rattle.buffer.specs.Regions.{region}
use Rattle.layout.specs.Blocks.{block_size}
use Rattle.layout.specs.Work.{merged_start, merged_of, stack_of, entries_of}
use Rattle.stack.specs.Bytes.{frame_bytes, frame_at}
use Rattle.evaluation.specs.Workspace.{graph_in}

-- the bytes of the merged usages
abbrev pub merged_bytes : ℕ → ℕ → List ℕ → List ℕ
merged_bytes goals own work = region (merged_start goals own) (block_size goals) work

-- the bytes of the frame
abbrev pub top_bytes : ℕ → ℕ → List ℕ → List ℕ
top_bytes goals own work = frame_bytes goals own (graph_in goals work)

-- the frame
abbrev pub top_of : ℕ → ℕ → List ℕ → Frame
top_of goals own work = frame_at goals own (graph_in goals work)

-- the merged usages are us; those below and the graph are as they were
pub record MergedWritten (goals own : ℕ) (us : List HeadUsages) (old new : List ℕ) : Type 0 where
  pub written : merged_of goals own new ≡ us
  pub others : (i : ℕ) → i < own → merged_of goals i new ≡ merged_of goals i old
  pub graph : graph_in goals new ≡ graph_in goals old

-- the lowest h frames are s; the entries and the merged usages are as they were
pub record WorkWritten (goals h : ℕ) (s : Stack) (old new : List ℕ) : Type 0 where
  pub stack : stack_of goals h (graph_in goals new) ≡ s
  pub entries : (n : ℕ) → entries_of goals n (graph_in goals new) ≡ entries_of goals n (graph_in goals old)
  pub merged : (i : ℕ) → i < goals → merged_of goals i new ≡ merged_of goals i old

-- the frame is f, and the frames below are as they were
abbrev pub FrameWritten : ℕ → ℕ → Frame → List ℕ → List ℕ → Type 0
FrameWritten goals own f old new = WorkWritten goals (own + 1) (f ∷ stack_of goals own (graph_in goals old)) old new

-- what was there, as `make` makes it
abbrev pub WorkTopChanged : ℕ → ℕ → (Frame → Frame) → List ℕ → List ℕ → Type 0
WorkTopChanged goals own make old new = FrameWritten goals own (make (top_of goals own old)) old new

abbrev pub MergedChanged : ℕ → ℕ → (List HeadUsages → List HeadUsages) → List ℕ → List ℕ → Type 0
MergedChanged goals own make old new = MergedWritten goals own (make (merged_of goals own old)) old new
