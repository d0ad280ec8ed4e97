-- A graph whose stack was written, and nothing else.
use Rattle.std.specs.Prelude.{◌≡◌, List, ◌∷◌, ℕ, ◌+◌, ◌≤◌}
use Rattle.definition.specs.Stack.{Frame, Stack}
use Rattle.buffer.specs.Regions.{region}
use Rattle.layout.specs.Frame.{frame_size}
use Rattle.layout.specs.Work.{frame_start, stack_of, entries_of}
use Rattle.stack.specs.Bytes.{frame_at}

-- the lowest h frames are s; the entries are as they were
pub record StackWritten (goals h : ℕ) (s : Stack) (old new : List ℕ) : Type 0 where
  pub stack : stack_of goals h new ≡ s
  pub entries : (n : ℕ) → entries_of goals n new ≡ entries_of goals n old

-- the top frame, at index `own`, is f; the frames under it, the entries and all above it are as they were
pub record TopWritten (goals own : ℕ) (f : Frame) (old new : List ℕ) : Type 0 where
  pub stack : stack_of goals (own + 1) new ≡ f ∷ stack_of goals own old
  pub entries : (n : ℕ) → entries_of goals n new ≡ entries_of goals n old
  pub above : (b m : ℕ) → frame_start goals own + frame_size goals ≤ b → region b m new ≡ region b m old

-- what was there, as `make` makes it
abbrev pub StackChanged : ℕ → ℕ → (Stack → Stack) → List ℕ → List ℕ → Type 0
StackChanged goals h make old new = StackWritten goals h (make (stack_of goals h old)) old new

abbrev pub TopChanged : ℕ → ℕ → (Frame → Frame) → List ℕ → List ℕ → Type 0
TopChanged goals own make old new = TopWritten goals own (make (frame_at goals own old)) old new
