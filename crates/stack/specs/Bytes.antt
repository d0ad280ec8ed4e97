-- What the bytes of a frame and of a graph must be.
use Rattle.std.specs.Prelude.{◌≡◌, List, ℕ, ◌≤◌, length}
use Rattle.definition.specs.Stack.{Frame, CountsTrue}
use Rattle.buffer.specs.Regions.{region}
use Rattle.layout.specs.Frame.{frame_size, frame_of}
use Rattle.layout.specs.Work.{frame_start, graph_length, stack_of}

pub record FrameBytes (goals : ℕ) (bs : List ℕ) : Type 0 where
  pub few : goals ≤ 64
  pub long : length bs ≡ frame_size goals

pub record GraphBytes (goals : ℕ) (bs : List ℕ) : Type 0 where
  pub some : 1 ≤ goals
  pub few : goals ≤ 64
  pub long : length bs ≡ graph_length goals

-- a graph with `height` frames, whose counts of steps are true
pub record StackBytes (goals height : ℕ) (bs : List ℕ) : Type 0 where
  pub bytes : GraphBytes goals bs
  pub high : height ≤ goals
  pub counts : CountsTrue (stack_of goals height bs)

-- the frame became what `make` makes of it
abbrev pub FrameChanged : ℕ → (Frame → Frame) → List ℕ → List ℕ → Type 0
FrameChanged goals make old new = frame_of goals new ≡ make (frame_of goals old)

-- the bytes of frame i of a graph
abbrev pub frame_bytes : ℕ → ℕ → List ℕ → List ℕ
frame_bytes goals i bs = region (frame_start goals i) (frame_size goals) bs

-- that frame
abbrev pub frame_at : ℕ → ℕ → List ℕ → Frame
frame_at goals i bs = frame_of goals (frame_bytes goals i bs)
