-- The workspace: the graph, and behind it the merged usages of each frame's pick.
use Rattle.std.specs.Prelude.{◌≡◌, List, ℕ, ◌≤◌, length}
use Rattle.definition.specs.Stack.{Stack}
use Rattle.definition.specs.Query.{work_length}
use Rattle.buffer.specs.Regions.{region}
use Rattle.layout.specs.Work.{graph_length, stack_of}

pub record WorkBytes (goals : ℕ) (work : List ℕ) : Type 0 where
  pub some : 1 ≤ goals
  pub few : goals ≤ 64
  pub long : length work ≡ work_length goals

-- the bytes of the graph
unfoldable pub graph_in : ℕ → List ℕ → List ℕ
graph_in goals work = region 0 (graph_length goals) work

-- its lowest `height` frames
abbrev pub stack_in : ℕ → ℕ → List ℕ → Stack
stack_in goals height work = stack_of goals height (graph_in goals work)
