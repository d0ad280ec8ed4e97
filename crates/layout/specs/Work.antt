-- The workspace: frames, provisional entries, and the merged candidate usages of each frame. The first two hold the graph.
-- How many frames and entries there are is no byte of it.
use Rattle.std.specs.Prelude.{ℕ, ◌+◌, ◌*◌, List}
use Rattle.definition.specs.declared.usages.HeadUsages.{HeadUsages}
use Rattle.definition.specs.Stack.{Stack}
use Rattle.definition.specs.Graph.{Entry, Graph}
use Rattle.buffer.specs.Regions.{region}
use Rattle.buffer.specs.Tables.{table, table_down}
use Rattle.layout.specs.Blocks.{block_size, candidate_of}
use Rattle.layout.specs.Frame.{frame_size, frame_of}
use Rattle.layout.specs.Entry.{entry_size, entry_of}

abbrev pub frame_start : ℕ → ℕ → ℕ
frame_start goals i = i * frame_size goals

abbrev pub entries_start : ℕ → ℕ
entries_start goals = goals * frame_size goals

-- entry i of those that start at `base`
abbrev pub entry_start_from : ℕ → ℕ → ℕ → ℕ
entry_start_from goals base i = base + i * entry_size goals

-- in the graph
abbrev pub entry_start : ℕ → ℕ → ℕ
entry_start goals i = entry_start_from goals (entries_start goals) i

abbrev pub entries_length : ℕ → ℕ
entries_length goals = 2 * goals * entry_size goals

-- frames and entries
abbrev pub graph_length : ℕ → ℕ
graph_length goals = entries_start goals + entries_length goals

abbrev pub merged_start : ℕ → ℕ → ℕ
merged_start goals i = graph_length goals + i * block_size goals

-- the frames below `height`, the top first
unfoldable pub stack_of : ℕ → ℕ → List ℕ → Stack
stack_of goals height bs = table_down (frame_of goals) (frame_size goals) 0 height bs

-- n entries that start at `base`, and one of them
unfoldable pub entries_from : ℕ → ℕ → ℕ → List ℕ → List Entry
entries_from goals base n bs = table (entry_of goals) (entry_size goals) base n bs

abbrev pub entry_from : ℕ → ℕ → ℕ → List ℕ → Entry
entry_from goals base i bs = entry_of goals (region (entry_start_from goals base i) (entry_size goals) bs)

-- in the graph
abbrev pub entries_of : ℕ → ℕ → List ℕ → List Entry
entries_of goals n bs = entries_from goals (entries_start goals) n bs

-- the merged usages of a pick at frame i
unfoldable pub merged_of : ℕ → ℕ → List ℕ → List HeadUsages
merged_of goals i work = candidate_of goals (region (merged_start goals i) (block_size goals) work)

-- the search graph that bytes hold
abbrev pub graph_of : ℕ → ℕ → ℕ → ℕ → List ℕ → List ℕ → Graph
graph_of goals root height n bs cache =
    record { root_depth = root; stack = stack_of goals height bs; provisional_cache = entries_of goals n bs; global_cache = cache }
