-- What the operation makes of a graph.
use Rattle.std.specs.Prelude.{◌≡◌, List, ℕ, ◌-◌, ◌≤◌}
use Rattle.definition.specs.declared.endings.Ending.{Ending}
use Rattle.definition.specs.Endings.{pop}
use Rattle.layout.specs.Work.{graph_of}
use Rattle.provisional_cache.specs.Entries.{FramesKept}

-- of n entries r are left, of `height` frames one less, and all frames' bytes, for every root and cache
pub record FramePopped (goals height : ℕ) (ending : Ending) (n : ℕ) (old new : List ℕ) (r : ℕ) : Type 0 where
  pub is : (root : ℕ) (cache : List ℕ)
      → graph_of goals root (height - 1) r new cache ≡ pop ending (graph_of goals root height n old cache)
  pub few : r ≤ n
  pub frames : FramesKept goals old new
