-- What is left of the entries, moved to the front.
use Rattle.std.specs.Prelude.{◌≡◌, Bool, true, false, List, [], ◌∷◌, ◌++◌, ℕ, ◌+◌, ◌≤◌, drop}
use Rattle.definition.specs.Graph.{Entry}
use Rattle.definition.specs.ProvisionalCache.{survivors}
use Rattle.buffer.specs.Regions.{region}
use Rattle.layout.specs.Work.{entries_from, entry_from, entries_of}
use Rattle.provisional_cache.specs.Entries.{FramesKept}

-- the entry, where it is to be kept
abbrev pub kept_of : Bool → Entry → List Entry
kept_of true e = e ∷ []
kept_of false e = []

-- entry i of the old bytes follows the `kept` first, where it is to be kept: r are kept then. Those behind it are as
-- before, and so are the bytes below the entries
pub record Compacted (goals base i kept : ℕ) (keep : Bool) (old new : List ℕ) (r : ℕ) : Type 0 where
  pub least : kept ≤ r
  pub most : r ≤ kept + 1
  pub below : region 0 base new ≡ region 0 base old
  pub entries : entries_from goals base r new
      ≡ entries_from goals base kept old ++ kept_of keep (entry_from goals base i old)
  pub rest : (n : ℕ) → drop (i + 1) (entries_from goals base n new) ≡ drop (i + 1) (entries_from goals base n old)

-- r of the n entries survive a rerun of the frame at index `rerun`
pub record Cleared (goals rerun n : ℕ) (old new : List ℕ) (r : ℕ) : Type 0 where
  pub few : r ≤ n
  pub entries : entries_of goals r new ≡ survivors rerun (entries_of goals n old)
  pub frames : FramesKept goals old new
