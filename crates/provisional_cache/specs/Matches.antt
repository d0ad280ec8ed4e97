-- Which entry answers a goal, with `height` frames on the stack.
use Rattle.std.specs.Prelude.{◌≡◌, Bool, ◌&&◌, List, ℕ, ◌≤◌, ◌<◌, drop}
use Rattle.std.specs.Prelude.{Option as Maybe, Some, None}
use Rattle.std.proofs.Math.Option.{Option}
use Rattle.definition.specs.declared.paths.PathKind.{PathKind}
use Rattle.definition.specs.Stack.{Stack}
use Rattle.definition.specs.Graph.{Entry}
use Rattle.definition.specs.Heads.{opt_lowest_index}
use Rattle.definition.specs.Lookup.{none_or_above, last_heads, first_match}
use Rattle.layout.specs.Work.{stack_of, entries_of}
use Rattle.provisional_cache.specs.Entries.{entry_found}

-- the lowest head of the top frame
abbrev pub lowest_head : ℕ → ℕ → List ℕ → Option ℕ
lowest_head goals height bs = opt_lowest_index (last_heads (stack_of goals height bs))

-- whether the entry, whose highest head is `head`, met overflow and is hidden for that
abbrev pub hidden : ℕ → ℕ → List ℕ → ℕ → Entry → Bool
hidden goals height bs head e = e.encountered_overflow && none_or_above (lowest_head goals height bs) head

-- where the search goes on: at an entry of n, or behind them
abbrev pub place_of : ℕ → Maybe ℕ → ℕ
place_of n None = n
place_of n (Some k) = k

-- r is the next of n entries that can answer the goal, from entry `from` on
pub record NextOf (goals n goal from : ℕ) (bs : List ℕ) (r : Maybe ℕ) : Type 0 where
  pub least : from ≤ place_of n r
  pub few : (k : ℕ) → r ≡ Some k → k < n
  pub is : (s : Stack) (step : PathKind)
      → first_match s goal step (drop (place_of n r) (entries_of goals n bs)) ≡ first_match s goal step (drop from (entries_of goals n bs))

-- r is the first of n entries that answers the goal
pub record FirstMatch (goals height n goal : ℕ) (step : PathKind) (bs : List ℕ) (r : Maybe ℕ) : Type 0 where
  pub few : (i : ℕ) → r ≡ Some i → i < n
  pub is : entry_found goals r bs ≡ first_match (stack_of goals height bs) goal step (entries_of goals n bs)
