-- What `insert` says, where the popped frame stood at index `height`.
use Rattle.std.specs.Prelude.{◌≡◌, Bool, List, [], ◌∷◌, ◌++◌, ℕ, ◌+◌, ◌*◌, ◌≤◌, ◌<◌, Result, Ok, Err, ⊤}
use Rattle.definition.specs.declared.paths.PathKind.{PathKind}
use Rattle.definition.specs.declared.answers.Answer.{Answer}
use Rattle.definition.specs.Graph.{Entry}
use Rattle.definition.specs.Heads.{highest_index}
use Rattle.definition.specs.Stack.{cycle_path_kind}
use Rattle.layout.specs.Work.{stack_of, entries_of}
use Rattle.stack.specs.Bytes.{frame_at}
use Rattle.provisional_cache.specs.Entries.{FramesKept, entry_on}
use Rattle.provisional_cache.specs.declared.Full.{Full}

-- the kind of the path from the frame's highest head to it
abbrev pub path_from_highest : ℕ → ℕ → PathKind → List ℕ → PathKind
path_from_highest goals height step bs = cycle_path_kind (stack_of goals height bs) step (highest_index (frame_at goals height bs).heads)

-- the new entry
abbrev pub inserted : ℕ → ℕ → ℕ → PathKind → Bool → Answer → List ℕ → Entry
inserted goals height goal step overflow answer bs =
    entry_on goal overflow (frame_at goals height bs).heads (path_from_highest goals height step bs) answer

-- e follows the n first entries
pub record Appended (goals n : ℕ) (e : Entry) (old new : List ℕ) : Type 0 where
  pub entries : entries_of goals (n + 1) new ≡ entries_of goals n old ++ (e ∷ [])
  pub frames : FramesKept goals old new

pub record Inserted (goals height n goal : ℕ) (step : PathKind) (overflow : Bool) (answer : Answer)
    (old new : List ℕ) (r : Result ⊤ Full) : Type 0 where
  pub full : 2 * goals ≤ n → r ≡ Err (record {})
  pub untouched : 2 * goals ≤ n → new ≡ old
  pub kept : n < 2 * goals → r ≡ Ok tt
  pub entries : n < 2 * goals
      → entries_of goals (n + 1) new ≡ entries_of goals n old ++ (inserted goals height goal step overflow answer old ∷ [])
  pub frames : FramesKept goals old new
