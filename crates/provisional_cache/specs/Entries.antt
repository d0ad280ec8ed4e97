-- The entries of the provisional cache in the bytes of a graph.
use Rattle.std.specs.Prelude.{◌≡◌, Bool, List, ℕ, ◌+◌, ◌≤◌, length}
use Rattle.std.specs.Prelude.{Option as Maybe, Some, None}
use Rattle.std.proofs.Math.Option.{Option, none, some}
use Rattle.definition.specs.declared.paths.PathKind.{PathKind}
use Rattle.definition.specs.declared.heads.CycleHead.{CycleHead}
use Rattle.definition.specs.declared.answers.Answer.{Answer}
use Rattle.definition.specs.Graph.{Entry, with_entry_heads, with_path_from_head}
use Rattle.definition.specs.Paths.{extend}
use Rattle.definition.specs.Heads.{CycleHeads, remove_head, insert_head}
use Rattle.buffer.specs.Regions.{region}
use Rattle.layout.specs.Entry.{entry_size}
use Rattle.layout.specs.Work.{entries_start, entry_start_from, entries_length, entry_from, stack_of}

-- what the bytes of an entry must be
pub record EntryBytes (goals : ℕ) (bs : List ℕ) : Type 0 where
  pub few : goals ≤ 64
  pub long : length bs ≡ entry_size goals

-- what bytes must be that hold the entries, from `base` on: those of a graph, or its end
pub record EntriesBytes (goals base : ℕ) (bs : List ℕ) : Type 0 where
  pub few : goals ≤ 64
  pub low : base ≤ 2097152
  pub long : length bs ≡ base + entries_length goals

-- the bytes of entry i
abbrev pub entry_bytes_from : ℕ → ℕ → ℕ → List ℕ → List ℕ
entry_bytes_from goals base i bs = region (entry_start_from goals base i) (entry_size goals) bs

-- in a graph
abbrev pub entry_bytes : ℕ → ℕ → List ℕ → List ℕ
entry_bytes goals i bs = entry_bytes_from goals (entries_start goals) i bs

-- that entry
abbrev pub entry_at : ℕ → ℕ → List ℕ → Entry
entry_at goals i bs = entry_from goals (entries_start goals) i bs

-- the entry at an index that was found
abbrev pub entry_found : ℕ → Maybe ℕ → List ℕ → Option Entry
entry_found goals None bs = none
entry_found goals (Some i) bs = some (entry_at goals i bs)

-- an entry by its parts
abbrev pub entry_on : ℕ → Bool → CycleHeads → PathKind → Answer → Entry
entry_on input overflow heads path result =
    record { input = input; encountered_overflow = overflow; heads = heads; path_from_head = path; result = result }

-- an entry with other small fields
abbrev pub with_fields : Entry → ℕ → Bool → PathKind → Answer → Entry
with_fields e input overflow path result = entry_on input overflow e.heads path result

-- its head at index i is taken out
abbrev pub without_head : Entry → ℕ → Entry
without_head e i = with_entry_heads e (remove_head e.heads i)

-- its head at index i is joined with another
abbrev pub with_joined_head : Entry → ℕ → CycleHead → Entry
with_joined_head e i head = with_entry_heads e (insert_head e.heads i head.paths head.usages)

-- its path from its highest head goes on by a path of a kind
abbrev pub with_longer_path : Entry → PathKind → Entry
with_longer_path e kind = with_path_from_head e (extend e.path_from_head kind)

-- the frames' bytes are as before, hence every stack
pub record FramesKept (goals : ℕ) (old new : List ℕ) : Type 0 where
  pub bytes : region 0 (entries_start goals) new ≡ region 0 (entries_start goals) old
  pub stacks : (h : ℕ) → h ≤ goals → stack_of goals h new ≡ stack_of goals h old
