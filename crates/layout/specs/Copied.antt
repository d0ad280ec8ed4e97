-- What goes from one place of a buffer to another: a head, a block of heads, nested goals.
use Rattle.std.specs.Prelude.{◌≡◌, Bool, List, ◌⊎◌, ℕ, ◌+◌, ◌≤◌, length}
use Rattle.definition.specs.declared.paths.PathKind.{PathKind}
use Rattle.definition.specs.Nested.{nested_empty, extend_from_child}
use Rattle.buffer.specs.Regions.{region, overwrite}
use Rattle.layout.specs.Blocks.{head_size, head_of, heads_size, heads_of}

-- all but the n bytes from a on is as before
pub record OutsideKept (a n : ℕ) (old new : List ℕ) : Type 0 where
  pub before : (b m : ℕ) → b + m ≤ a → region b m new ≡ region b m old
  pub behind : (b m : ℕ) → a + n ≤ b → region b m new ≡ region b m old

-- the head at `from` stands at `to` as well
pub record RecordCopied (from to : ℕ) (old new : List ℕ) : Type 0 where
  pub head : head_of (region to head_size new) ≡ head_of (region from head_size old)
  pub others : OutsideKept to head_size old new

-- two blocks that have no byte in common
pub record BlocksApart (goals from to : ℕ) (bs : List ℕ) : Type 0 where
  pub few : goals ≤ 64
  pub source : from + heads_size goals ≤ length bs
  pub target : to + heads_size goals ≤ length bs
  pub apart : (from + heads_size goals ≤ to) ⊎ (to + heads_size goals ≤ from)

-- the heads of the block at `from` stand in the block at `to` as well
pub record HeadsCopied (goals from to : ℕ) (old new : List ℕ) : Type 0 where
  pub heads : heads_of goals (region to (heads_size goals) new) ≡ heads_of goals (region from (heads_size goals) old)
  pub others : OutsideKept to (heads_size goals) old new

-- ---- nested goals

-- the n from `to` on have those of a child, from `from` on, by one step more; `none`: the child has none
pub record Extended (to from n : ℕ) (step : PathKind) (old new : List ℕ) (none : Bool) : Type 0 where
  pub goals : new ≡ overwrite old to (extend_from_child (region to n old) step (region from n old))
  pub empty : none ≡ nested_empty (region from n old)
