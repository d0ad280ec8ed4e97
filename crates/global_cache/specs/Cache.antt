-- What the contracts say of a cache with the definition's functions. These use only a header's number of goals and its top depth.
use Rattle.std.specs.Prelude.{ℕ, ◌+◌, ◌*◌, ◌≤◌, ◌≡◌, Bool, false, List, [], length, Result, Ok, Err}
use Rattle.std.proofs.Math.Option.{Option, none, some}
use Rattle.buffer.specs.Regions.{region}
use Rattle.definition.specs.declared.answers.Answer.{Answer}
use Rattle.definition.specs.declared.format.Header.{Header}
use Rattle.definition.specs.Nested.{NestedGoals}
use Rattle.definition.specs.Graph.{EvaluationResult}
use Rattle.definition.specs.GlobalCache.{slot_size, slot_start}
use Rattle.definition.specs.CacheForm.{cache_length}
use Rattle.global_cache.specs.declared.Conflict.{Conflict}

-- a header with these; its other fields say nothing
abbrev pub header_with : ℕ → ℕ → Header
header_with goals top = record { provisional = false; goals = goals; top = top; limit = 0; divisor = 0 }

-- the numbers that a book's header allows
pub record Sizes (goals top : ℕ) : Type 0 where
  pub few : goals ≤ 64
  pub low : top ≤ 63

-- and a cache of the right length for them
pub record CacheBytes (goals top : ℕ) (cache : List ℕ) : Type 0 where
  pub few : goals ≤ 64
  pub low : top ≤ 63
  pub whole : length cache ≡ cache_length (header_with goals top)

-- a goal's overflow slots, one behind the other
abbrev pub overflow_slots : Header → List ℕ → ℕ → List ℕ
overflow_slots h cache goal = region (slot_start h goal 1) ((h.top + 1) * slot_size h) cache

-- a result to insert; its heads are not looked at
abbrev pub evaluated : Bool → ℕ → NestedGoals → Answer → ℕ → EvaluationResult
evaluated overflow required nested result passes =
    record {
      encountered_overflow = overflow;
      required_depth = required;
      heads = [];
      nested_goals = nested;
      result = result;
      passes = passes;
    }

-- what `insert` leaves: the cache, or nothing after a conflict
abbrev pub inserted : Result (Unit {0}) Conflict → List ℕ → Option (List ℕ)
inserted (Ok kept) cache = some cache
inserted (Err conflict) cache = none
