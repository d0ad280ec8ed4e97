-- global_cache.rs, in bytes: for each goal T + 2 slots, the success slot and then an overflow slot for each required depth 0 to T.
-- A slot: held 0 or 1, result, required depth, how often the goal's part was run for it (document 02, item 8), then the
-- nested goals, a byte for each goal.
use Rattle.std.specs.Prelude.{ℕ, ◌+◌, ◌*◌, Bool, true, false, not, ◌&&◌, List, ◌∷◌, ◌++◌, eqb, leb, get_or, take, drop}
use Rattle.std.proofs.Math.Option.{Option, none, some}
use Rattle.definition.specs.declared.answers.Answer.{Answer}
use Rattle.definition.specs.declared.format.Header.{Header}
use Rattle.definition.specs.Answers.{answer_number, answer_of}
use Rattle.definition.specs.Nested.{NestedGoals}
use Rattle.definition.specs.Graph.{EvaluationResult}

-- ---- a slot's bytes
abbrev pub slot_size : Header → ℕ
slot_size h = h.goals + 4

abbrev pub slot_held : List ℕ → Bool
slot_held s = eqb (get_or s 0 0) 1

abbrev pub slot_result : List ℕ → Answer
slot_result s = answer_of (get_or s 1 0)

abbrev pub slot_depth : List ℕ → ℕ
slot_depth s = get_or s 2 0

abbrev pub slot_passes : List ℕ → ℕ
slot_passes s = get_or s 3 0

abbrev pub slot_nested : List ℕ → NestedGoals
slot_nested s = drop 4 s

abbrev pub slot_bytes : EvaluationResult → List ℕ
slot_bytes r = 1 ∷ answer_number r.result ∷ r.required_depth ∷ r.passes ∷ r.nested_goals

-- ---- a goal's slots
abbrev pub slots_per_goal : Header → ℕ
slots_per_goal h = h.top + 2

abbrev pub success_slot : ℕ
success_slot = 0

abbrev pub overflow_slot : ℕ → ℕ
overflow_slot required_depth = required_depth + 1

abbrev pub slot_start : Header → ℕ → ℕ → ℕ
slot_start h goal slot = (goal * slots_per_goal h + slot) * slot_size h

abbrev pub slot_at : Header → List ℕ → ℕ → ℕ → List ℕ
slot_at h cache goal slot = take (slot_size h) (drop (slot_start h goal slot) cache)

abbrev pub write_slot : Header → List ℕ → ℕ → ℕ → List ℕ → List ℕ
write_slot h cache goal slot bytes =
    take (slot_start h goal slot) cache ++ (bytes ++ drop (slot_start h goal slot + slot_size h) cache)

-- ---- GlobalCache::get
pub record CacheData : Type 0 where
  pub result : Answer
  pub required_depth : ℕ
  pub encountered_overflow : Bool
  pub nested_goals : NestedGoals

abbrev pub cache_data : List ℕ → Bool → CacheData
cache_data s overflow =
    record { result = slot_result s; required_depth = slot_depth s; encountered_overflow = overflow; nested_goals = slot_nested s }

abbrev pub get_with_overflow : (NestedGoals → Bool) → List ℕ → Option CacheData
get_with_overflow applicable s =
    elim (slot_held s && applicable (slot_nested s)) [ true ↦ some (cache_data s true) | false ↦ none ]

abbrev pub get_from_slots : (NestedGoals → Bool) → ℕ → List ℕ → List ℕ → Option CacheData
get_from_slots applicable available success with_overflow =
    elim (slot_held success && leb (slot_depth success) available && applicable (slot_nested success)) [
      | true ↦ some (cache_data success false)
      | false ↦ get_with_overflow applicable with_overflow
    ]

abbrev pub cache_get : Header → List ℕ → ℕ → ℕ → (NestedGoals → Bool) → Option CacheData
cache_get h cache input available applicable =
    get_from_slots applicable available (slot_at h cache input success_slot) (slot_at h cache input (overflow_slot available))

-- ---- GlobalCache::insert
abbrev pub slot_for : EvaluationResult → ℕ
slot_for r = elim r.encountered_overflow [ true ↦ overflow_slot r.required_depth | false ↦ success_slot ]

-- the assertion of `insert` fails: the slot holds a different result
abbrev pub conflicts : List ℕ → Answer → Bool
conflicts s result = slot_held s && not (eqb (get_or s 1 0) (answer_number result))

-- nothing where the assertion fails; an equal result replaces the entry
abbrev pub cache_insert : Header → List ℕ → ℕ → EvaluationResult → Option (List ℕ)
cache_insert h cache input r =
    elim (conflicts (slot_at h cache input (slot_for r)) r.result) [
      | true ↦ none
      | false ↦ some (write_slot h cache input (slot_for r) (slot_bytes r))
    ]
