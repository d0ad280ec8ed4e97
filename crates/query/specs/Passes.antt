-- Document 02, item 8, for people: how often a goal's part was run for what the cache answers.
use Rattle.std.specs.Prelude.{true, false, ◌&&◌, List, ℕ, eqb, leb, ltb, length}
use Rattle.definition.specs.declared.format.Header.{Header}
use Rattle.definition.specs.GlobalCache.{slot_at, slot_depth, slot_held, slot_passes, success_slot, overflow_slot}
use Rattle.definition.specs.CacheForm.{cache_length}
use Rattle.definition.specs.Reader.{Accepted, Rejected, read_book}

-- by the slot that answers a query at that depth, where nothing is on the stack; 0 where neither does
abbrev pub passes_from : ℕ → List ℕ → List ℕ → ℕ
passes_from depth success overflow =
    elim (slot_held success && leb (slot_depth success) depth) [
      | true ↦ slot_passes success
      | false ↦ elim (slot_held overflow) [ true ↦ slot_passes overflow | false ↦ 0 ]
    ]

-- 0 for a goal, a depth or a cache that the book has not
abbrev pub passes_in : Header → List ℕ → ℕ → ℕ → ℕ
passes_in h cache goal depth =
    elim (ltb goal h.goals && leb depth h.top && eqb (length cache) (cache_length h)) [
      | true ↦ passes_from depth (slot_at h cache goal success_slot) (slot_at h cache goal (overflow_slot depth))
      | false ↦ 0
    ]

abbrev pub passes_of : List ℕ → List ℕ → ℕ → ℕ → ℕ
passes_of bytes cache goal depth =
    elim (read_book bytes) [ Rejected r ↦ 0 | Accepted b ↦ passes_in b.header cache goal depth ]
