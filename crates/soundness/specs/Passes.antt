-- Document 02, item 8: what every cache that queries leave says of passes, and that nothing else depends on it.
use Rattle.std.specs.Prelude.{◌≡◌, ◌≢◌, List, [], ◌∷◌, ℕ, ◌+◌, ◌*◌, ◌<◌, get_or, length, replicate}
use Rattle.definition.specs.declared.format.Header.{Header}
use Rattle.definition.specs.CacheForm.{cache_fits}
use Rattle.definition.specs.GlobalCache.{slot_size}
use Rattle.definition.specs.Part.{Book}
use Rattle.definition.specs.Query.{Reply}
use Rattle.definition.specs.Reader.{Accepted, read_book}
use Rattle.soundness.specs.Always.{SlotsCounted}
use Rattle.soundness.specs.Statement.{Query, cache_after, reply_to}

-- on an accepted book, from a cache of n zeros: every held slot says how often its goal's part was run
abbrev pub PassesCounted : Type 0
PassesCounted =
    (bytes : List ℕ) (b : Book) → read_book bytes ≡ Accepted b → (n : ℕ) (qs : List Query)
    → SlotsCounted b.header (cache_after bytes (replicate n 0) qs)

-- two caches with the same bytes, but for the passes: byte 3 of each slot
pub record Alike (h : Header) (c d : List ℕ) : Type 0 where
  pub size : length c ≡ length d
  pub bytes : (n q : ℕ) → q < slot_size h → q ≢ 3 → get_or c (n * slot_size h + q) 0 ≡ get_or d (n * slot_size h + q) 0

-- the same response and workspace, and such caches again, both of them in document 01's form or neither
pub record RepliesAlike (h : Header) (x y : Reply) : Type 0 where
  pub response : x.response ≡ y.response
  pub work : x.work ≡ y.work
  pub cache : Alike h x.cache y.cache
  pub form : cache_fits h x.cache ≡ cache_fits h y.cache

-- the queries in their order, each with the two caches as the one before left them
abbrev pub AllAlike : Header → List ℕ → List ℕ → List ℕ → List Query → Type 0
AllAlike h bytes c d [] = Unit {0}
AllAlike h bytes c d (q ∷ qs) =
    RepliesAlike h (reply_to bytes c q) (reply_to bytes d q)
    × AllAlike h bytes (reply_to bytes c q).cache (reply_to bytes d q).cache qs

-- on an accepted book, from two such caches, both of them in form or neither: passes decide nothing
abbrev pub PassesUnread : Type 0
PassesUnread =
    (bytes : List ℕ) (b : Book) → read_book bytes ≡ Accepted b → (c d : List ℕ) → Alike b.header c d
    → cache_fits b.header c ≡ cache_fits b.header d → (qs : List Query) → AllAlike b.header bytes c d qs
