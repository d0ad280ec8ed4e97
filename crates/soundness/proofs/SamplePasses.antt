-- What specs/Passes.antt says, on examples: a wrong version makes them false.
use mathlib.Core.Path.{◌∙◌, ◌≡◌, refl}
use mathlib.Core.Logic.{◌≢◌}
use mathlib.Core.List.{List, [], ◌∷◌, ◌++◌}
use Prim.Native.Nat.{ℕ, zero, suc, ◌+◌, ◌*◌}
use native.Mathlib.Omega.{arith}
use lib.ListN.{get_or, replicate}
use Rattle.definition.specs.declared.answers.Answer.TheVariants.{Yes}
use Rattle.definition.specs.declared.replies.Refusal.TheVariants.{CacheForm}
use Rattle.std.specs.Prelude.{Ok, Err}
use Rattle.definition.specs.CacheForm.{cache_fits}
use Rattle.definition.specs.GlobalCache.{slot_at, slot_passes}
use Rattle.definition.specs.Part.{Book}
use Rattle.definition.specs.Query.{query}
use Rattle.definition.specs.Reader.{Accepted, read_book}
use Rattle.definition.specs.Usages.{counter_limit}
use Rattle.soundness.specs.Always.{Counted}
use Rattle.soundness.specs.Passes.{Alike, PassesCounted, PassesUnread}
use Rattle.soundness.specs.Statement.{Query, cache_after, reply_to}
use Rattle.soundness.proofs.SampleBooks.{torn_book, torn_bytes, workspace}

-- the first run of a goal that calls itself by steps of two kinds says Yes on mixed assumptions, the second confirms it
abbrev asked : List Query
asked = record { goal = 0; depth = 5; work = workspace } ∷ []

twice : slot_passes (slot_at torn_book.header (cache_after torn_bytes (replicate 35 0) asked) 0 0) ≡ 2
unfolding counter_limit
twice = refl

counted : PassesCounted → Counted torn_book.header 2
unfolding counter_limit
counted passes = passes torn_bytes torn_book refl 35 asked 0 0 (omega arith) (omega arith) tt

-- ---- caches of one held slot
abbrev held : ℕ → ℕ → List ℕ
held result passes = 1 ∷ result ∷ 0 ∷ passes ∷ 0 ∷ replicate 30 0

alike : (m n : ℕ) → Alike torn_book.header (held 1 m) (held 1 n)
alike m n = record { size = refl; bytes = λ i q l u. byte (i * 5 + q) (λ e. u (omega arith)) }
  where
    byte : (p : ℕ) → p ≢ 3 → get_or (held 1 m) p 0 ≡ get_or (held 1 n) p 0
    byte zero u = refl
    byte (suc zero) u = refl
    byte (suc (suc zero)) u = refl
    byte (suc (suc (suc zero))) u = absurd (u refl)
    byte (suc (suc (suc (suc p)))) u = refl

-- the results differ, or the last bytes, or the lengths
other_result : Alike torn_book.header (held 0 1) (held 1 1) → ⊥
other_result v = let e : ◌≡◌ {A = ℕ} 0 1 = v.bytes 0 1 (omega arith) (λ z. omega arith) in omega arith

last_byte : Alike torn_book.header (replicate 34 0 ++ (1 ∷ [])) (replicate 35 0) → ⊥
last_byte v = let e : ◌≡◌ {A = ℕ} 1 0 = v.bytes 6 4 (omega arith) (λ z. omega arith) in omega arith

other_length : Alike torn_book.header (replicate 34 0) (replicate 35 0) → ⊥
other_length v = let e : ◌≡◌ {A = ℕ} 34 35 = v.size in omega arith

-- with 1 pass or 2 the answer is the same. 3 are more than L, so that the cache is not in form: the statement asks
-- that both are or neither
answered : (query torn_bytes (held 1 2) workspace 0 5).response ≡ Ok Yes
unfolding counter_limit
answered = refl

refused : (query torn_bytes (held 1 3) workspace 0 5).response ≡ Err CacheForm
refused = refl

one_or_two : PassesUnread → (query torn_bytes (held 1 1) workspace 0 5).response ≡ Ok Yes
one_or_two passes =
    (passes torn_bytes torn_book refl (held 1 1) (held 1 2) (alike 1 2) refl asked).0.response ∙ answered

-- the second of two queries; what each leaves
module _ (passes : PassesUnread) (bytes : List ℕ) (b : Book) (e : read_book bytes ≡ Accepted b) (c d : List ℕ)
    (v : Alike b.header c d) (form : cache_fits b.header c ≡ cache_fits b.header d) (p q : Query) where
  second : (reply_to bytes (reply_to bytes c p).cache q).response ≡ (reply_to bytes (reply_to bytes d p).cache q).response
  second = (passes bytes b e c d v form (p ∷ q ∷ [])).1.0.response

  worked : (reply_to bytes c p).work ≡ (reply_to bytes d p).work
  worked = (passes bytes b e c d v form (p ∷ [])).0.work

  left : Alike b.header (cache_after bytes c (p ∷ [])) (cache_after bytes d (p ∷ []))
  left = (passes bytes b e c d v form (p ∷ [])).0.cache

  formed : cache_fits b.header (reply_to bytes c p).cache ≡ cache_fits b.header (reply_to bytes d p).cache
  formed = (passes bytes b e c d v form (p ∷ [])).0.form
