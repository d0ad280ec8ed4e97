-- How often a goal's part was run for what the cache answers.
use mathlib.Core.Path.{◌≡◌, refl, ap, ◌∙◌}
use mathlib.Core.List.{List}
use Prim.Native.Nat.{ℕ}
use native.Mathlib.Omega.{arith}
use Rattle.definition.specs.declared.format.Header.{Header}
use Rattle.definition.specs.Reader as reader
use Rattle.definition.specs.declared.replies.Refusal.{Refusal}
use Rattle.std.specs.Prelude.{Ok, Err}
use Rattle.book.specs.Read.{header_read}
use Rattle.query.specs.Passes.{passes_in, passes_of}

-- ---- `of_answer`
module _ (bytes cache : List ℕ) (goal depth : ℕ) where
  abbrev read : reader.BookRead → ℕ
  read x = elim x [ reader.Rejected r ↦ 0 | reader.Accepted b ↦ passes_in b.header cache goal depth ]

  pub no_book : (r : Refusal) → Err r ≡ header_read (reader.read_book bytes) → 0 ≡ passes_of bytes cache goal depth
  no_book r e = go (reader.read_book bytes) e
    where
      go : (y : reader.BookRead) → Err r ≡ header_read y → 0 ≡ read y
      go (reader.Rejected q) k = refl
      go (reader.Accepted b) k = let z : ◌≡◌ {A = ℕ} 0 1 = cc in absurd (omega arith)

  pub by_book : (h : Header) → Ok h ≡ header_read (reader.read_book bytes) → (n : ℕ)
      → n ≡ passes_in h cache goal depth
      → n ≡ passes_of bytes cache goal depth
  by_book h e n f = go (reader.read_book bytes) e
    where
      go : (y : reader.BookRead) → Ok h ≡ header_read y → n ≡ read y
      go (reader.Rejected q) k = let z : ◌≡◌ {A = ℕ} 0 1 = cc in absurd (omega arith)
      go (reader.Accepted b) k = let z : h ≡ b.header = cc in f ∙ ap (λ (x : Header). passes_in x cache goal depth) z
