-- A book that was opened: it was accepted, and has few goals.
use Rattle.std.proofs.Common.{◌≡◌, refl, Bool, true, false, ℕ, ◌≤◌, List, subst, leb, leb-true, arith}
use Rattle.definition.specs.declared.format.Header.{Header}
use Rattle.definition.specs.Part as part
use Rattle.definition.specs.Reader as reader
use Rattle.question.specs.declared.Ending.TheVariants.{TooManyGoals}
use Rattle.question.specs.declared.Ending.{Ending}
use Rattle.std.specs.Prelude.{Result, Ok, Err}
use Rattle.ask.specs.Program.{opened}

abbrev open_if : Bool → Header → Result Header Ending
open_if b h = elim b [ true ↦ Ok h | false ↦ Err TooManyGoals ]

pub record IsOpen (bytes : List ℕ) (h : Header) : Type 0 where
  pub book : part.Book
  pub accepted : reader.read_book bytes ≡ reader.Accepted book
  pub header : book.header ≡ h
  pub few : h.goals ≤ 16

open_if_lem : (h g : Header) (b : Bool) → leb g.goals 16 ≡ b → open_if b g ≡ Ok h → (g ≡ h) × (h.goals ≤ 16)
open_if_lem h g true t e =
    let same : g ≡ h = cc in (same, subst (λ (x : Header). x.goals ≤ 16) same (leb-true g.goals 16 t))
open_if_lem h g false t e = let z : ◌≡◌ {A = ℕ} 0 1 = cc in absurd (omega arith)

pub is_open : (bytes : List ℕ) (h : Header) → opened (reader.read_book bytes) ≡ Ok h → IsOpen bytes h
is_open bytes h e = go (reader.read_book bytes) refl e
  where
    go : (x : reader.BookRead) → reader.read_book bytes ≡ x → opened x ≡ Ok h → IsOpen bytes h
    go (reader.Rejected r) q e = let z : ◌≡◌ {A = ℕ} 0 1 = cc in absurd (omega arith)
    go (reader.Accepted b) q e =
        let w = open_if_lem h b.header (leb b.header.goals 16) refl e in
        record { book = b; accepted = q; header = w.0; few = w.1 }
