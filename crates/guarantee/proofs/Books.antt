-- A book, read: what the definition says of it.
use mathlib.Core.Path.{◌≡◌, sym, ap, ap₂, ◌∙◌}
use mathlib.Core.List.{List}
use Prim.Native.Nat.{ℕ}
use native.Mathlib.Omega.{arith}
use Rattle.definition.specs.declared.replies.Refusal.{Refusal}
use Rattle.definition.specs.Reader.{lines_of, read_book}
use Rattle.definition.specs.Reader as reader
use Rattle.std.specs.Prelude.{Result, Err}
use Rattle.definition.specs.declared.format.Header.{Header}
use Rattle.book.specs.Lines.{lines_in}
use Rattle.book.specs.Read.{IsAccepted, header_read, book_in}
use Rattle.soundness.specs.Groups.{step_lines}
use Rattle.guarantee.specs.declared.Verdict.TheVariants.{Refused}
use Rattle.guarantee.specs.Guarantee.{first_conflict, steps_of, guarantee_of_read, guarantee_of}
use Rattle.guarantee.proofs.Accepted.{accepted_lines}

pub of_accepted : (bytes : List ℕ) → IsAccepted bytes
    → guarantee_of bytes ≡ first_conflict (book_in bytes) (step_lines (lines_in bytes)) (step_lines (lines_in bytes))
of_accepted bytes is = ap₂ guarantee_of_read is (ap steps_of (accepted_lines (book_in bytes) bytes is))

pub of_rejected : (bytes : List ℕ) (x : Result Header Refusal) (r : Refusal) → x ≡ Err r → x ≡ header_read (read_book bytes)
    → Refused r ≡ guarantee_of bytes
of_rejected bytes x r k e = go (read_book bytes) (sym k ∙ e)
  where
    go : (y : reader.BookRead) → Err r ≡ header_read y → Refused r ≡ guarantee_of_read y (steps_of (lines_of bytes))
    go (reader.Accepted b) f = let z : ◌≡◌ {A = ℕ} 0 1 = cc in absurd (omega arith)
    go (reader.Rejected q) f = let same : r ≡ q = cc in ap Refused same
