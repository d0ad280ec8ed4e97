-- The tests of `join` and `head`, and what their results come to.
use mathlib.Core.Bool.{Bool, false, true}
use mathlib.Core.List.{List, ◌++◌}
use mathlib.Core.Path.{◌∙◌, ◌≡◌, ap, sym}
use Prim.Native.Nat.{◌-◌, ℕ}
use lib.Dec.{eqb}
use lib.ListN.{drop}
use borrow.Author.Tests.{eq-eqb, ne_eqb}
use Rattle.std.proofs.lemmas.Bool.{and_right}
use Rattle.book.specs.Codes.{code_of}
use Rattle.book.specs.Lines.{field_in}
use Rattle.tidy.specs.declared.part.Joined.{Joined}
use Rattle.tidy.specs.Write.{line_with, write_line}
use Rattle.tidy.specs.Engine.{dropped_if, headed, headed_length, is_only, is_spliced, joined_if, line_dropped}
use Rattle.book.specs.Codes.{is_group}

module _ (code n : ℕ) (out : List ℕ) where
  abbrev pub Joins : Joined → List ℕ → Type 0
  Joins r after = (r ≡ joined_if (is_spliced code out) n out) × (after ≡ dropped_if (is_spliced code out) n out)

  stays : is_spliced code out ≡ false → Joins (record { count = 1; bytes = n }) out
  stays e = (rw e, rw e)

  pub no_group : is_group (code_of code) ≡ false → Joins (record { count = 1; bytes = n }) out
  no_group e = stays (rw e)

  pub other_code : (k : ℕ) → k ≡ field_in out 0 → (k ≡ code → ⊥) → Joins (record { count = 1; bytes = n }) out
  other_code k e h = stays (and_right (is_group (code_of code)) (eqb (field_in out 0) code) (ne_eqb (field_in out 0) code (λ f. h (e ∙ f))))

  pub same_code : is_group (code_of code) ≡ true → (k : ℕ) → k ≡ field_in out 0 → k ≡ code → (count : ℕ) → count ≡ field_in out 3
      → (after : List ℕ) → after ≡ line_dropped n out → Joins (record { count = count; bytes = n - 16 }) after
  same_code g k e f count c after d =
      let s : is_spliced code out ≡ true = rw (g, eq-eqb (field_in out 0) code (sym e ∙ f)) in
      (rw s (ap (λ m. record { count = m; bytes = n - 16 }) c), rw s d)

module _ (code count n : ℕ) (out after : List ℕ) where
  abbrev pub Heads : ℕ → Type 0
  Heads r = (r ≡ headed_length (is_only code count) n) × (after ≡ headed (is_only code count) code count n out)

  pub only_part : (b : Bool) → b ≡ is_only code count → b ≡ true → after ≡ line_dropped n out → Heads (n - 16)
  only_part b e t d = let s : is_only code count ≡ true = sym e ∙ t in (rw s, rw s d)

  pub line_stands : (b : Bool) → b ≡ is_only code count → b ≡ false → after ≡ write_line (line_with code count) ++ drop 16 out → Heads n
  line_stands b e t d = let s : is_only code count ≡ false = sym e ∙ t in (rw s, rw s d)
