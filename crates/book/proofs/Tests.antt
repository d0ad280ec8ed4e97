-- Tests in a row.
use mathlib.Core.Path.{◌≡◌, refl, sym, ◌∙◌}
use mathlib.Core.Bool.{Bool, true, false, ◌&&◌, not}
use Prim.Native.Nat.{ℕ, zero, suc}
use borrow.Author.Tests.{not-true, not-false}
use Rattle.definition.specs.Line.{last_column, leading_column}

pub stop : (a b : Bool) → a ≡ false → false ≡ a && b
stop a b e = rw e

pub pass : (a b r : Bool) → a ≡ true → r ≡ b → r ≡ a && b
pass a b r e h = rw e h

-- what a test `if !f(..)` says, where f's result is x
pub refused : {r x : Bool} → r ≡ x → not r ≡ true → x ≡ false
refused {r} e t = sym e ∙ not-true r t

pub held : {r x : Bool} → r ≡ x → not r ≡ false → x ≡ true
held {r} e t = sym e ∙ not-false r t

-- a column, written
pub not_nothing : (n r : ℕ) → (n ≡ 0 → ⊥) → r ≡ last_column n → r ≡ leading_column n
not_nothing zero r h e = absurd (h refl)
not_nothing (suc n) r h e = e
