-- The counters of `HeadUsages`.
use mathlib.Core.Path.{◌≡◌, refl, sym, ◌∙◌}
use mathlib.Core.Bool.{true, ◌&&◌}
use mathlib.Core.Option.{Option, none, some}
use Prim.Native.Nat.{ℕ, ◌+◌, ◌-◌, ◌≤◌, ◌<◌, min}
use native.Mathlib.Omega.{arith}
use native.Mathlib.Decide.{dec_lt}
use borrow.Author.Tests.{le-leb, lt-leb}
use lib.Dec.{leb}
use Rattle.definition.specs.declared.usages.HeadUsages.{HeadUsages}
use Rattle.definition.specs.declared.heads.CycleHead.{CycleHead}
use Rattle.definition.specs.Usages.{counter_limit, add_counter, subtract_counter, counter_covers, no_usages, add_usages, ignore_usages, usages_cover}
use Rattle.definition.specs.Heads.{ignore_at_head}

-- a counter that has come to the limit, and one that has not
module _ (a b : ℕ) where
  pub add_full : counter_limit ≤ a → a ≡ add_counter a b
  add_full h = rw (le-leb counter_limit a h, add_counter)

  pub add_less : a < counter_limit → min (a + b) counter_limit ≡ add_counter a b
  add_less h = rw (lt-leb counter_limit a h, add_counter)

  pub subtract_full : counter_limit ≤ a → a ≡ subtract_counter a b
  subtract_full h = rw (le-leb counter_limit a h, subtract_counter)

  pub subtract_less : a < counter_limit → a - b ≡ subtract_counter a b
  subtract_less h = rw (lt-leb counter_limit a h, subtract_counter)

  pub covers_full : counter_limit ≤ a → true ≡ counter_covers a b
  covers_full h = rw (le-leb counter_limit a h, counter_covers)

  pub covers_less : a < counter_limit → leb b a ≡ counter_covers a b
  covers_less h = rw (lt-leb counter_limit a h, counter_covers)

pub ruleset by_limit = (add_full, add_less, subtract_full, subtract_less, covers_full, covers_less)

-- ---- nothing to add, to take away or to cover
pub add-zero : (a : ℕ) → add_counter a 0 ≡ a
add-zero a =
    elim (dec_lt a counter_limit) [
      | yes l ↦ let e : min (a + 0) counter_limit ≡ a = omega arith in sym (add_less a 0 l) ∙ e
      | no g ↦ sym (add_full a 0 (omega arith))
    ]

pub subtract_zero : (a : ℕ) → subtract_counter a 0 ≡ a
subtract_zero a =
    elim (dec_lt a counter_limit) [
      | yes l ↦ let e : a - 0 ≡ a = omega arith in sym (subtract_less a 0 l) ∙ e
      | no g ↦ sym (subtract_full a 0 (omega arith))
    ]

pub covers_zero : (a : ℕ) → counter_covers a 0 ≡ true
covers_zero a =
    elim (dec_lt a counter_limit) [
      | yes l ↦ sym (covers_less a 0 l) ∙ le-leb 0 a (omega arith)
      | no g ↦ sym (covers_full a 0 (omega arith))
    ]

pub add_no_usages : (u : HeadUsages) → add_usages u no_usages ≡ u
add_no_usages u =
    let a = add-zero u.inductive in
    let b = add-zero u.unknown in
    let c = add-zero u.coinductive in
    let d = add-zero u.forced in
    λ t. record { inductive = a t; unknown = b t; coinductive = c t; forced = d t }

pub ignore_no_usages : (u : HeadUsages) → ignore_usages u no_usages ≡ u
ignore_no_usages u =
    let a = subtract_zero u.inductive in
    let b = subtract_zero u.unknown in
    let c = subtract_zero u.coinductive in
    let d = subtract_zero u.forced in
    λ t. record { inductive = a t; unknown = b t; coinductive = c t; forced = d t }

pub ignore_nothing : (h : Option CycleHead) → ignore_at_head h no_usages ≡ h
ignore_nothing none = refl
ignore_nothing (some h) = let e = ignore_no_usages h.usages in λ t. some (record { paths = h.paths; usages = e t })

pub cover_no_usages : (u : HeadUsages) → usages_cover u no_usages ≡ true
cover_no_usages u =
    let a = covers_zero u.inductive in
    let b = covers_zero u.unknown in
    let c = covers_zero u.coinductive in
    let d = covers_zero u.forced in
    λ t. a t && (b t && (c t && d t))
