-- Conflicts: one line's, and the first.
use mathlib.Core.Path.{◌≡◌, refl, sym, ap, ap₂, ◌∙◌}
use mathlib.Core.Bool.{Bool, true, false, not, ◌&&◌}
use mathlib.Core.List.{List}
use mathlib.Core.Option.{Option, none, some}
use Rattle.std.specs.Prelude.{Option as Maybe, Some, None}
use Prim.Native.Nat.{ℕ, ◌^◌, ◌≤◌, ◌<◌}
use native.Mathlib.Decide.{dec_lt}
use native.Mathlib.Omega.{arith}
use lib.Dec.{ltb}
use borrow.Author.Tests.{not-true, not-false, lt-ltb, le-ltb}
use Rattle.definition.specs.declared.paths.PathKind.TheVariants.{Inductive, Coinductive}
use Rattle.definition.specs.Options.{maybe_of}
use Rattle.definition.specs.Part.{Book}
use Rattle.book.specs.Lines.{lines_in}
use Rattle.book.specs.Read.{IsAccepted, book_in}
use Rattle.soundness.specs.Sets.{Goals}
use Rattle.soundness.specs.Groups.{StepLine, step_lines, linked}
use Rattle.guarantee.specs.declared.Conflict.{Conflict}
use Rattle.guarantee.specs.Guarantee.{step_within, first_step, mask_of, conflict, conflict_with}
use Rattle.guarantee.specs.Engine.{in_mask, IsGroup, line_of}
use Rattle.guarantee.proofs.Accepted.{few_goals, outside}
use Rattle.guarantee.proofs.Numbers.{mask_of_lem}

-- ---- the mask of a group
module _ (bytes : List ℕ) (accepted : IsAccepted bytes) (g m : ℕ) (near : g < (book_in bytes).header.goals)
    (is : IsGroup (book_in bytes) g m) where
  abbrev b : Book
  b = book_in bytes

  -- without the bound
  whole_group : in_mask m ≡ linked b g
  whole_group i k = go (dec_lt k 64) i
    where
      go : Dec (k < 64) → in_mask m k ≡ linked b g k
      go (yes l) = is k ∙ ap (λ (t : Bool). t && linked b g k) (lt-ltb k 64 l)
      go (no n) =
          let far : b.header.goals ≤ k = (let few = few_goals bytes accepted in omega arith) in
          is k ∙ ap (λ (t : Bool). t && linked b g k) (le-ltb k 64 (omega arith))
          ∙ sym (outside bytes accepted g k near far)

  group_number : m < 2 ^ 64 → m ≡ mask_of b.header.goals (linked b g)
  group_number small = mask_of_lem b.header.goals m (linked b g) (few_goals bytes accepted) small below
    where
      below : (k : ℕ) → in_mask m k ≡ (ltb k b.header.goals && linked b g k)
      below k = ap (λ (s : Goals). s k) whole_group ∙ go (dec_lt k b.header.goals)
        where
          go : Dec (k < b.header.goals) → linked b g k ≡ (ltb k b.header.goals && linked b g k)
          go (yes l) = sym (ap (λ (t : Bool). t && linked b g k) (lt-ltb k b.header.goals l))
          go (no n) =
              outside bytes accepted g k near (omega arith)
              ∙ sym (ap (λ (t : Bool). t && linked b g k) (le-ltb k b.header.goals (omega arith)))

-- ---- a step's conflict
module _ (bytes : List ℕ) (accepted : IsAccepted bytes) (s : StepLine) (m : ℕ) (small : m < 2 ^ 64)
    (is : s.caller < 64 → IsGroup (book_in bytes) s.caller m) (near : s.caller < (book_in bytes).header.goals) where
  abbrev book : Book
  book = book_in bytes

  abbrev steps : List StepLine
  steps = step_lines (lines_in bytes)

  abbrev by : Bool → Option StepLine → Option Conflict
  by within first =
      elim within [
        | false ↦ none
        | true ↦ elim first [ none ↦ none | some t ↦ some (conflict book s t) ]
      ]

  abbrev searched : Goals → Option StepLine
  searched group = first_step (step_within group Coinductive) steps

  near_64 : s.caller < 64
  near_64 = let few = few_goals bytes accepted in omega arith

  -- by what the engine looks at
  as_seen : conflict_with book steps s ≡ by (step_within (in_mask m) Inductive s) (searched (in_mask m))
  as_seen =
      ap (λ (p : Goals). by (step_within p Inductive s) (searched p)) (sym (whole_group bytes accepted s.caller m near (is near_64)))

  pub not_within : (within : Bool) → within ≡ step_within (in_mask m) Inductive s → not within ≡ true
      → none ≡ conflict_with book steps s
  not_within within told e = sym (as_seen ∙ ap (λ (y : Bool). by y (searched (in_mask m))) (sym told ∙ not-true within e))

  module _ (within : Bool) (told : within ≡ step_within (in_mask m) Inductive s) (left : not within ≡ false) where
    as_found : conflict_with book steps s ≡ by true (searched (in_mask m))
    as_found = as_seen ∙ ap (λ (y : Bool). by y (searched (in_mask m))) (sym told ∙ not-false within left)

    module _ (r : Maybe ℕ) (at : maybe_of r ≡ line_of (searched (in_mask m))) where
      pub none_found : r ≡ None → none ≡ conflict_with book steps s
      none_found e = go (searched (in_mask m)) (sym (ap maybe_of e) ∙ at) ∙ sym as_found
        where
          go : (x : Option StepLine) → none ≡ line_of x → none ≡ by true x
          go none f = refl
          go (some t) f = let z : ◌≡◌ {A = ℕ} 0 1 = cc in absurd (omega arith)

      pub one_found : (other : ℕ) → r ≡ Some other
          → some (record { inductive = s.line; coinductive = other; group = m }) ≡ conflict_with book steps s
      one_found other e = go (searched (in_mask m)) (sym (ap maybe_of e) ∙ at) ∙ sym as_found
        where
          number : m ≡ mask_of book.header.goals (linked book s.caller)
          number = group_number bytes accepted s.caller m near (is near_64) small

          go : (x : Option StepLine) → some other ≡ line_of x
              → some (record { inductive = s.line; coinductive = other; group = m }) ≡ by true x
          go none f = let z : ◌≡◌ {A = ℕ} 0 1 = cc in absurd (omega arith)
          go (some t) f =
              let same : other ≡ t.line = cc in
              ap₂ (λ (x y : ℕ). some (record { inductive = s.line; coinductive = x; group = y })) same number
