-- A book that was accepted: its lines, its header, and where its steps lead.
use mathlib.Core.Path.{◌≡◌, sym, ap, subst, ◌∙◌}
use mathlib.Core.Bool.{Bool, false, ◌&&◌}
use mathlib.Core.Option.{some}
use mathlib.Core.List.{List}
use Prim.Native.Nat.{ℕ, ◌≤◌, ◌<◌}
use native.Mathlib.Decide.{dec_lt}
use native.Mathlib.Omega.{arith}
use lib.Dec.{T, eqb, eqb→eq, eqb_refl, leb→le, ltb}
use lib.ListN.{length, get_or, get_or-eq_default}
use borrow.Author.Tests.{lt-ltb, le-ltb}
use Rattle.definition.specs.declared.paths.PathKind.{PathKind}
use Rattle.definition.specs.Part.{Book}
use Rattle.definition.specs.Reader.{Accepted, lines_of, read_book}
use Rattle.definition.proofs.Tests.{and_left, and_right}
use Rattle.book.specs.Lines.{lines_in}
use Rattle.book.specs.Read.{IsAccepted, book_in}
use Rattle.book.proofs.Books.{read_as_lem, accepted_range}
use Rattle.soundness.specs.Groups.{StepLine, step_lines, StepsAreLines, calls_some, has_step, linked}
use Rattle.soundness.proofs.Calls.{BookOk, calls_step, exactly, step_calls}
use Rattle.soundness.proofs.Logic.{both, same_bool}
use Rattle.soundness.proofs.Reading.{any_read}
use Rattle.soundness.proofs.StepLines.{steps_are_lines}
use Rattle.soundness.proofs.Reach.{calls_inside, reaches_inside, linked_to}
use Rattle.guarantee.specs.Guarantee.{mask_of}
use Rattle.guarantee.specs.Engine.{in_mask, meets, CallMasks}
use Rattle.guarantee.specs.Meaning.{IsOneOf}
use Rattle.guarantee.proofs.Lines.{some_step, into, beyond}
use Rattle.guarantee.proofs.Masks.{meets_none}
use Rattle.guarantee.proofs.Numbers.{mask_goals}
use Rattle.guarantee.proofs.Members.{some_step_lem, a_step, every_at, some_at}

is_false : (x : Bool) → (T x → ⊥) → x ≡ false
is_false x h = same_bool x false h (λ t. absurd t)

module _ (b : Book) where
  pub accepted_lines : (bytes : List ℕ) → read_book bytes ≡ Accepted b → lines_of bytes ≡ some (lines_in bytes)
  accepted_lines bytes e = (read_as_lem b bytes e).lines

module _ (bytes : List ℕ) (is : IsAccepted bytes) where
  pub few_goals : (book_in bytes).header.goals ≤ 64
  few_goals = (accepted_range (book_in bytes) bytes is).few_goals

  pub ok : BookOk (book_in bytes)
  ok = any_read bytes (book_in bytes) is

  lines : StepsAreLines (book_in bytes) (lines_in bytes)
  lines = steps_are_lines bytes (book_in bytes) (lines_in bytes) is (accepted_lines (book_in bytes) bytes is)

  -- each line is a step, and each step has a line
  pub line_step : (s : StepLine) → IsOneOf s (step_lines (lines_in bytes))
      → T (has_step (book_in bytes) s.caller s.goal s.kind)
  line_step s =
      every_at (λ x. T (has_step (book_in bytes) x.caller x.goal x.kind)) s (step_lines (lines_in bytes))
      lines.lines

  pub step_line : (c y : ℕ) (k : PathKind) → T (has_step (book_in bytes) c y k)
      → (s : StepLine) × IsOneOf s (step_lines (lines_in bytes)) × ((s.caller ≡ c) × (s.goal ≡ y) × (s.kind ≡ k))
  step_line c y k t =
      some_at (λ s. (s.caller ≡ c) × (s.goal ≡ y) × (s.kind ≡ k)) (step_lines (lines_in bytes)) (lines.steps c y k t)

  -- a goal of the book is linked to goals of the book only
  pub outside : (g k : ℕ) → g < (book_in bytes).header.goals → (book_in bytes).header.goals ≤ k
      → linked (book_in bytes) g k ≡ false
  outside g k near far =
      is_false (linked (book_in bytes) g k)
      (λ t. omega (arith, reaches_inside (book_in bytes) ok g k near (linked_to (book_in bytes) ok g k t)))

  -- ---- the lines' steps are the calls of the parts
  calls_by_lines : (i m : ℕ)
      → some_step (into i m) (step_lines (lines_in bytes)) ≡ calls_some (book_in bytes) (λ g kind. in_mask m g) i
  calls_by_lines i m =
      same_bool (some_step (into i m) (step_lines (lines_in bytes))) (calls_some (book_in bytes) (λ g kind. in_mask m g) i)
      there back
    where
      there : T (some_step (into i m) (step_lines (lines_in bytes)))
          → T (calls_some (book_in bytes) (λ g kind. in_mask m g) i)
      there t =
          let r = a_step (into i m) (step_lines (lines_in bytes)) t in
          let s = r.0 in
          subst (λ (c : ℕ). T (calls_some (book_in bytes) (λ g kind. in_mask m g) c))
          (eqb→eq s.caller i (and_left (eqb s.caller i) (in_mask m s.goal) r.2))
          (step_calls (book_in bytes) (in_mask m) s.caller s.goal s.kind (line_step s r.1)
          (and_right (eqb s.caller i) (in_mask m s.goal) r.2))

      back : T (calls_some (book_in bytes) (λ g kind. in_mask m g) i) → T (some_step (into i m) (step_lines (lines_in bytes)))
      back =
          calls_step (book_in bytes) (λ g kind. in_mask m g) i λ goal kind u t.
          let r = step_line i goal kind t in
          let s = r.0 in
          some_step_lem (into i m) s (step_lines (lines_in bytes)) r.1
          (both (eqb s.caller i) (in_mask m s.goal)
          (subst (λ (c : ℕ). T (eqb c i)) (sym r.2.0) (eqb_refl i))
          (subst (λ (g : ℕ). T (in_mask m g)) (sym r.2.1) u))

  no_calls : (i m : ℕ) → 64 ≤ i → calls_some (book_in bytes) (λ g kind. in_mask m g) i ≡ false
  no_calls i m far =
      is_false (calls_some (book_in bytes) (λ g kind. in_mask m g) i)
      (λ t. omega (arith, few_goals, calls_inside (book_in bytes) ok (λ g kind. in_mask m g) i t))

  pub caller_in : (s : StepLine) → IsOneOf s (step_lines (lines_in bytes)) → s.caller < (book_in bytes).header.goals
  caller_in s i = calls_inside (book_in bytes) ok (exactly s.goal s.kind) s.caller (line_step s i)

  pub callers_near : some_step (beyond (book_in bytes).header.goals) (step_lines (lines_in bytes)) ≡ false
  callers_near =
      is_false (some_step (beyond (book_in bytes).header.goals) (step_lines (lines_in bytes))) λ t.
      let r = a_step (beyond (book_in bytes).header.goals) (step_lines (lines_in bytes)) t in
      omega (arith, caller_in r.0 r.1, leb→le (book_in bytes).header.goals r.0.caller r.2)

  pub call_masks : (masks : List ℕ) → length masks ≡ 64
      → ((i m : ℕ) → i < 64 → meets (get_or masks i 0) m ≡ some_step (into i m) (step_lines (lines_in bytes)))
      → CallMasks (book_in bytes) masks
  call_masks masks long h i m = go (dec_lt i 64)
    where
      go : Dec (i < 64) → meets (get_or masks i 0) m ≡ calls_some (book_in bytes) (λ g kind. in_mask m g) i
      go (yes l) = h i m l ∙ calls_by_lines i m
      go (no n) =
          let past : get_or masks i 0 ≡ 0 = get_or-eq_default masks 0 (omega arith) in
          ap (λ (a : ℕ). meets a m) past ∙ meets_none m ∙ sym (no_calls i m (omega arith))

  -- the number of a group has its goals as bits
  pub group_goals : (g k : ℕ) → g < (book_in bytes).header.goals
      → in_mask (mask_of (book_in bytes).header.goals (linked (book_in bytes) g)) k ≡ linked (book_in bytes) g k
  group_goals g k near =
      mask_goals (book_in bytes).header.goals (linked (book_in bytes) g) few_goals k
      ∙ go (dec_lt k (book_in bytes).header.goals)
    where
      go : Dec (k < (book_in bytes).header.goals)
          → (ltb k (book_in bytes).header.goals && linked (book_in bytes) g k) ≡ linked (book_in bytes) g k
      go (yes l) = ap (λ (t : Bool). t && linked (book_in bytes) g k) (lt-ltb k (book_in bytes).header.goals l)
      go (no n) =
          ap (λ (t : Bool). t && linked (book_in bytes) g k) (le-ltb k (book_in bytes).header.goals (omega arith))
          ∙ sym (outside g k near (omega arith))
