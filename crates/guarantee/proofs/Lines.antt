-- The steps of a book's lines, one line after the other.
use mathlib.Core.Path.{◌≡◌, refl, sym, ap, ap₂, ◌∙◌}
use mathlib.Core.Bool.{Bool, true, false, ◌&&◌, ◌||◌, or_assoc, or-false}
use mathlib.Core.List.{List, [], ◌∷◌}
use mathlib.Core.Option.{some}
use Prim.Native.Nat.{ℕ, zero, suc, ◌+◌, ◌*◌, ◌-◌, ◌/◌, ◌≤◌, ◌<◌}
use native.Mathlib.Decide.{ℕ_discrete}
use native.Mathlib.Numerals.{add-one}
use native.Mathlib.Omega.{arith}
use lib.Dec.{eqb, leb}
use lib.ListN.{length, get_or, set, take, drop, replicate, length-drop}
use Rattle.std.proofs.lemmas.List.{drop-drop}
use Rattle.std.specs.Prelude.{Option as Maybe, Some, None, cond}
use Rattle.std.specs.Option.{option_map}
use Rattle.std.specs.List.{find}
use Rattle.definition.specs.Options.{maybe_of}
use lib.Seq.{get_or-set_same, get_or-set_other}
use borrow.Author.Tests.{eq-eqb, ne_eqb}
use Rattle.definition.specs.declared.format.Line.{Line}
use Rattle.definition.specs.declared.paths.PathKind.{PathKind}
use Rattle.definition.specs.Paths.{kind_of}
use Rattle.definition.proofs.Lists.{part_from_lem}
use Rattle.bits.specs.Masks.{flags}
use Rattle.bits.proofs.Marks.{only}
use Rattle.book.specs.declared.code.Code.{Code}
use Rattle.book.specs.declared.code.Code.TheVariants as codes
use Rattle.book.specs.Codes.{code_of}
use Rattle.book.specs.Lines.{line_in, lines_in}
use Rattle.book.proofs.Codes.{is_goal, goal_number}
use Rattle.book.proofs.Lines.{lines_cons, lines_none}
use Rattle.soundness.specs.Groups.{StepLine, step_lines_from, step_lines}
use Rattle.guarantee.specs.declared.steps.Step.{Step}
use Rattle.guarantee.specs.Guarantee.{first_step}
use Rattle.guarantee.specs.Engine.{in_mask, meets, step_line, steps_in, line_of}
use Rattle.guarantee.proofs.Masks.{meets_none, meets_with}

-- a step, by its caller, goal and kind, is wanted
abbrev pub some_step : (ℕ → ℕ → PathKind → Bool) → List StepLine → Bool
some_step wanted [] = false
some_step wanted (s ∷ ss) = wanted s.caller s.goal s.kind || some_step wanted ss

-- ---- one line
abbrev pub is_call : Code → Bool
is_call codes.Goal = false
is_call codes.Call = true
is_call (codes.Group op) = false
is_call codes.Pick = false
is_call codes.Undecided = false
is_call codes.Unknown = false

-- a call line has the code 2, and no other line
call_number : (n : ℕ) → is_call (code_of n) ≡ eqb n 2
call_number zero = refl
call_number (suc zero) = refl
call_number (suc (suc zero)) = refl
call_number (suc (suc (suc zero))) = refl
call_number (suc (suc (suc (suc zero)))) = refl
call_number (suc (suc (suc (suc (suc zero))))) = refl
call_number (suc (suc (suc (suc (suc (suc zero)))))) = refl
call_number (suc (suc (suc (suc (suc (suc (suc n))))))) =
    sym (ne_eqb (suc (suc (suc (suc (suc (suc (suc n))))))) 2 (λ e. omega arith))

-- every other line
other_code : (code : Code) → (code ≡ codes.Goal → ⊥) → (code ≡ codes.Call → ⊥) → (is_call code ≡ false) × (is_goal code ≡ false)
other_code codes.Goal g k = absurd (g refl)
other_code codes.Call g k = absurd (k refl)
other_code (codes.Group op) g k = (refl, refl)
other_code codes.Pick g k = (refl, refl)
other_code codes.Undecided g k = (refl, refl)
other_code codes.Unknown g k = (refl, refl)

-- ---- one line more, by its code
module _ (n caller : ℕ) (l : Line) (ls : List Line) where
  abbrev by_line : Bool → Bool → List StepLine
  by_line goal call =
      elim goal [
        | true ↦ step_lines_from (suc n) l.first ls
        | false ↦
            elim call [
              | true ↦ record { line = n; caller = caller; goal = l.first; kind = kind_of l.second } ∷
                  step_lines_from (suc n) caller ls
              | false ↦ step_lines_from (suc n) caller ls
            ]
      ]

  by_code : (code : Code) → code ≡ code_of l.code → step_lines_from n caller (l ∷ ls) ≡ by_line (is_goal code) (is_call code)
  by_code code e = ap₂ by_line (goal_number l.code ∙ ap is_goal (sym e)) (sym (call_number l.code) ∙ ap is_call (sym e))

-- a line of the book, as the bytes from it on have it
module _ (book : List ℕ) (n caller : ℕ) (more : n < length book / 16) (l : Line)
    (read : l ≡ line_in (take (length book - 16 * n) (drop (16 * n) book))) (code : Code) (is : code ≡ code_of l.code) where
  abbrev here : List StepLine
  here = steps_in n caller (drop (16 * n) book)

  abbrev later : ℕ → List StepLine
  later c = steps_in (n + 1) c (drop (16 * (n + 1)) book)

  others : (c : ℕ) → step_lines_from (suc n) c (lines_in (drop 16 (drop (16 * n) book))) ≡ later c
  unfolding steps_in
  others c =
      let far : 16 * n + 16 ≡ 16 * (n + 1) = omega arith in
      ap₂ (λ (m : ℕ) (bs : List ℕ). step_lines_from m c (lines_in bs)) (sym (add-one n))
      (drop-drop 16 (16 * n) book ∙ ap (λ (k : ℕ). drop k book) far)

  turn : here ≡ by_line n caller l (lines_in (drop 16 (drop (16 * n) book))) (is_goal code) (is_call code)
  unfolding steps_in
  turn =
      let long : 16 ≤ length (drop (16 * n) book) = rw length-drop (omega arith) in
      let same : line_in (drop (16 * n) book) ≡ l = sym (read ∙ ap line_in (part_from_lem (16 * n) book)) in
      ap (step_lines_from n caller)
      (lines_cons (drop (16 * n) book) long ∙ ap (λ (x : Line). x ∷ lines_in (drop 16 (drop (16 * n) book))) same)
      ∙ by_code n caller l (lines_in (drop 16 (drop (16 * n) book))) code is

  abbrev by_tests : Bool → Bool → List StepLine
  by_tests = by_line n caller l (lines_in (drop 16 (drop (16 * n) book)))

  pub turn_goal : code ≡ codes.Goal → here ≡ later l.first
  turn_goal e = turn ∙ ap (λ (x : Code). by_tests (is_goal x) (is_call x)) e ∙ others l.first

  pub turn_call : code ≡ codes.Call
      → here ≡ record { line = n; caller = caller; goal = l.first; kind = kind_of l.second } ∷ later caller
  turn_call e =
      turn ∙ ap (λ (x : Code). by_tests (is_goal x) (is_call x)) e
      ∙ ap (λ (ss : List StepLine). record { line = n; caller = caller; goal = l.first; kind = kind_of l.second } ∷ ss)
      (others caller)

  pub turn_other : (code ≡ codes.Goal → ⊥) → (code ≡ codes.Call → ⊥) → here ≡ later caller
  turn_other g k = let o = other_code code g k in turn ∙ ap₂ by_tests o.1 o.0 ∙ others caller

-- after the last line
pub turns_end : (book : List ℕ) (n caller : ℕ) → length book / 16 ≤ n → steps_in n caller (drop (16 * n) book) ≡ []
unfolding steps_in
turns_end book n caller h =
    ap (step_lines_from n caller) (lines_none (drop (16 * n) book) (rw length-drop (omega arith)))

-- after the header
pub steps_start : (book : List ℕ) → 16 ≤ length book → steps_in 1 0 (drop (16 * 1) book) ≡ step_lines (lines_in book)
unfolding steps_in
steps_start book h = sym (ap step_lines (lines_cons book h))

-- ---- a search for the first step
pub found_first : (wanted : StepLine → Bool) (ss : List StepLine) → maybe_of (find wanted ss) ≡ first_step wanted ss
found_first wanted [] = refl
found_first wanted (s ∷ ss) = by (wanted s) (found_first wanted ss)
  where
    by : (t : Bool) → maybe_of (find wanted ss) ≡ first_step wanted ss
        → maybe_of (cond t (Some s) (find wanted ss)) ≡ elim t [ true ↦ some s | false ↦ first_step wanted ss ]
    by true e = refl
    by false e = e

pub found_line : (wanted : StepLine → Bool) (ss : List StepLine) (r : Maybe Step)
    → option_map step_line r ≡ find wanted ss
    → maybe_of (option_map (λ (s : Step). s.line) r) ≡ line_of (first_step wanted ss)
found_line wanted ss None e = ap line_of (ap maybe_of e ∙ found_first wanted ss)
found_line wanted ss (Some s) e = ap line_of (ap maybe_of e ∙ found_first wanted ss)

-- ---- whether some step is wanted
-- i calls a goal of the mask
abbrev pub into : ℕ → ℕ → ℕ → ℕ → PathKind → Bool
into i m caller goal kind = eqb caller i && in_mask m goal

-- ---- one step more in the masks
abbrev pub Added : List ℕ → StepLine → List ℕ → Type 0
Added masks s masks' =
    (i m : ℕ) → i < 64 → meets (get_or masks' i 0) m ≡ (meets (get_or masks i 0) m || into i m s.caller s.goal s.kind)

module _ (masks : List ℕ) (s : StepLine) where
  kept : (i m : ℕ) → eqb s.caller i ≡ false
      → meets (get_or masks i 0) m ≡ (meets (get_or masks i 0) m || into i m s.caller s.goal s.kind)
  kept i m e =
      sym (ap (λ (x : Bool). meets (get_or masks i 0) m || (x && in_mask m s.goal)) e ∙ or-false (meets (get_or masks i 0) m))

  pub far_step : 64 ≤ s.caller → Added masks s masks
  far_step far i m h = kept i m (ne_eqb s.caller i (λ z. omega arith))

  pub one_step_lem : length masks ≡ 64 → s.caller < 64 → (r : ℕ)
      → flags 64 r ≡ set (flags 64 (get_or masks s.caller 0)) s.goal true
      → Added masks s (set masks s.caller r)
  one_step_lem long near r e i m h = go (ℕ_discrete i s.caller)
    where
      go : Dec (i ≡ s.caller)
          → meets (get_or (set masks s.caller r) i 0) m
          ≡ (meets (get_or masks i 0) m || into i m s.caller s.goal s.kind)
      go (yes z) =
          ap (λ (j : ℕ). meets (get_or (set masks s.caller r) j 0) m) z
          ∙ ap (λ (a : ℕ). meets a m) (get_or-set_same masks s.caller r 0 (omega arith))
          ∙ meets_with r (get_or masks s.caller 0) m s.goal e
          ∙ ap (λ (j : ℕ). meets (get_or masks j 0) m || in_mask m s.goal) (sym z)
          ∙ sym (ap (λ (x : Bool). meets (get_or masks i 0) m || (x && in_mask m s.goal)) (eq-eqb s.caller i (sym z)))
      go (no n) =
          ap (λ (a : ℕ). meets a m) (get_or-set_other masks s.caller i r 0 n)
          ∙ kept i m (ne_eqb s.caller i (λ z. n (sym z)))

-- the masks have the calls of all steps but those that are left
abbrev pub Collected : List StepLine → List StepLine → List ℕ → Type 0
Collected all left masks =
    (i m : ℕ) → i < 64 → (meets (get_or masks i 0) m || some_step (into i m) left) ≡ some_step (into i m) all

pub collected_none : (all left : List StepLine) → left ≡ all → Collected all left (replicate 64 0)
collected_none all left e i m h =
    ap₂ (λ (x : Bool) (ss : List StepLine). x || some_step (into i m) ss)
    (ap (λ (a : ℕ). meets a m) (only 0 64 i) ∙ meets_none m) e

pub collected_more : (all : List StepLine) (s : StepLine) (left : List StepLine) (masks masks' : List ℕ)
    → Collected all (s ∷ left) masks
    → Added masks s masks'
    → Collected all left masks'
collected_more all s left masks masks' inv more i m h =
    ap (λ (x : Bool). x || some_step (into i m) left) (more i m h)
    ∙ or_assoc (meets (get_or masks i 0) m) (into i m s.caller s.goal s.kind) (some_step (into i m) left)
    ∙ inv i m h

pub collected_all : (all left : List StepLine) (masks : List ℕ) → left ≡ [] → Collected all left masks → (i m : ℕ)
    → i < 64 → meets (get_or masks i 0) m ≡ some_step (into i m) all
collected_all all left masks e inv i m h =
    sym (or-false (meets (get_or masks i 0) m))
    ∙ ap (λ (ss : List StepLine). meets (get_or masks i 0) m || some_step (into i m) ss) (sym e) ∙ inv i m h

-- ---- callers that are goals of the book
abbrev pub beyond : ℕ → ℕ → ℕ → PathKind → Bool
beyond goals caller goal kind = leb goals caller
