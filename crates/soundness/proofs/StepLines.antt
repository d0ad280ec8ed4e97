-- The steps of a book's parts are its call lines.
use mathlib.Core.Bool.{Bool, ◌&&◌, ◌||◌, false, true}
use mathlib.Core.List.{List, [], ◌∷◌}
use mathlib.Core.Logic.{inl, inr}
use mathlib.Core.Option.{none, some}
use mathlib.Core.Path.{◌≡◌}
use Prim.Native.Nat.{◌+◌, suc, zero, ℕ}
use native.Mathlib.Omega.{arith}
use lib.Dec.{T, eqb, eqb_refl, eqb→eq}
use Rattle.definition.specs.Part.{Book, Part, part_at}
use Rattle.definition.specs.Paths.{kind_number, kind_of, same_kind}
use Rattle.definition.specs.Reader.{Accepted, lines_of, read_book}
use Rattle.definition.specs.declared.format.Line.{Line}
use Rattle.definition.specs.declared.paths.PathKind.{PathKind}
use Rattle.soundness.specs.Groups.{EveryStep, SomeStep, StepLine, StepsAreLines, has_step, some_call, step_lines, step_lines_from}
use Rattle.definition.proofs.Tests.{and_left, and_right}
use Rattle.soundness.proofs.Logic.{both, or_cases, or_left, or_right}
use Rattle.soundness.proofs.Calls.{calls_mono, calls_step, exactly, same_kind_lem}
use Rattle.soundness.proofs.Reading.{in_book, in_lines, in_parts, lines_read}

-- ---- a step of a goal is one of the parts
abbrev exact_step : ℕ → ℕ → PathKind → ℕ → ℕ → PathKind → Bool
exact_step c y k caller goal kind = eqb caller c && exactly y k goal kind

module _ (wanted : ℕ → ℕ → PathKind → Bool) where
  -- of the part of goal c, the i-th of the parts from goal g on
  abbrev in_part : ℕ → List Part → ℕ → Bool
  in_part c ps i = elim (part_at ps i) [ none ↦ false | some p ↦ some_call (wanted c) p ]

  to_parts : (ps : List Part) (g i c : ℕ) → c ≡ g + i → T (in_part c ps i) → T (in_parts wanted g ps)
  to_parts [] g i c e t = absurd t
  to_parts (p ∷ ps) g zero c e t =
      let f : c ≡ g = omega arith in or_left (some_call (wanted g) p) (in_parts wanted (suc g) ps) (rw f at t)
  to_parts (p ∷ ps) g (suc i) c e t =
      or_right (some_call (wanted g) p) (in_parts wanted (suc g) ps) (to_parts ps (suc g) i c (omega arith) t)

  of_parts : {C : Type 0} (ps : List Part) (g : ℕ) → ((i c : ℕ) → c ≡ g + i → T (in_part c ps i) → C)
      → T (in_parts wanted g ps) → C
  of_parts [] g h t = absurd t
  of_parts (p ∷ ps) g h t =
      or_cases (some_call (wanted g) p) (in_parts wanted (suc g) ps) (h 0 g (omega arith))
      (λ s. of_parts ps (suc g) (λ i c e x. h (suc i) c (omega arith) x) s) t

module _ (b : Book) (c y : ℕ) (k : PathKind) where
  step_in_parts : T (has_step b c y k) → T (in_parts (exact_step c y k) 0 b.parts)
  step_in_parts t =
      to_parts (exact_step c y k) b.parts 0 c c (omega arith)
      (calls_mono (exactly y k) (exact_step c y k c)
      (λ goal kind s. both (eqb c c) (exactly y k goal kind) (eqb_refl c) s) b c t)

  step_of_parts : T (in_parts (exact_step c y k) 0 b.parts) → T (has_step b c y k)
  step_of_parts =
      of_parts (exact_step c y k) b.parts 0 λ i d e.
      calls_step b (exact_step c y k d) i λ goal kind s t.
      let at : T (exactly y k goal kind) = and_right (eqb d c) (exactly y k goal kind) s in
      let caller : i ≡ c = omega (arith, eqb→eq d c (and_left (eqb d c) (exactly y k goal kind) s)) in
      let called : goal ≡ y = eqb→eq goal y (and_left (eqb goal y) (same_kind kind k) at) in
      let same : kind ≡ k = same_kind_lem kind k (and_right (eqb goal y) (same_kind kind k) at) in
      rw same at (rw called at (rw caller at t))

-- ---- a call line is one of the lines, and a step of the lines has a call line
abbrev one_step : StepLine → ℕ → ℕ → PathKind → Bool
one_step s = exact_step s.caller s.goal s.kind

every_step_map : (P Q : StepLine → Type 0) → ((s : StepLine) → P s → Q s) → (ss : List StepLine) → EveryStep P ss
    → EveryStep Q ss
every_step_map P Q h [] v = tt
every_step_map P Q h (s ∷ ss) v = (h s v.0, every_step_map P Q h ss v.1)

-- the line l before the lines ls, by whether it is a goal's line and whether it is a call
module _ (m c : ℕ) (l : Line) (ls : List Line) where
  abbrev here : StepLine
  here = record { line = m; caller = c; goal = l.first; kind = kind_of l.second }

  abbrev pub steps_by : Bool → Bool → List StepLine
  steps_by x y =
      elim x [
        | true ↦ step_lines_from (suc m) l.first ls
        | false ↦ elim y [ true ↦ here ∷ step_lines_from (suc m) c ls | false ↦ step_lines_from (suc m) c ls ]
      ]

  abbrev wanted_by : (ℕ → ℕ → PathKind → Bool) → Bool → Bool → Bool
  wanted_by wanted x y =
      elim x [
        | true ↦ in_lines wanted l.first ls
        | false ↦ (y && wanted c l.first (kind_of l.second)) || in_lines wanted c ls
      ]

  every_by : ((n d : ℕ) → EveryStep (λ s. T (in_lines (one_step s) d ls)) (step_lines_from n d ls)) → (x y : Bool)
      → EveryStep (λ s. T (wanted_by (one_step s) x y)) (steps_by x y)
  every_by ih true y = ih (suc m) l.first
  every_by ih false true = (
    or_left (one_step here c l.first (kind_of l.second)) (in_lines (one_step here) c ls)
        (both (eqb c c) (exactly here.goal here.kind here.goal here.kind) (eqb_refl c)
        (both (eqb here.goal here.goal) (same_kind here.kind here.kind) (eqb_refl here.goal)
        (eqb_refl (kind_number here.kind)))),
    every_step_map (λ s. T (in_lines (one_step s) c ls)) (λ s. T (wanted_by (one_step s) false true))
        (λ s. or_right (one_step s c l.first (kind_of l.second)) (in_lines (one_step s) c ls))
        (step_lines_from (suc m) c ls) (ih (suc m) c),
  )
  every_by ih false false = ih (suc m) c

  module _ (wanted : ℕ → ℕ → PathKind → Bool) (P : StepLine → Type 0)
      (h : (s : StepLine) → T (wanted s.caller s.goal s.kind) → P s) where
    some_by : ((n d : ℕ) → T (in_lines wanted d ls) → SomeStep P (step_lines_from n d ls)) → (x y : Bool)
        → T (wanted_by wanted x y)
        → SomeStep P (steps_by x y)
    some_by ih true y t = ih (suc m) l.first t
    some_by ih false true t =
        or_cases (wanted c l.first (kind_of l.second)) (in_lines wanted c ls) (λ s. inl (h here s))
        (λ s. inr (ih (suc m) c s)) t
    some_by ih false false t = ih (suc m) c t

lines_of_lem : (ls : List Line) (m c : ℕ) → EveryStep (λ s. T (in_lines (one_step s) c ls)) (step_lines_from m c ls)
lines_of_lem [] m c = tt
lines_of_lem (l ∷ ls) m c = every_by m c l ls (λ n d. lines_of_lem ls n d) (eqb l.code 1) (eqb l.code 2)

some_line : (wanted : ℕ → ℕ → PathKind → Bool) (P : StepLine → Type 0)
    → ((s : StepLine) → T (wanted s.caller s.goal s.kind) → P s)
    → (ls : List Line) (m c : ℕ) → T (in_lines wanted c ls) → SomeStep P (step_lines_from m c ls)
some_line wanted P h [] m c t = absurd t
some_line wanted P h (l ∷ ls) m c t =
    some_by m c l ls wanted P h (λ n d. some_line wanted P h ls n d) (eqb l.code 1) (eqb l.code 2) t

-- ---- the book
book_calls : (wanted : ℕ → ℕ → PathKind → Bool) (bytes : List ℕ) (b : Book) (ls : List Line)
    → read_book bytes ≡ Accepted b
    → lines_of bytes ≡ some ls → in_book wanted ls ≡ in_parts wanted 0 b.parts
book_calls wanted bytes b ls e f =
    let (ls', g, read) = lines_read wanted bytes b e in
    let same : ls' ≡ ls = cc in
    rw same at read.calls

module _ (b : Book) where
  of_lines : (ls : List Line) → ((wanted : ℕ → ℕ → PathKind → Bool) → in_book wanted ls ≡ in_parts wanted 0 b.parts)
      → EveryStep (λ s. T (has_step b s.caller s.goal s.kind)) (step_lines ls)
  of_lines [] calls = tt
  of_lines (header ∷ ls) calls =
      every_step_map (λ s. T (in_lines (one_step s) 0 ls)) (λ s. T (has_step b s.caller s.goal s.kind))
      (λ s t. step_of_parts b s.caller s.goal s.kind (rw (calls (one_step s)) at t)) (step_lines_from 1 0 ls)
      (lines_of_lem ls 1 0)

  abbrev pub Is : ℕ → ℕ → PathKind → StepLine → Type 0
  Is c y k s = (s.caller ≡ c) × (s.goal ≡ y) × (s.kind ≡ k)

  is_it : (c y : ℕ) (k : PathKind) (s : StepLine) → T (exact_step c y k s.caller s.goal s.kind) → Is c y k s
  is_it c y k s t =
      let at : T (exactly y k s.goal s.kind) = and_right (eqb s.caller c) (exactly y k s.goal s.kind) t in (
        eqb→eq s.caller c (and_left (eqb s.caller c) (exactly y k s.goal s.kind) t),
        eqb→eq s.goal y (and_left (eqb s.goal y) (same_kind s.kind k) at),
        same_kind_lem s.kind k (and_right (eqb s.goal y) (same_kind s.kind k) at),
      )

  has_line : (c y : ℕ) (k : PathKind) (ls : List Line) → T (in_book (exact_step c y k) ls)
      → SomeStep (Is c y k) (step_lines ls)
  has_line c y k [] t = absurd t
  has_line c y k (header ∷ ls) t = some_line (exact_step c y k) (Is c y k) (is_it c y k) ls 1 0 t

pub steps_are_lines : (bytes : List ℕ) (b : Book) (ls : List Line) → read_book bytes ≡ Accepted b
    → lines_of bytes ≡ some ls → StepsAreLines b ls
steps_are_lines bytes b ls e f =
    record {
      lines = of_lines b ls (λ wanted. book_calls wanted bytes b ls e f);
      steps =
          λ c y k t. has_line b c y k ls (rw (book_calls (exact_step c y k) bytes b ls e f) (step_in_parts b c y k t));
    }
