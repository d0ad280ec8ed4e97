-- What specs/Groups.antt says, on examples: a wrong version makes a fact of this file false.
use mathlib.Core.Bool.{Bool, ◌&&◌, ◌||◌, false, not, true}
use mathlib.Core.List.{List, [], ◌∷◌}
use mathlib.Core.Logic.{◌⊎◌, inl, inr}
use mathlib.Core.Path.{◌≡◌, refl}
use Prim.Native.Nat.{suc, zero, ℕ}
use native.Mathlib.Omega.{arith}
use lib.Dec.{T, eqb, eqb→eq}
use Rattle.definition.specs.Part.{All, Any, Book, Call, End, Node, Then, UndecidedLine}
use Rattle.definition.specs.Usages.{counter_limit}
use Rattle.definition.specs.declared.paths.PathKind.TheVariants.{Coinductive, Inductive}
use Rattle.soundness.specs.Groups.{ByGroups, CallsFirst, Choice, Chosen, Fits, Greatest, GroupsFit, Inside, Least, OneKindEach, RightByGroups, StepsAreLines, Way, build_groups, group_round, grouped, has_step, linked, reaches, step_lines}
use Rattle.soundness.specs.Sets.{Goals, greatest, least, no_goals}
use Rattle.soundness.proofs.SampleBooks.{header, mixed_book, mixed_bytes, mixed_lines, mixed_queries, torn_book}

-- 0 and 1 call each other by inductive steps, 2 itself by a coinductive one, and 0; 3 is undecided
abbrev four : Book
four =
    record {
      header = header 4 5;
      parts =
          Node All (Then (Call 1 Inductive true) End)
          ∷ Call 0 Inductive true
          ∷ Node Any (Then (Call 2 Coinductive true) (Then (Call 0 Inductive true) End))
          ∷ UndecidedLine ∷ [];
    }

abbrev row : (ℕ → Bool) → List Bool
row s = s 0 ∷ s 1 ∷ s 2 ∷ s 3 ∷ []

-- ---- steps: a call at any place of a part, with its goal and kind
steps_of_2 : row (λ goal. has_step four 2 goal Inductive) ≡ true ∷ false ∷ false ∷ false ∷ []
steps_of_2 = refl

steps_of_kind : row (λ goal. has_step four 2 goal Coinductive) ≡ false ∷ false ∷ true ∷ false ∷ []
steps_of_kind = refl

steps_below : row (λ goal. has_step four 0 goal Inductive) ≡ false ∷ true ∷ false ∷ false ∷ []
steps_below = refl

-- ---- a goal reaches itself, and what a chain of calls leads to
reaching : row (reaches four 0) ∷ row (reaches four 1) ∷ row (reaches four 2) ∷ row (reaches four 3) ∷ []
    ≡ (true ∷ true ∷ false ∷ false ∷ []) ∷ (true ∷ true ∷ false ∷ false ∷ []) ∷ (true ∷ true ∷ true ∷ false ∷ [])
    ∷ (false ∷ false ∷ false ∷ true ∷ []) ∷ []
unfolding reaches
reaching = refl

-- each reaches the other
linking : row (linked four 0) ∷ row (linked four 2) ∷ row (linked four 3) ∷ []
    ≡ (true ∷ true ∷ false ∷ false ∷ []) ∷ (false ∷ false ∷ true ∷ false ∷ []) ∷ (false ∷ false ∷ false ∷ true ∷ [])
    ∷ []
unfolding reaches
linking = refl

-- ---- a step inside has both ends in the group
module _ where
  leaves : Inside four 2 2 0 Inductive → ⊥
  unfolding reaches
  leaves i = i.to

  enters : Inside four 0 2 0 Inductive → ⊥
  unfolding reaches
  enters i = i.from

  no_such_step : Inside four 0 0 1 Coinductive → ⊥
  no_such_step i = i.step

  inductive_inside : Inside four 0 0 1 Inductive
  unfolding reaches
  inductive_inside = record { step = tt; from = tt; to = tt }

  coinductive_inside : Inside four 2 2 2 Coinductive
  unfolding reaches
  coinductive_inside = record { step = tt; from = tt; to = tt }

-- ---- the choices that fit
not_least : Fits four Least 2 → ⊥
not_least f = f 2 2 coinductive_inside

not_greatest : Fits four Greatest 0 → ⊥
not_greatest f = f 0 1 inductive_inside

not_both : (a b : Bool) → T (a && b) → T b
not_both true b t = t
not_both false b t = absurd t

or_none : (a : Bool) → T (a || false) → T a
or_none true t = tt
or_none false t = t

least_fits : Fits four Least 0
unfolding reaches
least_fits zero goal i = not_both (eqb 1 goal) false (or_none (eqb 1 goal && false) i.step)
least_fits (suc zero) goal i = not_both (eqb 0 goal) false i.step
least_fits (suc (suc zero)) goal i = i.from
least_fits (suc (suc (suc zero))) goal i = i.step
least_fits (suc (suc (suc (suc c)))) goal i = i.step

-- one goal with steps of both kinds to itself fits neither choice
torn : OneKindEach torn_book → ⊥
unfolding reaches
torn m = go (m 0)
  where
    go : Fits torn_book Least 0 ⊎ Fits torn_book Greatest 0 → ⊥
    go (inl f) = f 0 0 (record { step = tt; from = tt; to = tt })
    go (inr f) = f 0 0 (record { step = tt; from = tt; to = tt })

-- goals of one group have one choice
abbrev split : ℕ → Choice
split zero = Least
split (suc g) = Greatest

one_choice : Chosen four split → ⊥
unfolding reaches
one_choice c = go (c.one 0 1 tt)
  where
    tell : Choice → ℕ
    tell Least = 0
    tell Greatest = 1

    go : split 1 ≡ split 0 → ⊥
    go e = let n : tell (split 1) ≡ tell (split 0) = λ i. tell (e i) in omega arith

-- ---- the set, goal by goal
abbrev fitting : ℕ → Choice
fitting zero = Least
fitting (suc zero) = Least
fitting (suc (suc g)) = Greatest

module _ (reading : Bool) where
  by_its_choice : row (grouped four fitting (0 ∷ 2 ∷ 3 ∷ []) reading) ≡ false ∷ false ∷ true ∷ reading ∷ []
  unfolding reaches
  by_its_choice = refl

  all_least_lem : row (grouped four (λ g. Least) (0 ∷ 2 ∷ 3 ∷ []) reading) ≡ false ∷ false ∷ false ∷ reading ∷ []
  unfolding reaches
  all_least_lem = refl

  all_greatest_lem : row (grouped four (λ g. Greatest) (0 ∷ 2 ∷ 3 ∷ []) reading) ≡ true ∷ true ∷ true ∷ reading ∷ []
  unfolding reaches
  all_greatest_lem = refl

  -- a group leaves the others as they are
  only_its_group : row (build_groups four (λ g. Greatest) reading (2 ∷ []) no_goals) ≡ false ∷ false ∷ true ∷ false ∷ []
  unfolding reaches
  only_its_group = refl

-- a chain of calls below a group counts as it was built: 2 needs itself and 1, which needs 0, which holds
abbrev tower : Book
tower =
    record {
      header = header 3 5;
      parts =
          Node All End ∷ Call 0 Inductive true ∷ Node All
          (Then (Call 2 Coinductive true) (Then (Call 1 Inductive true) End)) ∷ [];
    }

module _ (reading : Bool) where
  built_upwards : row (grouped tower split (0 ∷ 1 ∷ 2 ∷ []) reading) ≡ true ∷ true ∷ true ∷ false ∷ []
  unfolding reaches
  built_upwards = refl

  -- what it calls is held fixed, and not built again
  built_downwards : row (grouped tower split (2 ∷ 1 ∷ 0 ∷ []) reading) ≡ true ∷ false ∷ false ∷ false ∷ []
  unfolding reaches
  built_downwards = refl

-- so the groups that are called come first, and every goal has its turn
caller_first : CallsFirst tower no_goals (2 ∷ 1 ∷ 0 ∷ []) → ⊥
unfolding reaches
caller_first c = c.0 1 tt

one_left_out : CallsFirst tower no_goals (0 ∷ 1 ∷ []) → ⊥
unfolding reaches
one_left_out c = c.1.1 2 (omega arith)

-- ---- what such a set is
abbrev among : List Bool → Goals
among [] g = false
among (x ∷ xs) zero = x
among (x ∷ xs) (suc g) = among xs g

far : (k : ℕ) → T (linked four 2 (suc (suc (suc (suc k))))) → ⊥
unfolding reaches
far k l =
    let m : ℕ = suc (suc (suc (suc k))) in
    let t : T (eqb m 2) = or_none (eqb m 2) (not_both (reaches four 2 m) (eqb m 2 || false) l) in
    let e : m ≡ 2 = eqb→eq m 2 t in omega arith

module _ (reading : Bool) where
  is_closed : ByGroups tower split reading (among (false ∷ true ∷ true ∷ [])) → ⊥
  is_closed v = v.closed 0 tt

  is_supporting : ByGroups four fitting reading (among (true ∷ false ∷ true ∷ reading ∷ [])) → ⊥
  is_supporting v = v.self_supporting 0 tt

  -- the ring may stand or fall: least, it falls
  is_least : ByGroups four fitting reading (among (true ∷ true ∷ true ∷ reading ∷ [])) → ⊥
  unfolding reaches
  is_least v = v.least 0 refl no_goals without 0 tt tt
    where
      without : (k : ℕ) → T (linked four 0 k)
          → T (group_round four reading 0 (among (true ∷ true ∷ true ∷ reading ∷ [])) no_goals k) → T (no_goals k)
      without zero l t = t
      without (suc zero) l t = t
      without (suc (suc zero)) l t = l
      without (suc (suc (suc zero))) l t = l
      without (suc (suc (suc (suc k)))) l t = t

  -- 2 may stand or fall: greatest, it stands
  is_greatest : ByGroups four fitting reading (among (false ∷ false ∷ false ∷ reading ∷ [])) → ⊥
  unfolding reaches
  is_greatest v = v.greatest 2 refl (λ k. true) supported 2 tt tt
    where
      supported : (k : ℕ) → T (linked four 2 k) → T true
          → T (group_round four reading 2 (among (false ∷ false ∷ false ∷ reading ∷ [])) (λ y. true) k)
      supported zero l t = absurd l
      supported (suc zero) l t = absurd l
      supported (suc (suc zero)) l t = tt
      supported (suc (suc (suc zero))) l t = absurd l
      supported (suc (suc (suc (suc k)))) l t = absurd (far k l)

-- ---- the claims

-- of every choice that fits, every order, every list and every length of the cache
module _ (right : RightByGroups) (choice : ℕ → Choice) (c : Chosen mixed_book choice) (order : List ℕ)
    (o : CallsFirst mixed_book no_goals order) where
  yes_of_the_set : (reading : Bool) → T (grouped mixed_book choice order reading 1)
  unfolding counter_limit
  yes_of_the_set = (right mixed_bytes mixed_book refl choice c order o 84 mixed_queries).0.when_yes refl

  no_of_the_set : (reading : Bool) → T (not (grouped mixed_book choice order reading 0))
  unfolding counter_limit
  no_of_the_set = (right mixed_bytes mixed_book refl choice c order o 84 mixed_queries).1.0.when_no refl

module _ (b : Book) (fit : GroupsFit b) where
  reaching_is : (from goal : ℕ) → (T (reaches b from goal) → Way b goal from)
      × (Way b goal from → T (reaches b from goal))
  reaching_is from goal = (fit.way from goal, fit.reached from goal)

  condition_is : (OneKindEach b → (choice : ℕ → Choice) × Chosen b choice)
      × ((choice : ℕ → Choice) → Chosen b choice → OneKindEach b)
  condition_is = (fit.choice, fit.condition)

  module _ (order : List ℕ) (o : CallsFirst b no_goals order) (reading : Bool) where
    the_set : (choice : ℕ → Choice) → Chosen b choice
        → ByGroups b choice reading (grouped b choice order reading)
        × ((s : Goals) → ByGroups b choice reading s → s ≡ grouped b choice order reading)
    the_set choice c = (fit.set choice c order o reading, fit.only choice c order o reading)

    one_choice_for_all : (grouped b (λ g. Least) order reading ≡ least b reading)
        × (grouped b (λ g. Greatest) order reading ≡ greatest b reading)
    one_choice_for_all = (fit.all_least order o reading, fit.all_greatest order o reading)

-- ---- the lines: the header is line 0, a line's caller is that of the goal line before it
lines_of_mixed : step_lines mixed_lines
    ≡ record { line = 2; caller = 0; goal = 0; kind = Inductive } ∷ record
    { line = 5; caller = 1; goal = 0; kind = Inductive }
    ∷ record { line = 6; caller = 1; goal = 1; kind = Coinductive } ∷ []
lines_of_mixed = refl

-- a line that is no step, and a step that has no line
no_step_there : StepsAreLines four mixed_lines → ⊥
no_step_there v = v.lines.0

no_line_there : StepsAreLines mixed_book [] → ⊥
no_line_there v = v.steps 0 0 Inductive tt
