-- What the sets of specs/Sets.antt are, on examples: a wrong version of one makes a fact of this file false.
use mathlib.Core.Bool.{Bool, false, true}
use mathlib.Core.List.{List, [], ◌∷◌}
use mathlib.Core.Path.{◌≡◌, refl}
use Prim.Native.Nat.{suc, zero, ℕ}
use Rattle.definition.specs.Part.{All, Any, Book, Call, End, Node, Op, Part, Parts, Pick, Then, UndecidedLine}
use Rattle.definition.specs.declared.paths.PathKind.{PathKind}
use Rattle.definition.specs.declared.paths.PathKind.TheVariants.{Inductive}
use Rattle.soundness.specs.Sets.{Closed, Goals, GreatestSelfSupporting, LeastClosed, SelfSupporting, greatest, holds, least, no_goals}
use Rattle.soundness.proofs.SampleBooks.{header}

-- ---- what a part needs
module _ (reading : Bool) (s : Goals) where
  empty_all_lem : holds reading s (Node All End) ≡ true
  empty_all_lem = refl

  empty_any_lem : (holds reading s (Node Any End) ≡ false) × (holds reading s (Node Pick End) ≡ false)
  empty_any_lem = (refl, refl)

  undecided_as_read : holds reading s UndecidedLine ≡ reading
  undecided_as_read = refl

  call_of_any_kind : (goal : ℕ) (kind : PathKind) (lower : Bool) → holds reading s (Call goal kind lower) ≡ s goal
  call_of_any_kind goal kind lower = refl

abbrev call : ℕ → Part
call goal = Call goal Inductive true

abbrev two : ℕ → ℕ → Parts
two i j = Then (call i) (Then (call j) End)

-- goal 1 alone
abbrev one : Goals
one zero = false
one (suc zero) = true
one (suc (suc n)) = false

module _ (reading : Bool) where
  -- whether it holds of goals 0 and 1, of 1 and 0, of 1 and 1, and of 0 and 0
  abbrev of_two : Op → List Bool
  of_two op =
      holds reading one (Node op (two 0 1)) ∷ holds reading one (Node op (two 1 0))
      ∷ holds reading one (Node op (two 1 1)) ∷ holds reading one (Node op (two 0 0)) ∷ []

  all_needs_both : of_two All ≡ false ∷ false ∷ true ∷ false ∷ []
  all_needs_both = refl

  any_needs_one : of_two Any ≡ true ∷ true ∷ true ∷ false ∷ []
  any_needs_one = refl

  pick_needs_one : of_two Pick ≡ true ∷ true ∷ true ∷ false ∷ []
  pick_needs_one = refl

-- ---- the sets of small books, goal by goal
abbrev of_three : Part → Part → Part → Book
of_three p q r = record { header = header 3 5; parts = p ∷ q ∷ r ∷ [] }

-- 0 calls 1, 1 calls 2, and 2 holds, or does not: a round for each goal
abbrev chain : Book
chain = of_three (call 1) (call 2) (Node All End)

abbrev broken : Book
broken = of_three (call 1) (call 2) (Node Any End)

-- 0 and 1 call each other, 2 is undecided
abbrev ring : Book
ring = of_three (call 1) (call 0) UndecidedLine

abbrev members : Goals → List Bool
members s = s 0 ∷ s 1 ∷ s 2 ∷ s 3 ∷ []

module _ (reading : Bool) where
  least_of_chain : members (least chain reading) ≡ true ∷ true ∷ true ∷ false ∷ []
  least_of_chain = refl

  greatest_of_broken : members (greatest broken reading) ≡ false ∷ false ∷ false ∷ false ∷ []
  greatest_of_broken = refl

  least_of_ring : members (least ring reading) ≡ false ∷ false ∷ reading ∷ false ∷ []
  least_of_ring = refl

  greatest_of_ring : members (greatest ring reading) ≡ true ∷ true ∷ reading ∷ false ∷ []
  greatest_of_ring = refl

-- ---- what makes a set the least, or the greatest

-- goals 0 and 1
abbrev both : Goals
both zero = true
both (suc zero) = true
both (suc (suc n)) = false

module _ (reading : Bool) where
  -- a round adds a goal to the empty set in the chain, and none in the broken one
  not_closed : Closed chain reading no_goals → ⊥
  not_closed c = c 2 tt

  empty_closed : Closed broken reading no_goals
  empty_closed zero t = t
  empty_closed (suc zero) t = t
  empty_closed (suc (suc zero)) t = t
  empty_closed (suc (suc (suc n))) t = t

  -- a round drops goal 1 in the broken chain, and none in the ring
  not_supporting : SelfSupporting broken reading both → ⊥
  not_supporting c = c 1 tt

  both_supporting : SelfSupporting ring reading both
  both_supporting zero t = t
  both_supporting (suc zero) t = t
  both_supporting (suc (suc n)) t = absurd t

  least_is_closed : LeastClosed chain reading no_goals → ⊥
  least_is_closed l = l.closed 2 tt

  least_is_least : LeastClosed broken reading both → ⊥
  least_is_least l = l.in_every no_goals empty_closed 0 tt

  greatest_is_supporting : GreatestSelfSupporting broken reading both → ⊥
  greatest_is_supporting g = g.self_supporting 1 tt

  greatest_is_greatest : GreatestSelfSupporting ring reading no_goals → ⊥
  greatest_is_greatest g = g.has_every both both_supporting 0 tt
