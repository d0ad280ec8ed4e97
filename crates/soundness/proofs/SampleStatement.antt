-- What specs/Statement.antt says, on examples: a wrong version makes a fact of this file false.
use mathlib.Core.Bool.{Bool, false, not, true}
use mathlib.Core.List.{List, [], ◌∷◌}
use mathlib.Core.Path.{◌≡◌, refl, subst}
use Prim.Native.Nat.{ℕ}
use native.Mathlib.Omega.{arith}
use lib.Dec.{T, eqb}
use lib.ListN.{replicate}
use Rattle.definition.specs.Answers.{same_answer}
use Rattle.definition.specs.Part.{Book}
use Rattle.definition.specs.Query.{Reply}
use Rattle.definition.specs.Usages.{counter_limit}
use Rattle.definition.specs.declared.answers.Answer.{Answer}
use Rattle.definition.specs.declared.answers.Answer.TheVariants.{No, Overflow, Undecided, Yes}
use Rattle.definition.specs.declared.paths.PathKind.TheVariants.{Coinductive, Inductive}
use Rattle.definition.specs.declared.replies.Refusal.{Refusal}
use Rattle.definition.specs.Answers.{Response}
use Rattle.std.specs.Prelude.{Ok, Err}
use Rattle.soundness.specs.Sets.{Goals, greatest, least}
use Rattle.soundness.specs.Statement.{AllRight, Demand3, NoStep, Query, RightReply, RightWithout}
use Rattle.soundness.proofs.SampleBooks.{at_depth, book, bytes, empty_all, line, lines, queries}

-- ---- a right reply
abbrev replying : Response → Reply
replying r = record { response = r; cache = []; work = [] }

abbrev says : Answer → Response → Bool
says a (Ok b) = same_answer a b
says a (Err r) = false

apart : (a : Answer) (r : Response) → r ≡ Ok a → T (not (says a r)) → T (not (says a (Ok a)))
apart a r e t = subst (λ (x : Response). T (not (says a x))) e t

-- a Yes says that the goal is in the set, under both readings, and a No that it is outside
module _ (goal : ℕ) where
  yes_under_false : RightReply (λ reading g. reading) goal (replying (Ok Yes)) → ⊥
  yes_under_false r = r.when_yes refl false

  yes_under_true : RightReply (λ reading g. not reading) goal (replying (Ok Yes)) → ⊥
  yes_under_true r = r.when_yes refl true

  no_under_true : RightReply (λ reading g. reading) goal (replying (Ok No)) → ⊥
  no_under_true r = r.when_no refl true

  no_under_false : RightReply (λ reading g. not reading) goal (replying (Ok No)) → ⊥
  no_under_false r = r.when_no refl false

-- it is the goal that was asked
yes_of_its_goal : RightReply (λ reading goal. eqb goal 1) 0 (replying (Ok Yes)) → ⊥
yes_of_its_goal r = r.when_yes refl true

-- another answer, and a refusal, says nothing
unclaimed : (set : Bool → Goals) (goal : ℕ) (y : Reply)
    → T (not (says Yes y.response)) → T (not (says No y.response)) → RightReply set goal y
unclaimed set goal y t u =
    record { when_yes = λ e. absurd (apart Yes y.response e t); when_no = λ e. absurd (apart No y.response e u) }

nothing_said : (set : Bool → Goals) (goal : ℕ) (r : Refusal)
    → RightReply set goal (replying (Ok Undecided)) × RightReply set goal (replying (Ok Overflow))
    × RightReply set goal (replying (Err r))
nothing_said set goal r = (unclaimed set goal _ tt tt, unclaimed set goal _ tt tt, unclaimed set goal _ tt tt)

-- ---- a list of queries

-- the success slot of goal 0 says No at depth 5, where an empty all is Yes: at depth 1 the two conflict, and the cache is
-- cleared
abbrev conflicting : List ℕ
conflicting = 1 ∷ 0 ∷ 5 ∷ 1 ∷ replicate 31 0

abbrev after_conflict : List Query
after_conflict = at_depth 1 ∷ at_depth 5 ∷ []

-- the claim is of every query, of the first one too
later_queries_count : AllRight (λ reading goal. false) empty_all conflicting after_conflict → ⊥
unfolding counter_limit
later_queries_count a = a.1.0.when_yes refl true

first_query_counts : AllRight (λ reading goal. true) empty_all conflicting (at_depth 5 ∷ []) → ⊥
unfolding counter_limit
first_query_counts a = a.0.when_no refl true

-- the second query has the cache as the first left it, so that its answer is Yes
cache_is_carried : AllRight (λ reading goal. true) empty_all conflicting after_conflict
unfolding counter_limit
cache_is_carried =
    (unclaimed _ _ _ tt tt, (record { when_yes = λ e reading. tt; when_no = λ e. absurd (apart No (Ok Yes) e tt) }, tt))

-- ---- books without steps of a kind

-- every line counts
a_coinductive_step : NoStep Coinductive (line 2 0 0 1 0 ∷ line 2 0 2 1 0 ∷ []) → ⊥
a_coinductive_step n = n.1.0 refl refl

an_inductive_step : NoStep Inductive (line 2 0 2 1 0 ∷ line 2 0 0 1 0 ∷ []) → ⊥
an_inductive_step n = n.1.0 refl refl

-- calls by the other three kinds, and a line with the kind's number that is no call
three_kinds : NoStep Coinductive (line 1 1 2 1 1 ∷ line 2 0 0 1 0 ∷ line 2 0 1 1 0 ∷ line 2 0 3 1 0 ∷ [])
three_kinds = (λ e h. omega arith, (λ e h. omega arith, (λ e h. omega arith, (λ e h. omega arith, tt))))

other_three_kinds : NoStep Inductive (line 1 1 0 1 1 ∷ line 2 0 1 1 0 ∷ line 2 0 2 1 0 ∷ line 2 0 3 1 0 ∷ [])
other_three_kinds = (λ e h. omega arith, (λ e h. omega arith, (λ e h. omega arith, (λ e h. omega arith, tt))))

-- ---- demand 3

-- whatever set the claim is made of: the last of the queries is answered No in the one book, and Yes in the other
called_by_inductive : (set : Book → Bool → Goals) → RightWithout Coinductive set
    → (reading : Bool) → T (not (set (book Inductive) reading 0))
unfolding counter_limit
called_by_inductive set right =
    (right (bytes 0) (book Inductive) (lines 0) refl refl no_step 35 queries).1.1.0.when_no refl
  where
    no_step : NoStep Coinductive (lines 0)
    no_step = (λ e h. omega arith, (λ e h. omega arith, (λ e h. omega arith, tt)))

called_by_coinductive : (set : Book → Bool → Goals) → RightWithout Inductive set
    → (reading : Bool) → T (set (book Coinductive) reading 0)
unfolding counter_limit
called_by_coinductive set right =
    (right (bytes 2) (book Coinductive) (lines 2) refl refl no_step 35 queries).1.1.0.when_yes refl
  where
    no_step : NoStep Inductive (lines 2)
    no_step = (λ e h. omega arith, (λ e h. omega arith, (λ e h. omega arith, tt)))

-- so the claim with the two sets swapped is wrong, and demand 3 is the other one
not_of_greatest : RightWithout Coinductive greatest → ⊥
not_of_greatest right = called_by_inductive greatest right true

not_of_least : RightWithout Inductive least → ⊥
not_of_least right = called_by_coinductive least right true

both_claims : Demand3 → RightWithout Coinductive least × RightWithout Inductive greatest
both_claims d = (d.no_coinductive_step, d.no_inductive_step)
