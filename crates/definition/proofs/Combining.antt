-- The laws of combining answers, each by one test of all of them.
use mathlib.Core.Path.{◌≡◌, refl}
use mathlib.Core.Logic.{◌≢◌}
use mathlib.Core.Bool.{Bool, true, false, ◌&&◌, ◌||◌, beq}
use lib.Dec.{T}
use Rattle.definition.specs.declared.answers.Answer.{Answer}
use Rattle.definition.specs.declared.answers.Answer.TheVariants.{No, Yes, Undecided, Overflow}
use Rattle.definition.specs.Answers.{combine, is_ambiguous, same_answer}
use Rattle.definition.specs.Combining.{Combines}
use Rattle.definition.proofs.Numbers.{same→≡}
use Rattle.definition.proofs.Tests.{and_left, and_right}

-- a test of every answer
abbrev every : (Answer → Bool) → Bool
every f = f No && (f Yes && (f Undecided && f Overflow))

at : (f : Answer → Bool) → T (every f) → (a : Answer) → T (f a)
at f t No = and_left (f No) _ t
at f t Yes = and_left (f Yes) _ (and_right (f No) _ t)
at f t Undecided = and_left (f Undecided) _ (and_right (f Yes) _ (and_right (f No) _ t))
at f t Overflow = and_right (f Undecided) _ (and_right (f Yes) _ (and_right (f No) _ t))

-- and of every two
at_two : (f : Answer → Answer → Bool) → T (every λ a. every (f a)) → (a b : Answer) → T (f a b)
at_two f t a b = at (f a) (at (λ a. every (f a)) t a) b

pub combines : Combines combine
unfolding combine
combines =
    record {
      associative = λ a b c.
          same→≡ _ _
          (at_two (λ b c. same_answer (combine (combine a b) c) (combine a (combine b c)))
          (at (λ a. every λ b. every λ c. same_answer (combine (combine a b) c) (combine a (combine b c))) tt a) b c);
      commutative = λ a b. same→≡ _ _ (at_two (λ a b. same_answer (combine a b) (combine b a)) tt a b);
      from_no = λ a. same→≡ _ _ (at (λ a. same_answer (combine No a) a) tt a);
      from_yes = after_yes;
      ambiguous = maybes;
    }
  where
    after_yes : (a : Answer) → a ≢ No → combine Yes a ≡ a
    after_yes No h = absurd (h refl)
    after_yes Yes h = refl
    after_yes Undecided h = refl
    after_yes Overflow h = refl

    equal : (s t : Bool) → T (beq s t) → s ≡ t
    equal true true e = refl
    equal true false e = absurd e
    equal false true e = absurd e
    equal false false e = refl

    maybes : (a b : Answer) → is_ambiguous (combine a b) ≡ is_ambiguous a || is_ambiguous b
    maybes a b = equal _ _ (at_two (λ x y. beq (is_ambiguous (combine x y)) (is_ambiguous x || is_ambiguous y)) tt a b)
