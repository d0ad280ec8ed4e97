-- What is said of combining answers: the laws that proofs go by, and document 02's rule (item 4) in its own words.
use Rattle.std.specs.Prelude.{◌≡◌, ◌≢◌, Bool, true, false, ◌||◌, List, [], ◌∷◌, ℕ}
use Rattle.definition.specs.declared.answers.Answer.{Answer}
use Rattle.definition.specs.declared.answers.Answer.TheVariants.{No, Yes, Undecided, Overflow}
use Rattle.definition.specs.declared.replies.Refusal.{Refusal}
use Rattle.definition.specs.Answers.{same_answer, is_ambiguous}
use Rattle.definition.specs.Part.{All, Any, Pick, Part, Parts, Node, End, Then}
use Rattle.definition.specs.Graph.{Graph, Outcome, Done, Stopped, and_then}
use Rattle.definition.specs.Candidates.{enter_single_candidate, finish_single_candidate}
use Rattle.definition.specs.Evaluate.{Evaluator, eval_part}

-- ---- the laws, of any way to combine two answers
pub record Combines (join : Answer → Answer → Answer) : Type 0 where
  pub associative : (a b c : Answer) → join (join a b) c ≡ join a (join b c)
  pub commutative : (a b : Answer) → join a b ≡ join b a
  -- what any and pick begin with; what all does, which a No decides
  pub from_no : (a : Answer) → join No a ≡ a
  pub from_yes : (a : Answer) → a ≢ No → join Yes a ≡ a
  -- a Yes or No is what it was: two of them make a Yes or No, and nothing else does
  pub ambiguous : (a b : Answer) → is_ambiguous (join a b) ≡ is_ambiguous a || is_ambiguous b

-- ---- the rule: what all, any and pick come to, by the answers that they met

abbrev pub met : Answer → List Answer → Bool
met a [] = false
met a (b ∷ bs) = same_answer b a || met a bs

-- where neither No nor Yes decides; `empty` is the answer of no parts
abbrev pub maybe : Answer → List Answer → Answer
maybe empty xs =
    elim (met Undecided xs) [ true ↦ Undecided | false ↦ elim (met Overflow xs) [ true ↦ Overflow | false ↦ empty ] ]

abbrev pub verdict : Answer → Answer → List Answer → Answer
verdict deciding empty xs = elim (met deciding xs) [ true ↦ deciding | false ↦ maybe empty xs ]

-- the answers that parts come to, one after the other, and the graph that is left
pub data Meeting : Type 0 where
  Met : List Answer → Graph → Meeting
  Halted : Refusal → Meeting

abbrev pub met_first : Answer → Meeting → Meeting
met_first a (Met xs g) = Met (a ∷ xs) g
met_first a (Halted r) = Halted r

module _ (evaluate : Part → Graph → Outcome) (last : Answer → Bool) where
  abbrev pub meet : Parts → Graph → Meeting
  meet End g = Met [] g
  meet (Then p ps) g =
      elim (evaluate p g) [
        | Done g1 a ↦ met_first a (elim (last a) [ true ↦ Met [] g1 | false ↦ meet ps g1 ])
        | Stopped r ↦ Halted r
      ]

abbrev pub settled : Answer → Answer → Meeting → Outcome
settled deciding empty (Met xs g) = Done g (verdict deciding empty xs)
settled deciding empty (Halted r) = Stopped r

-- no answer, or this one
abbrev pub Only : Answer → Outcome → Type 0
Only a (Done g b) = b ≡ a
Only a (Stopped r) = Unit {0}

module _ (evaluate : Evaluator) (goals : ℕ) where
  abbrev pub part : Part → Graph → Outcome
  part p g = eval_part evaluate goals p g

  abbrev pub candidate : Part → Graph → Outcome
  candidate p g = and_then (part p (enter_single_candidate goals g)) λ g1 a. Done (finish_single_candidate g1) a

  -- all stops at a No, any at a Yes, pick at nothing; of a pick with a Yes the answer is said, not what is left
  pub record WhichMaybe : Type 0 where
    pub all : (ps : Parts) (g : Graph) → part (Node All ps) g ≡ settled No Yes (meet part (λ a. same_answer a No) ps g)
    pub any : (ps : Parts) (g : Graph) → part (Node Any ps) g ≡ settled Yes No (meet part (λ a. same_answer a Yes) ps g)
    pub pick : (ps : Parts) (g h : Graph) (xs : List Answer) → meet candidate (λ a. false) ps g ≡ Met xs h
        → met Yes xs ≡ false → part (Node Pick ps) g ≡ Done h (maybe No xs)
    pub pick_yes : (ps : Parts) (g h : Graph) (xs : List Answer) → meet candidate (λ a. false) ps g ≡ Met xs h
        → met Yes xs ≡ true → Only Yes (part (Node Pick ps) g)
