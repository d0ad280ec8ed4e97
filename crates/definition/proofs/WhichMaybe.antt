-- Document 02's rule on 2 and 3 (item 4), of whole lists of parts.
use mathlib.Core.Path.{◌≡◌, refl, ap, sym, ◌∙◌, subst}
use mathlib.Core.Bool.{Bool, true, false, ◌||◌, or_assoc, or-false}
use mathlib.Core.List.{List, [], ◌∷◌}
use Prim.Native.Nat.{ℕ}
use Rattle.definition.specs.declared.answers.Answer.{Answer}
use Rattle.definition.specs.declared.answers.Answer.TheVariants.{No, Yes, Undecided, Overflow}
use Rattle.definition.specs.declared.usages.HeadUsages.{HeadUsages}
use Rattle.definition.specs.declared.replies.Refusal.{Refusal}
use Rattle.definition.specs.Answers.{combine, same_answer}
use Rattle.definition.specs.Part.{Pick, Parts, Node, End, Then}
use Rattle.definition.specs.Graph.{Graph, Outcome, Done, Stopped, and_then}
use Rattle.definition.specs.Candidates.{no_candidate_usages, enter_single_candidate, finish_single_candidate, can_ignore}
use Rattle.definition.specs.Evaluate.{Evaluator, end_pick, eval_all, eval_any, eval_pick}
use Rattle.definition.specs.Combining.{Meeting, Met, Halted, Only, WhichMaybe}
use Rattle.definition.specs.Combining.{candidate, maybe, meet, met, met_first, part, settled}
use Rattle.definition.proofs.Combining.{combines}

-- ---- answers combined one after the other
abbrev fold : Answer → List Answer → Answer
fold c [] = c
fold c (a ∷ xs) = fold (combine c a) xs

-- `maybe`, by whether 2 and 3 are among the answers
abbrev maybe_by : Answer → Bool → Bool → Answer
maybe_by empty u o = elim u [ true ↦ Undecided | false ↦ elim o [ true ↦ Overflow | false ↦ empty ] ]

-- and by whether Yes is, where none decides
abbrev ranked : Bool → Bool → Bool → Answer
ranked u o y = maybe_by (elim y [ true ↦ Yes | false ↦ No ]) u o

one_more : (a : Answer) (u o y : Bool)
    → combine a (ranked u o y)
    ≡ ranked (same_answer a Undecided || u) (same_answer a Overflow || o) (same_answer a Yes || y)
unfolding combine
one_more No true o y = refl
one_more No false true y = refl
one_more No false false true = refl
one_more No false false false = refl
one_more Yes true o y = refl
one_more Yes false true y = refl
one_more Yes false false true = refl
one_more Yes false false false = refl
one_more Undecided true o y = refl
one_more Undecided false true y = refl
one_more Undecided false false true = refl
one_more Undecided false false false = refl
one_more Overflow true o y = refl
one_more Overflow false true y = refl
one_more Overflow false false true = refl
one_more Overflow false false false = refl

fold_from : (c : Answer) (xs : List Answer) → fold c xs ≡ combine c (fold No xs)
fold_from c [] = sym (combines.commutative c No ∙ combines.from_no c)
fold_from c (a ∷ xs) =
    fold_from (combine c a) xs ∙ combines.associative c a (fold No xs)
    ∙ ap (combine c) (sym (fold_from a xs) ∙ ap (λ (x : Answer). fold x xs) (sym (combines.from_no a)))

folded : (xs : List Answer) → fold No xs ≡ ranked (met Undecided xs) (met Overflow xs) (met Yes xs)
folded [] = refl
folded (a ∷ xs) =
    ap (λ (x : Answer). fold x xs) (combines.from_no a) ∙ fold_from a xs ∙ ap (combine a) (folded xs)
    ∙ one_more a (met Undecided xs) (met Overflow xs) (met Yes xs)

all_maybe : (xs : List Answer) → fold Yes xs ≡ maybe Yes xs
unfolding combine
all_maybe xs = fold_from Yes xs ∙ ap (combine Yes) (folded xs) ∙ go (met Undecided xs) (met Overflow xs) (met Yes xs)
  where
    go : (u o y : Bool) → combine Yes (ranked u o y) ≡ maybe_by Yes u o
    go true o y = refl
    go false true y = refl
    go false false true = refl
    go false false false = refl

any_maybe : (xs : List Answer) → met Yes xs ≡ false → fold No xs ≡ maybe No xs
any_maybe xs e = folded xs ∙ ap (ranked (met Undecided xs) (met Overflow xs)) e

-- ---- all and any
abbrev decides : Bool → Answer → Answer → Answer
decides t deciding a = elim t [ true ↦ deciding | false ↦ a ]

abbrev finished : Answer → Answer → Meeting → Outcome
finished deciding c (Met xs g) = Done g (decides (met deciding xs) deciding (fold c xs))
finished deciding c (Halted r) = Stopped r

module _ (deciding c : Answer) where
  -- by whether the first part's answer decides
  one_part : (a : Answer) (t : Bool) → same_answer a deciding ≡ t → (g : Graph) (left : Meeting) (o : Outcome)
      → o ≡ finished deciding (combine c a) left
      → elim t [ true ↦ Done g deciding | false ↦ o ]
      ≡ finished deciding c (met_first a (elim t [ true ↦ Met [] g | false ↦ left ]))
  one_part a true e g left o h = ap (λ (t : Bool). Done g (decides (t || false) deciding (combine c a))) (sym e)
  one_part a false e g (Met xs g1) o h =
      h ∙ ap (λ (t : Bool). Done g1 (decides (t || met deciding xs) deciding (fold (combine c a) xs))) (sym e)
  one_part a false e g (Halted r) o h = h

  part_then : (o : Outcome) (next : Graph → Answer → Outcome) (left : Graph → Meeting)
      → ((g : Graph) (a : Answer) → next g a ≡ finished deciding (combine c a) (left g))
      → and_then o (λ g a. elim (same_answer a deciding) [ true ↦ Done g deciding | false ↦ next g a ])
      ≡ finished deciding c
      (elim o [
        | Done g a ↦ met_first a (elim (same_answer a deciding) [ true ↦ Met [] g | false ↦ left g ])
        | Stopped r ↦ Halted r
      ])
  part_then (Done g a) next left h = one_part a (same_answer a deciding) refl g (left g) (next g a) (h g a)
  part_then (Stopped r) next left h = refl

all_settled : (m : Meeting) → finished No Yes m ≡ settled No Yes m
all_settled (Met xs g) = ap (λ (a : Answer). Done g (decides (met No xs) No a)) (all_maybe xs)
all_settled (Halted r) = refl

any_settled : (m : Meeting) → finished Yes No m ≡ settled Yes No m
any_settled (Halted r) = refl
any_settled (Met xs g) = go (met Yes xs) refl
  where
    go : (t : Bool) → met Yes xs ≡ t → Done g (decides t Yes (fold No xs)) ≡ Done g (decides t Yes (maybe No xs))
    go true e = refl
    go false e = ap (Done g) (any_maybe xs e)

-- ---- picks; `b`: a Yes was met before
abbrev Ends : Bool → Answer → Meeting → Outcome → Type 0
Ends b c (Met xs g) o = (others : List HeadUsages) × (o ≡ end_pick (b || met Yes xs) (fold c xs) others g)
Ends b c (Halted r) o = Unit {0}

module _ (b : Bool) (c : Answer) where
  one_candidate : (a : Answer) (m : Meeting) (o : Outcome)
      → Ends (b || same_answer a Yes) (combine c a) m o → Ends b c (met_first a m) o
  one_candidate a (Met xs g) o (others, e) =
      let met-before = or_assoc b (same_answer a Yes) (met Yes xs) in
      (others, e ∙ ap (λ (t : Bool). end_pick t (fold (combine c a) xs) others g) met-before)
  one_candidate a (Halted r) o e = tt

  candidate_then : (o : Outcome) (next : Graph → Answer → Outcome) (left : Graph → Meeting)
      → ((g : Graph) (a : Answer)
      → Ends (b || same_answer a Yes) (combine c a) (left (finish_single_candidate g)) (next g a))
      → Ends b c
      (elim (and_then o λ g a. Done (finish_single_candidate g) a) [
        | Done g a ↦ met_first a (left g)
        | Stopped r ↦ Halted r
      ])
      (and_then o next)
  candidate_then (Done g a) next left h = one_candidate a (left (finish_single_candidate g)) (next g a) (h g a)
  candidate_then (Stopped r) next left h = tt

ignoring : (t : Bool) (g : Graph) (r : Refusal) → Only Yes (elim t [ true ↦ Done g Yes | false ↦ Stopped r ])
ignoring true g r = refl
ignoring false g r = tt

-- ---- the rule
module _ (evaluate : Evaluator) (goals : ℕ) where
  abbrev all_met : Parts → Graph → Meeting
  all_met ps g = meet (part evaluate goals) (λ a. same_answer a No) ps g

  abbrev any_met : Parts → Graph → Meeting
  any_met ps g = meet (part evaluate goals) (λ a. same_answer a Yes) ps g

  abbrev pick_met : Parts → Graph → Meeting
  pick_met ps g = meet (candidate evaluate goals) (λ a. false) ps g

  all_meets : (ps : Parts) (c : Answer) (g : Graph) → eval_all evaluate goals ps c g ≡ finished No c (all_met ps g)
  all_meets End c g = refl
  all_meets (Then p ps) c g =
      part_then No c (part evaluate goals p g) (λ g1 a. eval_all evaluate goals ps (combine c a) g1) (all_met ps)
      λ g1 a. all_meets ps (combine c a) g1

  any_meets : (ps : Parts) (c : Answer) (g : Graph) → eval_any evaluate goals ps c g ≡ finished Yes c (any_met ps g)
  any_meets End c g = refl
  any_meets (Then p ps) c g =
      part_then Yes c (part evaluate goals p g) (λ g1 a. eval_any evaluate goals ps (combine c a) g1) (any_met ps)
      λ g1 a. any_meets ps (combine c a) g1

  pick_meets : (ps : Parts) (b : Bool) (c : Answer) (others : List HeadUsages) (g : Graph)
      → Ends b c (pick_met ps g) (eval_pick evaluate goals ps b c others g)
  pick_meets End b c others g = (others, ap (λ (t : Bool). end_pick t c others g) (sym (or-false b)))
  pick_meets (Then p ps) b c others g =
      candidate_then b c (part evaluate goals p (enter_single_candidate goals g)) _ (pick_met ps)
      λ g1 a. pick_meets ps (b || same_answer a Yes) (combine c a) _ (finish_single_candidate g1)

  module _ (ps : Parts) (g h : Graph) (xs : List Answer) (is : pick_met ps g ≡ Met xs h) where
    ended : Ends false No (Met xs h) (part evaluate goals (Node Pick ps) g)
    ended =
        subst (λ (m : Meeting). Ends false No m (part evaluate goals (Node Pick ps) g)) is
        (pick_meets ps false No (no_candidate_usages goals) g)

    by_met : (t : Bool) → met Yes xs ≡ t → part evaluate goals (Node Pick ps) g ≡ end_pick t (fold No xs) ended.0 h
    by_met t e = ended.1 ∙ ap (λ (x : Bool). end_pick x (fold No xs) ended.0 h) e

  pub which_maybe : WhichMaybe evaluate goals
  which_maybe =
      record {
        all = λ ps g. all_meets ps Yes g ∙ all_settled (all_met ps g);
        any = λ ps g. any_meets ps No g ∙ any_settled (any_met ps g);
        pick = λ ps g h xs is e. by_met ps g h xs is false e ∙ ap (Done h) (any_maybe xs e);
        pick_yes = λ ps g h xs is e.
            subst (Only Yes) (sym (by_met ps g h xs is true e))
            (ignoring (can_ignore (ended ps g h xs is).0 h.stack) _ _);
      }
