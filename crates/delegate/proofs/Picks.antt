-- What the functions of `pick` say.
use mathlib.Core.Path.{◌≡◌, refl, sym, ap, ◌∙◌, subst}
use mathlib.Core.Bool.{Bool, true, false, not, ◌&&◌, ◌||◌}
use mathlib.Core.Option.{none, some}
use mathlib.Core.List.{List}
use Prim.Native.Nat.{ℕ, ◌+◌, ◌*◌, ◌-◌, ◌≤◌, ◌<◌}
use native.Mathlib.Omega.{arith}
use Rattle.std.specs.Prelude.{Ok, Err}
use Rattle.std.proofs.lemmas.Result.{IfOk-at_ok}
use Rattle.definition.specs.declared.replies.Refusal.{Refusal}
use Rattle.definition.specs.declared.answers.Answer.{Answer}
use Rattle.definition.specs.declared.answers.Answer.TheVariants.{No, Yes}
use Rattle.definition.specs.declared.replies.Refusal.TheVariants.{Unreachable}
use Rattle.definition.specs.declared.usages.HeadUsages.{HeadUsages}
use Rattle.definition.specs.Answers.{combine, same_answer}
use Rattle.definition.specs.Graph.{Graph}
use Rattle.definition.specs.Graph as graph
use Rattle.definition.specs.Usages.{merge_usages}
use Rattle.definition.specs.Candidates.{no_candidate_usages, set_candidate_usages, finish_single_candidate}
use Rattle.definition.specs.Candidates.{can_ignore, ignore_on_top, ignore_candidate_head_usages}
use Rattle.definition.specs.Part.{Parts}
use Rattle.definition.specs.Evaluate.{Evaluator, merge_unless, end_pick, eval_pick}
use Rattle.layout.specs.Work.{stack_of, entries_of, merged_of, graph_of}
use Rattle.evaluation.specs.declared.Done.{Done}
use Rattle.evaluation.specs.Workspace.{graph_in, stack_in}
use Rattle.evaluation.specs.Outcomes.{Outcome, done as done_with, outcome_of}
use Rattle.candidates.specs.Written.{MergedWritten}
use Rattle.delegate.specs.declared.pick.Pick.{Pick}
use Rattle.delegate.specs.Picks.{graph_at, next, left_of, MergedKept, tracked_in}
use Rattle.delegate.specs.Picks.{PickBegun, CandidateEntered, CandidateFinished, PickEnded, Tracked, MergedUnless}

-- the top frame, counted from 1
top_height : (height : ℕ) → 1 ≤ height → height - 1 + 1 ≡ height
top_height height pos = omega arith

-- ---- `begin`
pub begun : (goals height entries : ℕ) (old new : List ℕ)
    → MergedWritten goals (height - 1) (no_candidate_usages goals) old new
    → PickBegun goals height entries old new (record { met = false; combined = No; entries = entries })
begun goals height entries old new m =
    record {
      whole = λ evaluate ps root n cache.
          λ i. eval_pick evaluate goals ps false No (m.written i) (graph_of goals root height n (m.graph i) cache);
      count = refl;
      kept = m.others;
      graph = m.graph;
    }

-- ---- `enter_candidate`
pub entered : (goals height : ℕ) (old new : List ℕ) → 1 ≤ height
    → Tracked goals (height - 1) (some (no_candidate_usages goals)) old new → CandidateEntered goals height old new
entered goals height old new pos t =
    let s = subst (λ (h : ℕ). is h) (top_height height pos) t.stack in
    record {
      whole = λ root n cache i.
          record { root_depth = root; stack = s i; provisional_cache = t.entries n i; global_cache = cache };
      kept = t.merged;
    }
  where
    is : ℕ → Type 0
    is h =
        stack_of goals h (graph_in goals new)
        ≡ set_candidate_usages (some (no_candidate_usages goals)) (stack_of goals h (graph_in goals old))

-- ---- `merge_unless`
module _ (goals own : ℕ) (first : Bool) (old : List ℕ) where
  pub unmerged : first ≡ true → MergedUnless first goals own old old
  unmerged e =
      record {
        written = ap (λ (b : Bool). merge_unless b (merged_of goals own old) (tracked_in goals own old)) (sym e);
        others = λ i lt. refl;
        graph = refl;
      }

  pub merged : (new : List ℕ) → first ≡ false
      → MergedWritten goals own (merge_usages (merged_of goals own old) (tracked_in goals own old)) old new
      → MergedUnless first goals own old new
  merged new e m =
      record {
        written = m.written ∙ ap (λ (b : Bool). merge_unless b (merged_of goals own old) (tracked_in goals own old)) (sym e);
        others = m.others;
        graph = m.graph;
      }

-- ---- `finish_candidate`; the top frame has index `own`
module _ (goals own : ℕ) (done : Done) (pick : Pick) (old half new : List ℕ) (lt : own < goals)
    (accepted first : Bool) (is_accepted : accepted ≡ same_answer done.answer Yes) (is_first : first ≡ (not pick.met && accepted))
    (m : MergedUnless first goals own old half) (t : Tracked goals own none half new) where
  usages_after : merged_of goals own new
      ≡ merge_unless (not pick.met && same_answer done.answer Yes) (merged_of goals own old) (tracked_in goals own old)
  usages_after =
      t.merged own lt ∙ m.written
      ∙ ap (λ (b : Bool). merge_unless b (merged_of goals own old) (tracked_in goals own old))
      (is_first ∙ ap (λ (b : Bool). not pick.met && b) is_accepted)

  stack_after : stack_in goals (own + 1) new ≡ set_candidate_usages none (stack_in goals (own + 1) old)
  stack_after = t.stack ∙ ap (λ (bs : List ℕ). set_candidate_usages none (stack_of goals (own + 1) bs)) m.graph

  graph_after : (root n : ℕ) (cache : List ℕ)
      → graph_at goals root (own + 1) n new cache ≡ finish_single_candidate (graph_at goals root (own + 1) n old cache)
  graph_after root n cache =
      let e = t.entries n ∙ ap (entries_of goals n) m.graph in
      λ i. record { root_depth = root; stack = stack_after i; provisional_cache = e i; global_cache = cache }

  counted : (met : Bool) (c : Answer) → met ≡ (pick.met || accepted) → c ≡ combine pick.combined done.answer
      → (evaluate : Evaluator) (ps : Parts) (root n : ℕ) (cache : List ℕ)
      → eval_pick evaluate goals ps met c (merged_of goals own new) (graph_at goals root (own + 1) n new cache)
      ≡ next evaluate goals pick ps (merged_of goals own old) (graph_at goals root (own + 1) n old cache) done.answer
  counted met c is-met is_c evaluate ps root n cache i =
      eval_pick evaluate goals ps ((is-met ∙ ap (λ (b : Bool). pick.met || b) is_accepted) i) (is_c i) (usages_after i)
      (graph_after root n cache i)

pub finished : (goals height : ℕ) (done : Done) (pick : Pick) (old half new : List ℕ) (o : Outcome) → o ≡ Ok done
    → 1 ≤ height → height ≤ goals → done.entries ≤ 2 * goals
    → (accepted first : Bool) → accepted ≡ same_answer done.answer Yes → first ≡ (not pick.met && accepted)
    → MergedUnless first goals (height - 1) old half → Tracked goals (height - 1) none half new
    → (met : Bool) (c : Answer) → met ≡ (pick.met || accepted) → c ≡ combine pick.combined done.answer
    → CandidateFinished goals height o pick old new
    (Ok (record { met = met; combined = c; entries = done.entries }))
unfolding left_of outcome_of
finished goals height done pick old half new o was pos high few accepted first is_accepted is_first m t met c is-met is_c =
    let lt : height - 1 < goals = omega arith in
    subst
    (λ (x : Outcome). CandidateFinished goals height x pick old new
    (Ok (record { met = met; combined = c; entries = done.entries }))) (sym was)
    (record {
      whole = λ evaluate ps root cache.
          subst
          (λ (h : ℕ).
          eval_pick evaluate goals ps met c (merged_of goals (height - 1) new) (graph_at goals root h done.entries new cache)
          ≡ next evaluate goals pick ps (merged_of goals (height - 1) old) (graph_at goals root h done.entries old cache)
          done.answer)
          (top_height height pos)
          (counted goals (height - 1) done pick old half new lt accepted first is_accepted is_first m t met c is-met is_c evaluate ps
          root done.entries cache);
      few = few;
      kept = λ i below. t.merged i (omega (arith, below, lt)) ∙ m.others i below;
      answered = λ x e. tt;
      stack = λ x e.
          subst (λ (h : ℕ). stack_in goals h new ≡ set_candidate_usages none (stack_in goals h old))
          (top_height height pos)
          (stack_after goals (height - 1) done pick old half new lt accepted first is_accepted is_first m t);
    })

-- a refusal
pub finished_refused : (goals height : ℕ) (o : Outcome) (pick : Pick) (old : List ℕ) (x : Refusal) → o ≡ Err x
    → CandidateFinished goals height o pick old old (Err x)
unfolding left_of outcome_of
finished_refused goals height o pick old x was =
    subst (λ (y : Outcome). CandidateFinished goals height y pick old old (Err x)) (sym was)
    (record {
      whole = λ evaluate ps root cache. refl;
      few = tt;
      kept = λ i lt. refl;
      answered = λ y e. IfOk-at_ok (λ z. ⊥) e tt;
      stack = λ y e. absurd (IfOk-at_ok (λ z. ⊥) e tt);
    })

-- ---- `end`

-- where a Yes was met: by whether the usages can be taken away
abbrev ends_with : Bool → List HeadUsages → Graph → graph.Outcome
ends_with b others g =
    elim b [ true ↦ graph.Done (ignore_candidate_head_usages g others) Yes | false ↦ graph.Stopped Unreachable ]

module _ (goals height : ℕ) (pick : Pick) (old : List ℕ) (few : pick.entries ≤ 2 * goals) where
  abbrev others : List HeadUsages
  others = merged_of goals (height - 1) old

  abbrev Ignored : ℕ → List ℕ → Type 0
  Ignored h new = stack_of goals h (graph_in goals new) ≡ ignore_on_top others (stack_of goals h (graph_in goals old))

  pub ended_none : pick.met ≡ false → PickEnded goals height pick old old (done_with pick.combined pick.entries)
  unfolding outcome_of
  ended_none e =
      record {
        whole = λ root cache.
            ap (λ (b : Bool). end_pick b pick.combined others (graph_at goals root height pick.entries old cache)) (sym e);
        few = few;
        kept = λ i lt. refl;
      }

  -- where a Yes was met
  module _ (met : pick.met ≡ true) (pos : 1 ≤ height) (can : Bool)
      (is-can : can ≡ can_ignore others (stack_of goals (height - 1 + 1) (graph_in goals old))) where
    ends : (b : Bool) → can ≡ b → (root : ℕ) (cache : List ℕ)
        → ends_with b others (graph_at goals root height pick.entries old cache)
        ≡ end_pick pick.met pick.combined others (graph_at goals root height pick.entries old cache)
    ends b e root cache =
        let top = ap (λ (h : ℕ). can_ignore others (stack_of goals h (graph_in goals old))) (top_height height pos) in
        let g = graph_at goals root height pick.entries old cache in
        ap (λ (x : Bool). ends_with x others g) (sym e ∙ is-can ∙ top)
        ∙ ap (λ (x : Bool). end_pick x pick.combined others g) (sym met)

    pub ended_refused : can ≡ false → PickEnded goals height pick old old (Err Unreachable)
    unfolding outcome_of
    ended_refused e = record { whole = λ root cache. ends false e root cache; few = tt; kept = λ i lt. refl }

    pub ended_ignored : can ≡ true → (new : List ℕ)
        → Ignored (height - 1 + 1) new → ((n : ℕ) → entries_of goals n (graph_in goals new) ≡ entries_of goals n (graph_in goals old))
        → MergedKept goals old new
        → PickEnded goals height pick old new (done_with Yes pick.entries)
    unfolding outcome_of
    ended_ignored e new stack entries kept =
        let s = subst (λ (h : ℕ). Ignored h new) (top_height height pos) stack in
        record {
          whole = λ root cache.
              (λ i.
              graph.Done
              (record { root_depth = root; stack = s i; provisional_cache = entries pick.entries i; global_cache = cache }) Yes)
              ∙ ends true e root cache;
          few = few;
          kept = kept;
        }
