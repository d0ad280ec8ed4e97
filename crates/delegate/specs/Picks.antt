-- A pick among candidates: what the functions of `pick` say, with `height` frames on the stack. The merged usages are
-- those of the top frame.
use Rattle.std.specs.Prelude.{◌≡◌, Bool, not, ◌&&◌, ◌||◌, List, ℕ, ◌+◌, ◌*◌, ◌-◌, ◌≤◌, ◌<◌, Result, Ok, Err}
use Rattle.std.proofs.Math.Option.{Option, none}
use Rattle.definition.specs.declared.answers.Answer.{Answer}
use Rattle.definition.specs.declared.answers.Answer.TheVariants.{Yes}
use Rattle.definition.specs.declared.replies.Refusal.{Refusal}
use Rattle.definition.specs.declared.usages.HeadUsages.{HeadUsages}
use Rattle.definition.specs.Answers.{combine, same_answer}
use Rattle.definition.specs.Part.{Parts, Node}
use Rattle.definition.specs.Part as part
use Rattle.definition.specs.Graph.{Graph, and_then}
use Rattle.definition.specs.Graph as graph
use Rattle.definition.specs.Candidates.{set_candidate_usages, candidate_usages_of, finished_usages}
use Rattle.definition.specs.Candidates.{enter_single_candidate, finish_single_candidate}
use Rattle.definition.specs.Evaluate.{Evaluator, merge_unless, end_pick, eval_part, eval_pick}
use Rattle.layout.specs.Work.{entries_of, merged_of, graph_of}
use Rattle.evaluation.specs.Workspace.{graph_in, stack_in}
use Rattle.evaluation.specs.Outcomes.{Outcome, outcome_of, IsDone, FewEntries}
use Rattle.candidates.specs.Written.{MergedWritten}
use Rattle.delegate.specs.declared.pick.Pick.{Pick}

-- the graph that a workspace holds
abbrev pub graph_at : ℕ → ℕ → ℕ → ℕ → List ℕ → List ℕ → Graph
graph_at goals root height n work cache = graph_of goals root height n (graph_in goals work) cache

-- ---- what a pick comes to; `others`: the merged usages
module _ (evaluate : Evaluator) (goals : ℕ) where
  -- these candidates are left
  abbrev pub rest : Pick → Parts → List HeadUsages → Graph → graph.Outcome
  rest pick ps others g = eval_pick evaluate goals ps pick.met pick.combined others g

  -- a candidate came to the answer a, and these are left
  abbrev pub next : Pick → Parts → List HeadUsages → Graph → Answer → graph.Outcome
  next pick ps others g a =
      eval_pick evaluate goals ps (pick.met || same_answer a Yes) (combine pick.combined a)
      (merge_unless (not pick.met && same_answer a Yes) others (finished_usages goals g)) (finish_single_candidate g)

-- ---- which merged usages are as they were: those of the frames below, or all
abbrev pub KeptBelow : ℕ → ℕ → List ℕ → List ℕ → Type 0
KeptBelow goals own old new = (i : ℕ) → i < own → merged_of goals i new ≡ merged_of goals i old

abbrev pub MergedKept : ℕ → List ℕ → List ℕ → Type 0
MergedKept goals old new = KeptBelow goals goals old new

-- ---- `begin`
pub record PickBegun (goals height entries : ℕ) (old new : List ℕ) (pick : Pick) : Type 0 where
  pub whole : (evaluate : Evaluator) (ps : Parts) (root n : ℕ) (cache : List ℕ)
      → rest evaluate goals pick ps (merged_of goals (height - 1) new) (graph_at goals root height n new cache)
      ≡ eval_part evaluate goals (Node part.Pick ps) (graph_at goals root height n old cache)
  pub count : pick.entries ≡ entries
  pub kept : KeptBelow goals (height - 1) old new
  pub graph : graph_in goals new ≡ graph_in goals old

-- ---- `enter_candidate`
pub record CandidateEntered (goals height : ℕ) (old new : List ℕ) : Type 0 where
  pub whole : (root n : ℕ) (cache : List ℕ)
      → graph_at goals root height n new cache ≡ enter_single_candidate goals (graph_at goals root height n old cache)
  pub kept : MergedKept goals old new

-- ---- `finish_candidate`

-- what is left to do after a candidate
unfoldable pub left_of : Evaluator → ℕ → ℕ → ℕ → Parts → List ℕ → List ℕ → Result Pick Refusal → graph.Outcome
left_of evaluate goals root height ps work cache (Ok pick) =
    rest evaluate goals pick ps (merged_of goals (height - 1) work)
    (graph_at goals root height pick.entries work cache)
left_of evaluate goals root height ps work cache (Err r) = graph.Stopped r

-- no more provisional entries than the graph has room for
abbrev pub FewLeft : ℕ → Result Pick Refusal → Type 0
FewLeft goals (Ok pick) = pick.entries ≤ 2 * goals
FewLeft goals (Err r) = Unit {0}

pub record CandidateFinished (goals height : ℕ) (o : Outcome) (pick : Pick) (old new : List ℕ)
    (r : Result Pick Refusal) : Type 0 where
  pub whole : (evaluate : Evaluator) (ps : Parts) (root : ℕ) (cache : List ℕ)
      → left_of evaluate goals root height ps new cache r
      ≡ and_then (outcome_of goals root height (graph_in goals old) cache o)
      (next evaluate goals pick ps (merged_of goals (height - 1) old))
  pub few : FewLeft goals r
  pub kept : KeptBelow goals (height - 1) old new
  pub answered : (next_pick : Pick) → r ≡ Ok next_pick → IsDone o
  pub stack : (next_pick : Pick) → r ≡ Ok next_pick
      → stack_in goals height new ≡ set_candidate_usages none (stack_in goals height old)

-- ---- `end`
pub record PickEnded (goals height : ℕ) (pick : Pick) (old new : List ℕ) (o : Outcome) : Type 0 where
  pub whole : (root : ℕ) (cache : List ℕ)
      → outcome_of goals root height (graph_in goals new) cache o
      ≡ end_pick pick.met pick.combined (merged_of goals (height - 1) old)
      (graph_at goals root height pick.entries old cache)
  pub few : FewEntries goals o
  pub kept : MergedKept goals old new

-- ---- between: on the frame at index `own`, the top of the stack

-- the frame's candidate usages are c
pub record Tracked (goals own : ℕ) (c : Option (List HeadUsages)) (old new : List ℕ) : Type 0 where
  pub stack : stack_in goals (own + 1) new ≡ set_candidate_usages c (stack_in goals (own + 1) old)
  pub entries : (n : ℕ) → entries_of goals n (graph_in goals new) ≡ entries_of goals n (graph_in goals old)
  pub merged : MergedKept goals old new

abbrev pub tracked_in : ℕ → ℕ → List ℕ → List HeadUsages
tracked_in goals own work = candidate_usages_of goals (stack_in goals (own + 1) work)

-- the frame's candidate usages are merged, unless its candidate is the first Yes
abbrev pub MergedUnless : Bool → ℕ → ℕ → List ℕ → List ℕ → Type 0
MergedUnless first goals own old new =
    MergedWritten goals own (merge_unless first (merged_of goals own old) (tracked_in goals own old)) old new
