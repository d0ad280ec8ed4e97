-- One query: the refusals in their order, then the evaluation, and what becomes of the cache and the workspace.
use Rattle.std.specs.Prelude.{ℕ, ◌+◌, ◌*◌, Bool, true, false, List, [], ◌∷◌, eqb, leb, ltb, length, replicate}
use Rattle.std.proofs.Math.Option.{Option, none, some}
use Rattle.definition.specs.declared.paths.PathKind.TheVariants.{Inductive}
use Rattle.definition.specs.declared.replies.Refusal.{Refusal}
use Rattle.definition.specs.declared.replies.Refusal.TheVariants.{UnknownGoal, DepthAboveTop, CacheLength, CacheForm, WorkLength}
use Rattle.definition.specs.Answers.{Response}
use Rattle.std.specs.Prelude.{Ok, Err}
use Rattle.definition.specs.Part.{Book}
use Rattle.definition.specs.Graph.{Graph, Outcome, Done, Stopped}
use Rattle.definition.specs.Reader.{Accepted, Rejected, read_book}
use Rattle.definition.specs.CacheForm.{cache_length, cache_fits}
use Rattle.definition.specs.Evaluate.{evaluate_goal}

-- the response, and the bytes of the cache and of the workspace afterwards
pub record Reply : Type 0 where
  pub response : Response
  pub cache : List ℕ
  pub work : List ℕ

-- the published length of the workspace
abbrev pub work_length : ℕ → ℕ
work_length goals = 4 * goals * (41 * goals + 24)

-- ---- the refusals 5 to 9
pub record Check : Type 0 where
  pub passed : Bool
  pub otherwise : Refusal

-- in the order of document 01's table
abbrev pub checks : Book → List ℕ → List ℕ → ℕ → ℕ → List Check
checks b cache work goal depth =
    record { passed = ltb goal b.header.goals; otherwise = UnknownGoal }
    ∷ record { passed = leb depth b.header.top; otherwise = DepthAboveTop }
    ∷ record { passed = eqb (length cache) (cache_length b.header); otherwise = CacheLength }
    ∷ record { passed = cache_fits b.header cache; otherwise = CacheForm }
    ∷ record { passed = eqb (length work) (work_length b.header.goals); otherwise = WorkLength }
    ∷ []

abbrev pub first_failed : List Check → Option Refusal
first_failed [] = none
first_failed (c ∷ cs) = elim c.passed [ true ↦ first_failed cs | false ↦ some c.otherwise ]

-- ---- the evaluation

-- SearchGraph::new(depth)
abbrev pub new_graph : ℕ → List ℕ → Graph
new_graph depth cache = record { root_depth = depth; stack = []; provisional_cache = []; global_cache = cache }

abbrev pub evaluate_root : Book → List ℕ → ℕ → ℕ → Outcome
evaluate_root b cache goal depth = evaluate_goal b b.header.goals (new_graph depth cache) goal Inductive true

-- ---- the reply
abbrev pub zeros : List ℕ → List ℕ
zeros xs = replicate (length xs) 0

-- refusals 1 to 9 leave cache and workspace untouched
abbrev pub untouched : Refusal → List ℕ → List ℕ → Reply
untouched r cache work = record { response = Err r; cache = cache; work = work }

-- refusals 10 and 11 fill both with zeros; an accepted query fills the workspace with zeros
abbrev pub reply_of : List ℕ → List ℕ → Outcome → Reply
reply_of cache work (Done g a) = record { response = Ok a; cache = g.global_cache; work = zeros work }
reply_of cache work (Stopped r) = record { response = Err r; cache = zeros cache; work = zeros work }

abbrev pub query_book : Book → List ℕ → List ℕ → ℕ → ℕ → Reply
query_book b cache work goal depth =
    elim (first_failed (checks b cache work goal depth)) [
      | some r ↦ untouched r cache work
      | none ↦ reply_of cache work (evaluate_root b cache goal depth)
    ]

abbrev pub query : List ℕ → List ℕ → List ℕ → ℕ → ℕ → Reply
query bytes cache work goal depth =
    elim (read_book bytes) [
      | Rejected r ↦ untouched r cache work
      | Accepted b ↦ query_book b cache work goal depth
    ]
