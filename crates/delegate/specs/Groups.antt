-- A group of parts that asks for all of them, or for any: what the functions of `group` say.
use Rattle.std.specs.Prelude.{◌≡◌, Bool, true, false, List, ℕ, ◌*◌, ◌≤◌, Ok}
use Rattle.std.specs.declared.ops.ControlFlow.{ControlFlow}
use Rattle.std.specs.declared.ops.ControlFlow.TheVariants.{Continue, Break}
use Rattle.definition.specs.declared.answers.Answer.{Answer}
use Rattle.definition.specs.declared.answers.Answer.TheVariants.{No, Yes}
use Rattle.definition.specs.Answers.{combine, same_answer}
use Rattle.definition.specs.Part.{Parts, Node}
use Rattle.definition.specs.Part as part
use Rattle.definition.specs.Graph.{Graph, and_then}
use Rattle.definition.specs.Graph as graph
use Rattle.definition.specs.Evaluate.{Evaluator, eval_part, eval_all, eval_any}
use Rattle.book.specs.declared.code.Op.{Op}
use Rattle.book.specs.declared.code.Op.TheVariants.{All, Any}
use Rattle.book.specs.Codes.{op_of}
use Rattle.layout.specs.Work.{graph_of}
use Rattle.evaluation.specs.declared.Done.{Done}
use Rattle.evaluation.specs.Outcomes.{Outcome, outcome_of, IsDone, FewEntries}
use Rattle.delegate.specs.declared.group.Group.{Group}

-- the answer of a part that decides the group
abbrev pub deciding : Op → Answer
deciding All = No
deciding Any = Yes

-- ---- what a group comes to
module _ (evaluate : Evaluator) (goals : ℕ) where
  -- these parts are left
  unfoldable pub rest_of : Op → Answer → Parts → Graph → graph.Outcome
  rest_of All combined ps g = eval_all evaluate goals ps combined g
  rest_of Any combined ps g = eval_any evaluate goals ps combined g

  -- a part came to the answer a, and these parts are left
  abbrev pub next_of : Op → Answer → Parts → Graph → Answer → graph.Outcome
  next_of op combined ps g a =
      elim (same_answer a (deciding op)) [
        | true ↦ graph.Done g (deciding op)
        | false ↦ rest_of op (combine combined a) ps g
      ]

  abbrev pub rest : Group → Parts → Graph → graph.Outcome
  rest group ps g = rest_of group.op group.combined ps g

  abbrev pub next : Group → Parts → Graph → Answer → graph.Outcome
  next group ps g a = next_of group.op group.combined ps g a

-- ---- `start`
pub record GroupStarted (op : Op) (entries : ℕ) (group : Group) : Type 0 where
  pub whole : (evaluate : Evaluator) (goals : ℕ) (ps : Parts) (g : Graph)
      → rest evaluate goals group ps g ≡ eval_part evaluate goals (Node (op_of op) ps) g
  pub count : group.entries ≡ entries

-- ---- `weigh`, with `height` frames on the stack of the graph that the bytes hold
abbrev pub Weighed : Type 0
Weighed = ControlFlow Outcome Group

-- what is left to do after a part
unfoldable pub left_of : Evaluator → ℕ → ℕ → ℕ → Parts → List ℕ → List ℕ → Weighed → graph.Outcome
left_of evaluate goals root height ps bytes cache (Break o) = outcome_of goals root height bytes cache o
left_of evaluate goals root height ps bytes cache (Continue group) =
    rest evaluate goals group ps (graph_of goals root height group.entries bytes cache)

-- no more provisional entries than the graph has room for
abbrev pub FewLeft : ℕ → Weighed → Type 0
FewLeft goals (Break o) = FewEntries goals o
FewLeft goals (Continue group) = group.entries ≤ 2 * goals

pub record GroupWeighed (o : Outcome) (group : Group) (r : Weighed) : Type 0 where
  pub whole : (evaluate : Evaluator) (goals root height : ℕ) (ps : Parts) (bytes cache : List ℕ)
      → left_of evaluate goals root height ps bytes cache r
      ≡ and_then (outcome_of goals root height bytes cache o) (next evaluate goals group ps)
  pub few : (goals : ℕ) → FewEntries goals o → FewLeft goals r
  pub answered : (next-group : Group) → r ≡ Continue next-group → IsDone o

-- decided by an answer, or going on
abbrev pub unless_decided : Bool → Op → Answer → Answer → Answer → ℕ → Weighed
unless_decided true op combined by answer entries = Break (Ok (record { answer = by; entries = entries }))
unless_decided false op combined by answer entries =
    Continue (record { op = op; combined = combine combined answer; entries = entries })

-- ---- `close`
pub record GroupClosed (group : Group) (done : Done) : Type 0 where
  pub whole : (evaluate : Evaluator) (goals : ℕ) (g : Graph)
      → graph.Done g done.answer ≡ rest evaluate goals group part.End g
  pub count : done.entries ≡ group.entries
