-- A group's first part, then the others; and what the functions of `group` say.
use mathlib.Core.Path.{◌≡◌, refl, sym, ap, ◌∙◌, subst}
use mathlib.Core.Bool.{Bool, true, false}
use mathlib.Core.List.{List}
use Prim.Native.Nat.{ℕ, ◌*◌, ◌≤◌}
use Rattle.std.specs.Prelude.{Ok, Err}
use native.Mathlib.Omega.{arith}
use Rattle.definition.specs.declared.replies.Refusal.{Refusal}
use Rattle.definition.specs.declared.answers.Answer.{Answer}
use Rattle.definition.specs.declared.answers.Answer.TheVariants.{No, Yes}
use Rattle.definition.specs.Answers.{combine, same_answer}
use Rattle.definition.specs.Part.{Part, Parts, Then}
use Rattle.definition.specs.Part as part
use Rattle.definition.specs.Graph.{Graph, and_then}
use Rattle.definition.specs.Graph as graph
use Rattle.definition.specs.Evaluate.{Evaluator, eval_part}
use Rattle.book.specs.declared.code.Op.{Op}
use Rattle.book.specs.declared.code.Op.TheVariants.{All, Any}
use Rattle.layout.specs.Work.{graph_of}
use Rattle.std.specs.declared.ops.ControlFlow.TheVariants.{Continue, Break}
use Rattle.evaluation.specs.declared.Done.{Done}
use Rattle.evaluation.specs.Outcomes.{Outcome, outcome_of}
use Rattle.delegate.specs.declared.group.Group.{Group}
use Rattle.delegate.specs.Groups.{Weighed, deciding, rest_of, next_of, rest, next, left_of, FewLeft, unless_decided}
use Rattle.delegate.specs.Groups.{GroupStarted, GroupWeighed, GroupClosed}

-- ---- the first part, then the others
pub rest_then : (evaluate : Evaluator) (goals : ℕ) (group : Group) (p : Part) (ps : Parts) (g : Graph)
    → rest evaluate goals group (Then p ps) g ≡ and_then (eval_part evaluate goals p g) (next evaluate goals group ps)
unfolding rest_of
rest_then evaluate goals group p ps g = go group.op group.combined
  where
    go : (op : Op) (combined : Answer)
        → rest_of evaluate goals op combined (Then p ps) g
        ≡ and_then (eval_part evaluate goals p g) (next_of evaluate goals op combined ps)
    go All combined = refl
    go Any combined = refl

-- ---- `start`
module _ (op : Op) (entries : ℕ) where
  all_started : GroupStarted All entries (record { op = All; combined = Yes; entries = entries })
  unfolding rest_of
  all_started = record { whole = λ evaluate goals ps g. refl; count = refl }

  any_started : GroupStarted Any entries (record { op = Any; combined = No; entries = entries })
  unfolding rest_of
  any_started = record { whole = λ evaluate goals ps g. refl; count = refl }

  pub started_all : op ≡ All → GroupStarted op entries (record { op = All; combined = Yes; entries = entries })
  started_all e = subst (λ (o : Op). GroupStarted o entries (record { op = All; combined = Yes; entries = entries })) (sym e)
      all_started

  pub started_any : op ≡ Any → GroupStarted op entries (record { op = Any; combined = No; entries = entries })
  started_any e = subst (λ (o : Op). GroupStarted o entries (record { op = Any; combined = No; entries = entries })) (sym e)
      any_started

-- ---- `unless`
module _ (op : Op) (combined by answer : Answer) (entries : ℕ) (b : Bool) (same : b ≡ same_answer answer by) where
  by_test : (x : Bool) → b ≡ x
      → unless_decided x op combined by answer entries ≡ unless_decided (same_answer answer by) op combined by answer entries
  by_test x e = ap (λ (y : Bool). unless_decided y op combined by answer entries) (sym e ∙ same)

  pub decided : b ≡ true → Break (Ok (record { answer = by; entries = entries })) ≡ unless_decided (same_answer answer by) op combined by answer entries
  decided t = by_test true t

  pub undecided : (c : Answer) → b ≡ false → c ≡ combine combined answer
      → Continue (record { op = op; combined = c; entries = entries })
      ≡ unless_decided (same_answer answer by) op combined by answer entries
  undecided c f e = ap (λ (x : Answer). Continue (record { op = op; combined = x; entries = entries })) e ∙ by_test false f

-- ---- `weigh`
module _ (group : Group) (done : Done) (op : Op) where
  -- by whether the answer decides
  after : Bool → Weighed
  after b = unless_decided b op group.combined (deciding op) done.answer done.entries

  left_after : (evaluate : Evaluator) (goals root height : ℕ) (ps : Parts) (bytes cache : List ℕ) (b : Bool)
      → left_of evaluate goals root height ps bytes cache (after b)
      ≡ elim b [
        | true ↦ graph.Done (graph_of goals root height done.entries bytes cache) (deciding op)
        | false ↦
            rest_of evaluate goals op (combine group.combined done.answer) ps
            (graph_of goals root height done.entries bytes cache)
      ]
  unfolding after left_of outcome_of
  left_after evaluate goals root height ps bytes cache true = refl
  left_after evaluate goals root height ps bytes cache false = refl

  few_after : (goals : ℕ) → done.entries ≤ 2 * goals → (b : Bool) → FewLeft goals (after b)
  unfolding after
  few_after goals few true = few
  few_after goals few false = few

  weighed_done : (r : Weighed) → group.op ≡ op
      → r ≡ unless_decided (same_answer done.answer (deciding op)) op group.combined (deciding op) done.answer done.entries
      → GroupWeighed (Ok done) group r
  unfolding after outcome_of
  weighed_done r e is =
      record {
        whole = λ evaluate goals root height ps bytes cache.
            ap (λ (w : Weighed). left_of evaluate goals root height ps bytes cache w) is
            ∙ left_after evaluate goals root height ps bytes cache (same_answer done.answer (deciding op))
            ∙ ap (λ (o : Op). next_of evaluate goals o group.combined ps
            (graph_of goals root height done.entries bytes cache) done.answer)
            (sym e);
        few = λ goals few. subst (λ (w : Weighed). FewLeft goals w) (sym is)
            (few_after goals few (same_answer done.answer (deciding op)));
        answered = λ n e. tt;
      }

  pub weighed : (o : Outcome) → o ≡ Ok done → (r : Weighed) → group.op ≡ op
      → r ≡ unless_decided (same_answer done.answer (deciding op)) op group.combined (deciding op) done.answer done.entries
      → GroupWeighed o group r
  weighed o was r e is = subst (λ (x : Outcome). GroupWeighed x group r) (sym was) (weighed_done r e is)

-- a refusal
pub weighed_refused : (group : Group) (o : Outcome) (x : Refusal) → o ≡ Err x → GroupWeighed o group (Break (Err x))
unfolding left_of outcome_of
weighed_refused group o x was =
    subst (λ (y : Outcome). GroupWeighed y group (Break (Err x))) (sym was)
    (record { whole = λ evaluate goals root height ps bytes cache. refl; few = λ goals few. tt; answered = λ n e. let z : ◌≡◌ {A = ℕ} 0 1 = cc in absurd (omega arith) })

-- ---- `close`
pub closed : (group : Group) → GroupClosed group (record { answer = group.combined; entries = group.entries })
unfolding rest_of
closed group =
    record { whole = λ evaluate goals g. none_left evaluate goals group.op group.combined g; count = refl }
  where
    none_left : (evaluate : Evaluator) (goals : ℕ) (op : Op) (combined : Answer) (g : Graph)
        → graph.Done g combined ≡ rest_of evaluate goals op combined part.End g
    none_left evaluate goals All combined g = refl
    none_left evaluate goals Any combined g = refl
