-- What an evaluation meets on its way, in order. For each function of the definition's Evaluate and Task that leads to
-- another evaluation or to an insertion one stands here that takes the same steps; their outcomes are the definition's.
use Rattle.std.specs.Prelude.{Bool, true, false, List, [], ◌∷◌, ◌++◌, ℕ, zero, suc, ◌-◌, pred}
use Rattle.std.proofs.Math.Option.{Option, none, some}
use Rattle.definition.specs.declared.paths.PathKind.{PathKind}
use Rattle.definition.specs.declared.paths.PathKind.TheVariants.{Inductive}
use Rattle.definition.specs.declared.answers.Answer.{Answer}
use Rattle.definition.specs.declared.answers.Answer.TheVariants.{No, Yes}
use Rattle.definition.specs.declared.endings.Ending.{Ending}
use Rattle.definition.specs.declared.endings.Ending.TheVariants as ending
use Rattle.definition.specs.declared.format.Header.{Header}
use Rattle.definition.specs.declared.replies.Refusal.TheVariants.{Unreachable}
use Rattle.definition.specs.Answers.{same_answer}
use Rattle.definition.specs.Candidates.{enter_single_candidate, finish_single_candidate}
use Rattle.definition.specs.Endings.{ending_of, pop}
use Rattle.definition.specs.Evaluate.{Evaluator, compute_goal, eval_part, evaluate_goal, evaluate_goal_with, new_frame}
use Rattle.definition.specs.Graph.{Done, EvaluationResult, Graph, Outcome, Stopped, with_stack}
use Rattle.definition.specs.Heads.{heads_empty}
use Rattle.definition.specs.Lookup.{allowed_depth_for_nested, check_cycle_on_stack, lookup_global_cache, lookup_provisional_cache}
use Rattle.definition.specs.Parent.{Ordinary, update_parent_goal}
use Rattle.definition.specs.Part.{All, Any, Book, Call, End, Node, Part, Parts, Pick, Then, UndecidedLine, part_at}
use Rattle.definition.specs.Query.{new_graph}
use Rattle.definition.specs.Stack.{Stack}
use Rattle.definition.specs.Task.{Evaluated, TaskOutcome, TaskStopped, evaluate_goal_in_task, push_rerun}

pub data Act : Type 0 where
  -- evaluate_goal begins on a goal; it computes the goal, once in each iteration; it ends with an answer
  Evaluates Computes Answers : ℕ → Act
  -- a goal's result goes among the provisional entries, or into its slot of the global cache
  InsertsEntry InsertsInSlot : ℕ → EvaluationResult → Act

abbrev pub goal_of : Act → ℕ
goal_of (Evaluates goal) = goal
goal_of (Computes goal) = goal
goal_of (Answers goal) = goal
goal_of (InsertsEntry goal r) = goal
goal_of (InsertsInSlot goal r) = goal

-- an act, and the state that it finds
pub record Event : Type 0 where
  pub state : Graph
  pub act : Act

abbrev pub Trace : Type 0
Trace = List Event

abbrev pub met : Graph → Act → Trace
met g act = record { state = g; act = act } ∷ []

-- what is met after an outcome: nothing after a refusal
abbrev pub after : Outcome → (Graph → Answer → Trace) → Trace
after (Done g a) next = next g a
after (Stopped r) next = []

-- what is met where a lookup finds nothing
abbrev pub unless_met : Option Outcome → Trace → Trace
unless_met (some o) next = []
unless_met none next = next

-- ---- compute_goal, over what evaluate_goal meets
abbrev pub Tracer : Type 0
Tracer = Graph → ℕ → PathKind → Bool → Trace

module _ (evaluate : Evaluator) (trace : Tracer) (goals : ℕ) where
  abbrev mutual
    pub trace_part : Part → Graph → Trace
    trace_part (Call goal kind lower) g = trace g goal kind lower
    trace_part (Node All ps) g = trace_until No ps g
    trace_part (Node Any ps) g = trace_until Yes ps g
    trace_part (Node Pick ps) g = trace_pick ps g
    trace_part UndecidedLine g = []

    -- an all stops at a No, an any at a Yes
    pub trace_until : Answer → Parts → Graph → Trace
    trace_until stop End g = []
    trace_until stop (Then p ps) g =
        trace_part p g ++ after (eval_part evaluate goals p g) λ g1 a.
        elim (same_answer a stop) [ true ↦ [] | false ↦ trace_until stop ps g1 ]

    pub trace_pick : Parts → Graph → Trace
    trace_pick End g = []
    trace_pick (Then p ps) g =
        trace_part p (enter_single_candidate goals g) ++
        after (eval_part evaluate goals p (enter_single_candidate goals g)) λ g1 a. trace_pick ps (finish_single_candidate g1)

abbrev pub trace_compute : Evaluator → Tracer → Book → ℕ → Graph → Trace
trace_compute evaluate trace b input g =
    met g (Computes input) ++
    elim (part_at b.parts input) [ none ↦ [] | some p ↦ trace_part evaluate trace b.header.goals p g ]

-- ---- evaluate_goal_in_task

-- what is met after an ending: nothing after any but a rerun
abbrev pub if_rerun : Ending → Trace → Trace
if_rerun ending.Nothing next = []
if_rerun (ending.Fixpoint fixpoint) next = []
if_rerun ending.NoUsages next = []
if_rerun (ending.Ambiguity kind) next = []
if_rerun ending.Overflow next = []
if_rerun ending.Rerun next = next

-- an iteration's end: the frame on top is pushed again where it runs again
abbrev pub trace_next : ℕ → (Graph → Trace) → Graph → Stack → Answer → Trace
trace_next left rerun g [] result = []
trace_next left rerun g (f ∷ fs) result =
    if_rerun (ending_of left f result) (rerun (push_rerun (pop ending.Rerun (with_stack g (f ∷ fs))) f result))

abbrev pub trace_task : (Graph → Outcome) → (Graph → Trace) → ℕ → Graph → Trace
trace_task compute trace zero g = trace g
trace_task compute trace (suc left) g =
    trace g ++ after (compute g) λ g1 a. trace_next (suc left) (trace_task compute trace left) g1 g1.stack a

-- ---- evaluate_goal
abbrev pub trace_insert : Header → Graph → ℕ → EvaluationResult → Trace
trace_insert h g input r =
    elim (heads_empty r.heads) [
      | true ↦ met g (InsertsInSlot input r)
      | false ↦ elim h.provisional [ true ↦ met g (InsertsEntry input r) | false ↦ [] ]
    ]

abbrev pub trace_after_task : Header → ℕ → PathKind → ℕ → TaskOutcome → Trace
trace_after_task h input step available (TaskStopped r) = []
trace_after_task h input step available (Evaluated g r) =
    trace_insert h
    (with_stack g
    (update_parent_goal g.stack step r.heads r.encountered_overflow (Ordinary r.nested_goals)
    (available - r.required_depth)))
    input r

abbrev pub push_new : Header → Graph → ℕ → PathKind → ℕ → Graph
push_new h g input step available = with_stack g (new_frame h.goals input step available g.stack ∷ g.stack)

abbrev pub trace_new_frame : Header → (ℕ → Graph → Outcome) → (ℕ → Graph → Trace) → Graph → ℕ → PathKind → ℕ → Trace
trace_new_frame h compute trace g input step available =
    trace_task (compute input) (trace input) (pred h.limit) (push_new h g input step available) ++
    trace_after_task h input step available
    (evaluate_goal_in_task (compute input) (pred h.limit) 1 false (push_new h g input step available))

abbrev pub trace_at_depth : Header → (ℕ → Graph → Outcome) → (ℕ → Graph → Trace) → Graph → ℕ → PathKind → ℕ → Trace
trace_at_depth h compute trace g input step available =
    unless_met (lookup_provisional_cache h g input step available)
    (unless_met (lookup_global_cache h g input step available)
    (unless_met (check_cycle_on_stack h g input step available)
    (trace_new_frame h compute trace g input step available)))

abbrev pub trace_goal_with : Header → (ℕ → Graph → Outcome) → (ℕ → Graph → Trace) → Tracer
trace_goal_with h compute trace g input step lower =
    met g (Evaluates input) ++
    (elim (allowed_depth_for_nested h g.root_depth g.stack lower) [
      | none ↦ []
      | some available ↦ trace_at_depth h compute trace g input step available
    ] ++
    after (evaluate_goal_with h compute g input step lower) λ g1 a. met g1 (Answers input))

abbrev pub trace_goal : Book → ℕ → Tracer
trace_goal b zero = trace_goal_with b.header (λ input g. Stopped Unreachable) (λ input g. [])
trace_goal b (suc off) =
    trace_goal_with b.header (compute_goal (evaluate_goal b off) b)
    (trace_compute (evaluate_goal b off) (trace_goal b off) b)

-- the evaluation of a query's root
abbrev pub trace_root : Book → List ℕ → ℕ → ℕ → Trace
trace_root b cache goal depth = trace_goal b b.header.goals (new_graph depth cache) goal Inductive true

-- ---- what is said of a trace

-- every event is of P
abbrev pub MeetsOnly : (Event → Type 0) → Trace → Type 0
MeetsOnly P [] = Unit {0}
MeetsOnly P (e ∷ es) = P e × MeetsOnly P es

-- the last event is of P
abbrev pub EndsWith : (Event → Type 0) → Trace → Type 0
EndsWith P [] = ⊥
EndsWith P (e ∷ []) = P e
EndsWith P (e ∷ x ∷ es) = EndsWith P (x ∷ es)
