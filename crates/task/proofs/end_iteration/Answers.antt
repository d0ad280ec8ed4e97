use mathlib.Core.Path.{refl, subst}
use Prim.Native.Nat.{◌-◌}
use native.Mathlib.Omega.{arith}
use borrow.Enum.Refused.{opened}
use Rattle.std.proofs.lemmas.Result.{err_from_is_err_and}
use Rattle.layout.specs.Work.{stack_of}
use Rattle.stack.proofs.Graph.{frame_bytes_lem}
use Rattle.evaluation.specs.Outcomes.{CountsIn, FewEntries}
use Rattle.task.proofs.Turns.{met_is, ending_is, follows, follows_limit, turn_refused, not_limit}
use Rattle.task.proofs.end_iteration.Goals as goal

pub overflow-requires : goal.overflow-requires
overflow-requires c =
    frame_bytes_lem c.args.goals c.args.graph.now c.frame_at-f.result.now (c.args.height - 1) c.requires.bytes
    (omega arith) c.frame_at-f.ensures

pub ending_of-ending-requires : goal.ending_of-ending-requires
ending_of-ending-requires c =
    frame_bytes_lem c.args.goals c.args.graph.now c.frame_at-f.result.now (c.args.height - 1) c.requires.bytes
    (omega arith) c.frame_at-f.ensures

pub returns-in_err-done : goal.returns-in_err-done
returns-in_err-done c =
    let a = c.args in
    let p = err_from_is_err_and c.from_residual.result c.from_residual.ensures.1 in
    rw (p.1, p.2) (turn_refused a.goals a.height a.left a.overflow a.o a.graph.now _ c.in_err-done.was)

pub popped-requires : goal.popped-requires
popped-requires c = (
  record {
    bytes = c.requires.bytes;
    high = c.requires.high;
    counts = subst (CountsIn (stack_of c.args.goals c.args.height c.args.graph.now)) c.in_ok-done.was c.requires.counts;
  },
  (
    c.requires.low,
    (subst (FewEntries c.args.goals) c.in_ok-done.was c.requires.few, λ is. refl),
  ),
)

pub popped-requires-in_default : goal.popped-requires-in_default
popped-requires-in_default c = (
  record {
    bytes = c.requires.bytes;
    high = c.requires.high;
    counts = subst (CountsIn (stack_of c.args.goals c.args.height c.args.graph.now)) c.in_ok-done.was c.requires.counts;
  },
  (
    c.requires.low,
    (
      subst (FewEntries c.args.goals) c.in_ok-done.was c.requires.few,
      λ is. absurd (not_limit c.ending_of-ending.result (opened c.in_default.in_default-own.keys2) is),
    ),
  ),
)

pub returns-in-Overflow : goal.returns-in-Overflow
returns-in-Overflow c =
    let a = c.args in
    follows_limit a.goals a.height a.left a.overflow _ a.graph.now c.requires.low _
    (met_is a.goals (a.height - 1) a.graph.now c.frame_at-f.result.now a.overflow c.overflow.result _
    c.frame_at-f.ensures c.overflow.ensures refl)
    _
    (ending_is a.goals (a.height - 1) a.left a.graph.now c.frame_at-f.result.now _
    c.ending_of-ending.result c.frame_at-f.ensures c.ending_of-ending.ensures)
    c.popped.new.graph c.popped.result a.o c.in_ok-done.was c.in-Overflow.is c.popped.ensures

pub returns-in_default : goal.returns-in_default
returns-in_default c =
    let a = c.args in
    follows a.goals a.height a.left a.overflow _ a.graph.now c.requires.low _
    (met_is a.goals (a.height - 1) a.graph.now c.frame_at-f.result.now a.overflow c.overflow.result _
    c.frame_at-f.ensures c.overflow.ensures refl)
    _
    (ending_is a.goals (a.height - 1) a.left a.graph.now c.frame_at-f.result.now _
    c.ending_of-ending.result c.frame_at-f.ensures c.ending_of-ending.ensures)
    c.popped-in_default.new.graph c.popped-in_default.result a.o c.in_ok-done.was c.popped-in_default.ensures
