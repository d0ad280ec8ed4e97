use Rattle.std.proofs.Common.{ℕ, ◌+◌, ◌*◌, ◌∷◌, length, drop, sym, ap, ap₂, ◌∙◌, rules}
use Rattle.definition.specs.declared.paths.PathKind.{PathKind}
use Rattle.guarantee.specs.Engine.{steps_in}
use Rattle.guarantee.proofs.Lines.{turn_goal, turn_call, turn_other, turns_end}
use Rattle.guarantee.proofs.steps.StepsLeftIterator.next.Goals as goal

pub loop-self-preserved-in-Goal : goal.loop-self-preserved-in-Goal
loop-self-preserved-in-Goal c =
    let s = c.loop-self.self in
    ap (λ (caller : ℕ). steps_in (s.line + 1) caller (drop (16 * (s.line + 1)) s.book.now)) c.from-goal.ensures
    ∙ sym (turn_goal s.book.now s.line s.caller c.loop-self-test.true c.first-l.result c.first-l.ensures c.from.result
    c.from.ensures c.in-Goal.is)
    ∙ c.loop-self.invariant

pub loop-self-preserved : goal.loop-self-preserved
loop-self-preserved c =
    let s = c.loop-self.self in
    sym (turn_other s.book.now s.line s.caller c.loop-self-test.true c.first-l.result c.first-l.ensures c.from.result
    c.from.ensures c.in_default.not-Goal c.in_default.not-Call)
    ∙ c.loop-self.invariant

pub returns-in-Call-clause-steps : goal.returns-in-Call-clause-steps
returns-in-Call-clause-steps c =
    let s = c.loop-self.self in
    sym c.loop-self.invariant
    ∙ turn_call s.book.now s.line s.caller c.loop-self-test.true c.first-l.result c.first-l.ensures c.from.result
    c.from.ensures c.in-Call.is
    ∙ sym (ap₂ (λ (goal : ℕ) (kind : PathKind). record { line = s.line; caller = s.caller; goal = goal; kind = kind }
    ∷ steps_in (s.line + 1) s.caller (drop (16 * (s.line + 1)) s.book.now)) c.from-goal.ensures c.kind.ensures)

pub returns-in-Call-clause-goes : goal.returns-in-Call-clause-goes
returns-in-Call-clause-goes c =
    let s = c.loop-self.self in
    let shorter = ap length (sym c.loop-self.invariant
    ∙ turn_call s.book.now s.line s.caller c.loop-self-test.true c.first-l.result c.first-l.ensures c.from.result
    c.from.ensures c.in-Call.is) in
    search rules

pub returns-clause-steps : goal.returns-clause-steps
returns-clause-steps c =
    let s = c.loop-self.self in
    let none = turns_end s.book.now s.line s.caller c.loop-self-test.false in
    (sym c.loop-self.invariant ∙ none, none)
