use Rattle.std.proofs.Common.{◌≡◌, ◌-◌, ◌+◌, arith, subst, ℕ, drop}
use Rattle.definition.specs.Reader.{read_part, read_parts}
use Rattle.book.specs.Lines.{lines_in}
use Rattle.book.specs.Grammar.{after_part, after_parts}
use Rattle.book.proofs.Sizes.{too_deep, too_short, opened_none, opened_parts, turn_bad, turn_good, turn_end, further}
use Rattle.book.proofs.grammar.+part_size.Goals as goal

pub returns-then-nest-eq0 : goal.returns-then-nest-eq0
returns-then-nest-eq0 t c = let a = c.args in
    (too_deep a.goals a.nest a.in_pick _ c.if-nest-eq0.true, tt)

pub returns-then-s-lt16 : goal.returns-then-s-lt16
returns-then-s-lt16 t c = let a = c.args in
    (too_short a.goals a.nest a.in_pick c.if-nest-eq0.false a.s.now c.if-s-lt16.true, tt)

pub returns-in_err-first : goal.returns-in_err-first
returns-in_err-first t c = let a = c.args in
    rw c.from_residual.ensures (opened_none a.goals a.nest a.in_pick c.if-nest-eq0.false a.s.now c.if-s-lt16.false c.opened_by.result c.opened_by.ensures c.in_err-first.was, tt)

pub loop-init : goal.loop-init
loop-init t c = let a = c.args in
    let all : c.in_ok-first.first.parts ≡ c.in_ok-first.first.parts - 0 = omega arith in
    (c.if-s-lt16.false, rw (← all) (opened_parts a.goals a.nest a.in_pick c.if-nest-eq0.false a.s.now c.if-s-lt16.false c.opened_by.result c.opened_by.ensures _ c.in_ok-first.was))

pub returns-in_err-n : goal.returns-in_err-n
returns-in_err-n t c = let a = c.args in
    let l = c.loop in
    rw c.from_residual-in_err-n.ensures (
      turn_bad (read_part a.goals (a.nest - 1) c.in_ok-first.first.in_pick) a.s.now _ l.at (c.in_ok-first.first.parts - l.counter) c.part_size.result (omega (arith, c.loop-test.true)) l.invariant.1 c.part_size.ensures.0 c.in_err-n.was,
      tt,
    )

pub overflow_add-at : goal.overflow_add-at
overflow_add-at t c = let l = c.loop in
    let r = further l.at c.args.s.now c.in_ok-n.n l.invariant.0 c.in_ok-n.ensures.1 in
    omega (arith, r, c.well_formed.0.0)

pub loop-preserved : goal.loop-preserved
loop-preserved t c = let a = c.args in
    let l = c.loop in
    let r = further l.at a.s.now c.in_ok-n.n l.invariant.0 c.in_ok-n.ensures.1 in
    let one_less : c.in_ok-first.first.parts - l.counter - 1 ≡ c.in_ok-first.first.parts - (l.counter + 1) = omega arith in (
      r,
      subst (λ (k : ℕ). after_parts (read_parts (read_part a.goals (a.nest - 1) c.in_ok-first.first.in_pick) k (lines_in (drop (l.at + c.in_ok-n.n) a.s.now))) ≡ after_part (read_part a.goals a.nest a.in_pick (lines_in a.s.now)))
          one_less
          (turn_good (read_part a.goals (a.nest - 1) c.in_ok-first.first.in_pick) a.s.now _ l.at (c.in_ok-first.first.parts - l.counter) c.part_size.result (omega (arith, c.loop-test.true)) l.invariant.1 c.part_size.ensures.0 _ c.in_ok-n.was),
    )

pub returns : goal.returns
returns t c = let a = c.args in
    let l = c.loop in
    (turn_end (read_part a.goals (a.nest - 1) c.in_ok-first.first.in_pick) a.s.now _ l.at (c.in_ok-first.first.parts - l.counter) (omega (arith, c.loop-test.false)) l.invariant.1, l.invariant.0)
