use Rattle.std.proofs.Common.{ap, not}
use Rattle.book.proofs.Sizes.{goal_short, goal_wrong, goal_none, goal_some, further}
use Rattle.book.proofs.grammar.goal_size.Goals as goal

pub returns-then-s-lt16 : goal.returns-then-s-lt16
returns-then-s-lt16 c = let a = c.args in (goal_short a.goals a.goal a.s.now c.if-s-lt16.true, tt)

pub returns-then-not-is_goal_line : goal.returns-then-not-is_goal_line
returns-then-not-is_goal_line c = let a = c.args in
    (goal_wrong a.goals a.goal a.s.now c.if-s-lt16.false c.is_goal_line.result c.is_goal_line.ensures (ap not c.if-not-is_goal_line.true), tt)

pub returns-in_err-n : goal.returns-in_err-n
returns-in_err-n c = let a = c.args in
    rw c.from_residual.ensures (goal_none a.goals a.goal a.s.now c.if-s-lt16.false c.is_goal_line.result c.is_goal_line.ensures (ap not c.if-not-is_goal_line.false) c.part_size.result c.part_size.ensures.0 c.in_err-n.was, tt)

pub returns : goal.returns
returns c = let a = c.args in
    (goal_some a.goals a.goal a.s.now c.if-s-lt16.false c.is_goal_line.result c.is_goal_line.ensures (ap not c.if-not-is_goal_line.false) c.part_size.result c.part_size.ensures.0 _ c.in_ok-n.was, further 16 a.s.now c.in_ok-n.n c.if-s-lt16.false c.in_ok-n.ensures.1)
