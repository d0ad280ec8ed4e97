use Rattle.stack.proofs.Child as frames
use Rattle.stack.proofs.frame.child.become_head.Goals as goal

pub returns-then-is_head : goal.returns-then-is_head
returns-then-is_head c = let s = c in frames.head_already s.args.goals s.args.frame.now c.is_head.result c.is_head.ensures c.if-is_head.true

pub returns : goal.returns
returns c = let s = c in let y = c.write_usages in frames.head_new s.args.goals s.args.frame.now y.new.b c.is_head.result c.none.result s.requires.long c.is_head.ensures c.if-is_head.false c.none.ensures y.auto.b y.ensures
