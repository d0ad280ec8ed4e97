use Rattle.layout.specs.Frame.{frame_of}
use Rattle.stack.proofs.Tracked as fields
use Rattle.stack.proofs.frame.tracked.ignore_own.Goals as goal

pub returns-then-not-is_head : goal.returns-then-not-is_head
returns-then-not-is_head c = let a = c.args in fields.ignore_own_none (frame_of a.goals a.frame.now) a.u c.is_head.result c.is_head.ensures c.if-not-is_head.true

pub returns : goal.returns
returns c = let s = c in fields.ignore_own_frame s.args.goals s.args.frame.now c.write_usages.new.b c.own_usages-before.result c.ignore_usages.result s.args.u s.requires.long c.own_usages-before.ensures c.ignore_usages.ensures c.write_usages.auto.b c.write_usages.ensures
