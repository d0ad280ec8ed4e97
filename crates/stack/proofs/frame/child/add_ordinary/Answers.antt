use Rattle.layout.specs.Frame.{frame_of}
use Rattle.stack.proofs.Child as frames
use Rattle.stack.proofs.frame.child.add_ordinary.Goals as goal

pub returns-then-is_empty : goal.returns-then-is_empty
returns-then-is_empty c = let s = c in frames.ordinary_empty s.args.step s.args.overflow s.args.reached (frame_of s.args.goals s.args.frame.now) (frame_of s.args.goals c.reach.new.frame) c.reach.ensures s.args.child.now c.is_empty.result c.is_empty.ensures (frame_of s.args.goals c.extend.new.frame) c.extend.ensures c.if-is_empty.true

pub returns : goal.returns
returns c = let s = c in frames.ordinary_more s.args.step s.args.overflow s.args.reached (frame_of s.args.goals s.args.frame.now) (frame_of s.args.goals c.reach.new.frame) c.reach.ensures s.args.child.now c.is_empty.result c.is_empty.ensures (frame_of s.args.goals c.extend.new.frame) c.extend.ensures c.if-is_empty.false (frame_of s.args.goals c.insert_itself.new.frame) c.insert_itself.ensures
