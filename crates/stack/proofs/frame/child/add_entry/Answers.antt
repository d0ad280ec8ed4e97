use Rattle.layout.specs.Frame.{frame_of}
use Rattle.stack.proofs.Child as frames
use Rattle.stack.proofs.frame.child.add_entry.Goals as goal

pub returns : goal.returns
returns c = let s = c in frames.entry_added s.args.step s.args.overflow s.args.reached (frame_of s.args.goals s.args.frame.now) (frame_of s.args.goals c.reach.new.frame) c.reach.ensures (frame_of s.args.goals c.insert_itself.new.frame) c.insert_itself.ensures
