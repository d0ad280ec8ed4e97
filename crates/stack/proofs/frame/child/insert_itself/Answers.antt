use Rattle.layout.specs.Frame.{frame_of}
use Rattle.stack.proofs.Child as frames
use Rattle.stack.proofs.frame.child.insert_itself.Goals as goal

pub returns : goal.returns
returns c = let s = c in let y = c.insert_nested in frames.itself_frame (frame_of s.args.goals s.args.frame.now) (frame_of s.args.goals y.new.frame) c.input-goal.result c.input-goal.ensures.0 y.ensures
