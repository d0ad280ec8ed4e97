use mathlib.Core.Bool.{false}
use Rattle.layout.specs.Frame.{frame_of}
use Rattle.stack.proofs.Child as frames
use Rattle.stack.proofs.frame.child.add_cycle.Goals as goal

pub returns : goal.returns
returns c = let s = c in frames.cycle_added s.args.step false s.args.reached (frame_of s.args.goals s.args.frame.now) (frame_of s.args.goals c.reach.new.frame) c.reach.ensures s.args.goal c.from-paths.result.bits (frame_of s.args.goals c.insert_nested.new.frame) (frame_of s.args.goals c.insert_itself.new.frame) c.from-paths.ensures c.insert_nested.ensures c.insert_itself.ensures
