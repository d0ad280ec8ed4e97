use mathlib.Core.Path.{refl}
use Rattle.layout.specs.Frame.{frame_of}
use Rattle.stack.proofs.Child as frames
use Rattle.stack.proofs.frame.child.add.Goals as goal

pub returns-then-i-own : goal.returns-then-i-own
returns-then-i-own g c = let a = c.args in frames.head_below a.own a.i a.paths (g.U.Used.uses a.used) (frame_of a.goals a.frame.now) (frame_of a.goals c.track.new.frame) (frame_of a.goals c.join.new.frame) c.track.ensures c.join.ensures c.if-i-own.true

pub returns-then-i-own-2 : goal.returns-then-i-own-2
returns-then-i-own-2 g c = let a = c.args in frames.head_own a.own a.i a.paths (g.U.Used.uses a.used) (frame_of a.goals a.frame.now) (frame_of a.goals c.track.new.frame) (frame_of a.goals c.use_itself.new.frame) c.track.ensures c.use_itself.ensures c.if-i-own-2.true

pub returns-else-i-own-2 : goal.returns-else-i-own-2
returns-else-i-own-2 g c = let a = c.args in frames.head_above a.own a.i a.paths (g.U.Used.uses a.used) (frame_of a.goals a.frame.now) (frame_of a.goals c.track.new.frame) (frame_of a.goals c.track.new.frame) c.track.ensures refl c.if-i-own.false c.if-i-own-2.false
