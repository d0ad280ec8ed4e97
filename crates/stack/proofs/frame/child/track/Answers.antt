use Rattle.layout.specs.Frame.{frame_of}
use Rattle.stack.proofs.Child as frames
use Rattle.stack.proofs.frame.child.track.Goals as goal

pub returns-then-not-tracks : goal.returns-then-not-tracks
returns-then-not-tracks g c = let s = c in frames.track_none (frame_of s.args.goals s.args.frame.now) s.args.i (g.U.Used.uses s.args.used) c.tracks.result c.tracks.ensures c.if-not-tracks.true

pub returns : goal.returns
returns g c = let s = c in let y = c.add_from_nested in frames.track_frame s.args.goals s.args.frame.now y.new.b c.candidate_start-start.result c.nested_start-end.result s.args.i (g.U.Used.uses s.args.used) s.requires.0.long c.candidate_start-start.ensures c.nested_start-end.ensures y.auto.b y.ensures
