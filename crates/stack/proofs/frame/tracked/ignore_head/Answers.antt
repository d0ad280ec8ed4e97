use Rattle.stack.proofs.Tracked as fields
use Rattle.stack.proofs.frame.tracked.ignore_head.Goals as goal

pub returns : goal.returns
returns c = let s = c in fields.ignore_head_frame s.args.goals s.args.frame.now c.ignore.new.b c.candidate_start-end.result s.args.i s.args.u s.requires.0.long c.candidate_start-end.ensures c.ignore.auto.b c.ignore.ensures
