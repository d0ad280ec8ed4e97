use Rattle.stack.proofs.Tracked as fields
use Rattle.stack.proofs.frame.tracked.finish.Goals as goal

pub returns : goal.returns
returns c = let s = c in fields.finish_frame s.args.goals s.args.frame.now s.requires.long
