use Rattle.stack.proofs.Tracked as fields
use Rattle.stack.proofs.frame.tracked.enter.Goals as goal

pub returns : goal.returns
returns c = let s = c in fields.enter_frame s.args.goals s.args.frame.now c.clear.new.b c.candidate_start-start.result c.nested_start-end.result s.requires.long c.candidate_start-start.ensures c.nested_start-end.ensures c.clear.auto.b c.clear.ensures
