use Rattle.stack.proofs.Fields.{mark_frame}
use Rattle.stack.proofs.Records.{mark_returned}
use Rattle.stack.proofs.Parts.{returned}
use Rattle.stack.proofs.frame.mark_overflow.Goals as goal

pub returns : goal.returns
returns c = let s = c in let bs = s.args.frame.now in let m = c.mark_bytes in let a = c in let p = c.insert in mark_frame s.args.goals bs (returned bs 0 8 m.new.b) p.new.nested a.nested_start-start.result s.requires.long (mark_returned bs m.new.b m.ensures) a.nested_start-start.ensures p.auto.nested a.input-goal.result a.input-goal.ensures.0 p.ensures
