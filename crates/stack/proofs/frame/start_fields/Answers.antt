use Rattle.stack.proofs.Fields.{start_fields_lem}
use Rattle.stack.proofs.frame.start_fields.Goals as goal

pub returns : goal.returns
returns c = let a = c.args in start_fields_lem a.b.now c.requires.0 a.goal a.available a.step c.from.result c.from.ensures
