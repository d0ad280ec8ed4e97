use mathlib.Core.Path.{◌∙◌}
use Rattle.stack.proofs.Records.{stored, flag_bool}
use Rattle.stack.proofs.frame.fields.store.Goals as goal

pub returns : goal.returns
returns c = let a = c.args in stored a.b.now c.requires a.f c.from.result (c.from.ensures ∙ flag_bool a.f.overflow)
