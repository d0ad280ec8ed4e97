use native.Mathlib.Omega.{arith}
use mathlib.Core.Path.{◌∙◌}
use Rattle.stack.proofs.Fields.{answer_small, reset_length, reset_frame}
use Rattle.stack.proofs.frame.reset.Goals as goal

pub overflow_add-frame : goal.overflow_add-frame
overflow_add-frame c = omega (arith, c.from.ensures, answer_small c.args.answer)

pub shape_of-frame : goal.shape_of-frame
shape_of-frame c = let s = c in let n = c.from in let w = c.write_usages in reset_length s.args.goals n.result s.args.frame.now s.args.answer s.requires.long n.ensures w.new.b w.auto.b

pub returns : goal.returns
returns c = let s = c in let n = c.from in let w = c.write_usages in reset_frame s.args.goals n.result s.args.frame.now s.args.answer s.requires.long n.ensures w.new.b w.auto.b (w.ensures ∙ c.none.ensures)
