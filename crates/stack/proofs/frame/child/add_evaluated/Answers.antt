use mathlib.Core.Path.{sym, ap, ◌∙◌}
use mathlib.Core.Bool.{Bool}
use Rattle.layout.specs.Frame.{frame_of}
use Rattle.stack.specs.Child.{insert_own, finish_nested}
use Rattle.stack.proofs.frame.child.add_evaluated.Goals as goal

pub returns-then-none : goal.returns-then-none
returns-then-none c = let s = c in c.reach.ensures ∙ sym (ap (λ (t : Bool). finish_nested s.args.overflow t s.args.reached (frame_of s.args.goals s.args.frame.now)) c.if-none.true)

pub returns : goal.returns
returns c = let s = c in c.insert_itself.ensures ∙ ap insert_own c.reach.ensures ∙ sym (ap (λ (t : Bool). finish_nested s.args.overflow t s.args.reached (frame_of s.args.goals s.args.frame.now)) c.if-none.false)
