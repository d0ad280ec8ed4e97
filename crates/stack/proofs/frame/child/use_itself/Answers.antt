use mathlib.Core.Path.{◌∙◌}
use Rattle.stack.proofs.Child as frames
use Rattle.stack.proofs.frame.child.use_itself.Goals as goal

pub returns : goal.returns
returns g c =
    let s = c in
    let b = c.become_head in
    let y = c.count in
    frames.use_frame s.args.goals s.args.frame.now b.new.frame y.new.b (g.U.Used.uses s.args.used) (b.auto.frame ∙ s.requires.long) b.ensures y.auto.b y.ensures
