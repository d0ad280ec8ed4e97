use mathlib.Core.Path.{ap, ◌∙◌}
use Prim.Native.Nat.{ℕ}
use Rattle.layout.specs.Frame.{frame_of}
use Rattle.stack.specs.Child.{use_at}
use Rattle.stack.proofs.frame.child.add_head.Goals as goal

pub returns : goal.returns
returns c =
    let a = c.args in
    c.add.ensures
    ∙ ap (λ (p : ℕ). use_at a.own a.i p a.head.usages (frame_of a.goals a.frame.now)) c.extend_with-extended.ensures
