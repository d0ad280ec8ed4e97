use mathlib.Core.Path.{ap, ◌∙◌}
use Prim.Native.Nat.{ℕ}
use Rattle.definition.specs.Usages.{one_usage}
use Rattle.layout.specs.Frame.{frame_of}
use Rattle.stack.specs.Child.{use_at}
use Rattle.stack.proofs.Child.{flag_extended}
use Rattle.stack.proofs.frame.child.count_head.Goals as goal

pub returns : goal.returns
returns c =
    let a = c.args in
    c.add.ensures
    ∙ ap (λ (p : ℕ). use_at a.own a.head p (one_usage a.kind) (frame_of a.goals a.frame.now)) (c.flag.ensures ∙ flag_extended a.step)
