use Prim.Native.Nat.{min}
use mathlib.Core.Bool.{◌||◌}
use mathlib.Core.Path.{◌≡◌, sym, ap, ◌∙◌}
use Rattle.layout.specs.Frame.{truth, frame_of}
use Rattle.stack.proofs.Child as frames
use Rattle.stack.proofs.Values.{truth_byte}
use Rattle.stack.proofs.frame.child.reach.Goals as goal
use Rattle.stack.proofs.frame.child.reach.Goals.{then-overflow, else-overflow}

-- whether overflow was met, before or now
met : (c : goal.After-min) → c.if-overflow.met ≡ ((frame_of c.args.goals c.args.frame.now).encountered_overflow || c.args.overflow)
met c =
    elim c.if-overflow.branch [
      | then-overflow w ↦ w.met-is ∙ w.if-overflow.true ∙ sym (ap (λ t. t || c.args.overflow) (sym c.overflow.ensures ∙ w.if-overflow.true))
      | else-overflow w ↦ w.met-is ∙ sym (ap (λ t. t || c.args.overflow) (sym c.overflow.ensures ∙ w.if-overflow.false))
    ]

pub returns : goal.returns
unfolding frame_of
returns c =
    let a = c.args in
    frames.reach_frame_lem a.goals a.frame.now c.from.result c.min.result a.overflow a.reached c.requires.long
    (ap truth c.from.ensures ∙ truth_byte c.if-overflow.met ∙ met c)
    (c.min.ensures ∙ ap (λ x. min x a.reached) c.from-before.ensures)
