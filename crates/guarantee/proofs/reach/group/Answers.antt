use mathlib.Core.Path.{sym, ◌∙◌}
use native.Mathlib.Omega.{arith}
use Rattle.guarantee.proofs.Masks.{upto_none, upto_with, upto_still, mask_none}
use Rattle.guarantee.proofs.Rounds.{nobody, together, group_ends}
use Rattle.guarantee.proofs.reach.group.Goals.{then-linked, else-linked}
use Rattle.guarantee.proofs.reach.group.Goals as goal

pub loop-k-init : goal.loop-k-init
loop-k-init c = upto_none nobody (together c.args.reach.now c.args.g) 0 mask_none

pub loop-k-preserved : goal.loop-k-preserved
loop-k-preserved c =
    elim c.if-linked.branch [
      | then-linked w ↦
          upto_with nobody (together c.args.reach.now c.args.g) c.loop-k.m c.if-linked.m c.loop-k.k c.loop-k.invariant
          (sym c.linked.ensures ∙ w.if-linked.true) (omega arith) (rw w.m-is w.with-m.ensures)
      | else-linked w ↦
          upto_still nobody (together c.args.reach.now c.args.g) c.loop-k.m c.if-linked.m c.loop-k.k c.loop-k.invariant
          (sym c.linked.ensures ∙ w.if-linked.false) w.m-is
    ]

pub returns : goal.returns
returns c =
    group_ends c.args.reach.now c.args.g c.loop-k.m c.loop-k.k c.loop-k-test.false c.loop-k.invariant
