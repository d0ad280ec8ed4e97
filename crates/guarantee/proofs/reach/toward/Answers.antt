use mathlib.Core.Path.{sym, ◌∙◌}
use native.Mathlib.Omega.{arith}
use Rattle.guarantee.proofs.Masks.{upto_none, upto_with, upto_still, mask_one}
use Rattle.guarantee.proofs.Rounds.{at_goal, callers, round_ends}
use Rattle.guarantee.proofs.reach.toward.Goals.{then-meet, else-meet}
use Rattle.guarantee.proofs.reach.toward.Goals as goal

pub loop-i-init : goal.loop-i-init
loop-i-init c =
    upto_none (at_goal c.args.goal) (callers c.args.calls.now c.args.m) c.with-r.result
    (mask_one c.with-r.result c.args.goal c.requires.1 c.with-r.ensures)

pub loop-i-preserved : goal.loop-i-preserved
loop-i-preserved c =
    elim c.if-meet.branch [
      | then-meet w ↦
          upto_with (at_goal c.args.goal) (callers c.args.calls.now c.args.m) c.loop-i.r c.if-meet.r c.loop-i.i
          c.loop-i.invariant (sym c.meet.ensures ∙ w.if-meet.true) (omega arith) (rw w.r-is w.with-r-then-meet.ensures)
      | else-meet w ↦
          upto_still (at_goal c.args.goal) (callers c.args.calls.now c.args.m) c.loop-i.r c.if-meet.r c.loop-i.i
          c.loop-i.invariant (sym c.meet.ensures ∙ w.if-meet.false) w.r-is
    ]

pub returns : goal.returns
returns c =
    round_ends c.args.calls.now c.args.goal c.args.m c.loop-i.r c.loop-i.i c.requires.0 c.requires.1 c.loop-i-test.false
    c.loop-i.invariant
