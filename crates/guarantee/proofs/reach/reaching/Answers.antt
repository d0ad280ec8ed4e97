use mathlib.Core.Path.{◌≡◌, subst}
use Prim.Native.Nat.{ℕ, ◌-◌}
use native.Mathlib.Omega.{arith}
use Rattle.guarantee.proofs.Masks.{mask_one}
use Rattle.guarantee.proofs.Rounds.{Rounds, rounds_start, rounds_more, rounds_end}
use Rattle.guarantee.proofs.reach.reaching.Goals as goal

pub loop-round-init : goal.loop-round-init
loop-round-init c b masks e =
    let all : b.header.goals ≡ c.args.goals - 0 = omega arith in
    subst (λ (n : ℕ). Rounds b c.args.goal n c.with-m.result) all
    (rounds_start b c.args.goal c.with-m.result
    (mask_one c.with-m.result c.args.goal c.requires.1 c.with-m.ensures))

pub loop-round-preserved : goal.loop-round-preserved
loop-round-preserved c b masks e =
    rounds_more b c.args.goal c.args.goals c.loop-round._round c.loop-round.m c.toward-m.result c.loop-round-test.true
    (c.loop-round.invariant b masks e) (c.toward-m.ensures b masks)

pub returns : goal.returns
returns c b masks e =
    rounds_end b c.args.goal c.args.goals c.loop-round._round c.loop-round.m c.loop-round-test.false
    (c.loop-round.invariant b masks e)
