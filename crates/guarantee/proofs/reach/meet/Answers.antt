use Rattle.guarantee.proofs.Masks.{meets_and}
use Rattle.guarantee.proofs.reach.meet.Goals as goal

pub returns : goal.returns
returns c = meets_and c.args.a c.args.b c.ranges.b.fits
