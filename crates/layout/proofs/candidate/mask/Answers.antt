use Rattle.layout.proofs.Kept.{mask_names}
use Rattle.layout.proofs.candidate.mask.Goals as goal

pub returns : goal.returns
returns c = let s = c in mask_names s.args.goals s.args.b.now c.read_u64.result c.below.result s.requires.few c.read_u64.ensures c.below.ensures
