use Rattle.layout.specs.Blocks.{usages_of}
use Rattle.layout.proofs.records.read_usages.Goals as goal

pub returns : goal.returns
unfolding usages_of
returns c =
    λ i. record {
      inductive = c.read_u64.ensures i;
      unknown = c.read_u64-2.ensures i;
      coinductive = c.read_u64-3.ensures i;
      forced = c.read_u64-4.ensures i;
    }
