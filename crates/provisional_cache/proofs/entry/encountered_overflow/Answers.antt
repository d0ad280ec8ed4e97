use lib.ListN.{get_or}
use Rattle.layout.specs.Entry.{entry_of}
use Rattle.stack.proofs.Values.{test_truth}
use Rattle.provisional_cache.proofs.entry.encountered_overflow.Goals as goal

pub returns : goal.returns
unfolding entry_of
returns c = test_truth (get_or c.args.entry.now 1 0)
