use Rattle.layout.specs.Entry.{entry_of}
use Rattle.provisional_cache.proofs.entry.path_from_head.Goals as goal

pub returns : goal.returns
unfolding entry_of
returns c = c.from.ensures
