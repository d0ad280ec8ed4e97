use Rattle.layout.specs.Entry.{entry_of}
use native.Mathlib.Omega.{arith}
use Rattle.provisional_cache.proofs.entry.input.Goals as goal

pub returns : goal.returns
unfolding entry_of
returns c = (c.from.ensures, omega arith)
