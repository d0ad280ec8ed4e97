use Rattle.provisional_cache.proofs.Entries.{entry_bytes_lem}
use Rattle.pop.proofs.moved.entry_heads.Goals as goal

pub heads-requires : goal.heads-requires
heads-requires c =
    entry_bytes_lem c.args.p.now.goals c.args.p.now.base c.args.rest.now c.entry_from.result.now c.args.k
    c.requires.0 c.requires.1 c.entry_from.ensures
