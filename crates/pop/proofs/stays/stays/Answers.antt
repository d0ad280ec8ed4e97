use Rattle.provisional_cache.proofs.Entries.{entry_bytes_lem}
use Rattle.pop.proofs.stays.stays.Goals as goal

pub path_from_head-path-requires : goal.path_from_head-path-requires
path_from_head-path-requires c =
    entry_bytes_lem c.args.p.now.goals c.args.p.now.base c.args.rest.now c.entry_from-entry.result.now c.args.k
    c.requires.0.entries c.requires.1 c.entry_from-entry.ensures

pub result-res-requires : goal.result-res-requires
result-res-requires c =
    entry_bytes_lem c.args.p.now.goals c.args.p.now.base c.args.rest.now c.entry_from-entry.result.now c.args.k
    c.requires.0.entries c.requires.1 c.entry_from-entry.ensures
