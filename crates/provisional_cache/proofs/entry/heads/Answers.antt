use Rattle.layout.specs.Entry.{entry_heads_start}
use Rattle.layout.specs.Blocks.{heads_size}
use Rattle.provisional_cache.proofs.Entries.{heads_part}
use Rattle.provisional_cache.proofs.entry.heads.Goals as goal

pub returns : goal.returns
returns c =
    let a = c.args in
    let heads-size = c.heads_size-end in
    heads_part a.entry.now entry_heads_start heads-size.result (heads_size a.goals) heads-size.ensures
