use Rattle.definition.specs.Heads.{CycleHeads, remove_head}
use Rattle.provisional_cache.proofs.Entries.{heads_written}
use Rattle.provisional_cache.proofs.entry.remove_head.Goals as goal

pub returns : goal.returns
returns c =
    let a = c.args in
    let heads-size = c.heads_size-end in
    let remove = c.remove in
    heads_written a.goals a.entry.now heads-size.result remove.new.b (λ (hs : CycleHeads). remove_head hs a.i)
    c.requires.0 heads-size.ensures remove.auto.b remove.ensures
