use Rattle.definition.specs.Heads.{CycleHeads, insert_head}
use Rattle.provisional_cache.proofs.Entries.{heads_written}
use Rattle.provisional_cache.proofs.entry.join_head.Goals as goal

pub returns : goal.returns
returns c =
    let a = c.args in
    let heads-size = c.heads_size-end in
    let insert = c.insert in
    heads_written a.goals a.entry.now heads-size.result insert.new.b
    (λ (hs : CycleHeads). insert_head hs a.i a.head.paths a.head.usages)
    c.requires.0 heads-size.ensures insert.auto.b insert.ensures
