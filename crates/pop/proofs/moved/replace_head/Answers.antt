use Rattle.definition.specs.Graph.{Entry}
use Rattle.provisional_cache.specs.Entries.{without_head}
use Rattle.pop.proofs.Writes.{entry_room, written}
use Rattle.pop.proofs.Entries.{replaced}
use Rattle.pop.proofs.moved.replace_head.Goals as goal

pub slice_bounds-entry-end : goal.slice_bounds-entry-end
slice_bounds-entry-end c = entry_room c.requires.0.entries c.requires.1 c.entry_from.ensures.start c.entry_from.ensures.end

pub returns : goal.returns
returns c =
    replaced c.args.p.now.goals c.args.p.now.base c.args.p.now.index c.args.k c.args.used c.args.eps.bits c.args.rest.now _
    c.gain_heads.new.rest c.requires.0.wide
    (written c.requires.0.entries c.requires.1 c.entry_from.ensures.start c.entry_from.ensures.end
    (λ (e : Entry). without_head e c.args.p.now.index) c.remove_head.new.entry c.remove_head.auto.entry c.remove_head.ensures)
    c.gain_heads.ensures
