use Rattle.layout.specs.Work.{entries_start}
use Rattle.provisional_cache.proofs.Entries.{part_room}
use Rattle.provisional_cache.proofs.Writes.{mid_entries_bytes, appended}
use Rattle.provisional_cache.proofs.write_entry.Goals as goal

pub slice_bounds-start-end : goal.slice_bounds-start-end
slice_bounds-start-end c =
    let s = c in
    let copy-heads = c.copy_heads in
    let entry-start = c.entry_start-start in
    let entry-size = c.entry_size in
    part_room s.args.goals (entries_start s.args.goals) copy-heads.new.graph s.args.i entry-start.result entry-size.result
    (mid_entries_bytes s.args.goals s.args.height s.args.i s.args.graph.now copy-heads.new.graph s.requires.0
    s.requires.1.1.0 copy-heads.auto.graph copy-heads.ensures) s.requires.1.1.0 entry-start.ensures.0 entry-size.ensures

pub returns : goal.returns
returns c =
    let c2 = c in let c4 = c2 in let c5 = c4 in let c8 = c5 in
    let s = c8 in
    let b = c2.start in
    let copy-heads = c8.copy_heads in
    let entry-start = c5.entry_start-start in
    let entry-size = c4.entry_size in
    appended s.args.goals s.args.height s.args.i s.args.graph.now copy-heads.new.graph s.requires.0
    s.requires.1.1.0 copy-heads.auto.graph copy-heads.ensures entry-start.result entry-size.result entry-start.ensures.0 entry-size.ensures
    b.new.entry b.auto.entry s.args.goal s.args.overflow s.args.path s.args.answer b.ensures
