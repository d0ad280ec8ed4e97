use native.Mathlib.Omega.{arith}
use Rattle.layout.specs.Work.{entries_start}
use Rattle.provisional_cache.proofs.Entries.{graph_entries, part_room, part_is}
use Rattle.provisional_cache.proofs.entry_at.Goals as goal

pub slice_bounds-result-end : goal.slice_bounds-result-end
slice_bounds-result-end c =
    let s = c in
    let entry-start = c.entry_start-start in
    let entry-size = c.entry_size in
    let inside =
    part_room s.args.goals (entries_start s.args.goals) s.args.graph.now s.args.i entry-start.result entry-size.result
    (graph_entries s.args.goals s.args.graph.now s.requires.0) s.requires.1
    entry-start.ensures.0 entry-size.ensures in
    omega arith

pub returns : goal.returns
returns c =
    let s = c in
    let entry-start = c.entry_start-start in
    let entry-size = c.entry_size in
    part_is s.args.goals (entries_start s.args.goals) s.args.graph.now s.args.i entry-start.result entry-size.result
    (graph_entries s.args.goals s.args.graph.now s.requires.0) s.requires.1
    entry-start.ensures.0 entry-size.ensures
