use native.Mathlib.Omega.{arith}
use Rattle.provisional_cache.proofs.Entries.{part_room, part_is}
use Rattle.provisional_cache.proofs.entry_from.Goals as goal

pub slice_bounds-result-end : goal.slice_bounds-result-end
slice_bounds-result-end c =
    let s = c in
    let entry-start-from = c.entry_start_from-start in
    let entry-size = c.entry_size in
    let inside =
    part_room s.args.goals s.args.base s.args.bytes.now s.args.i entry-start-from.result
    entry-size.result s.requires.0 s.requires.1
    entry-start-from.ensures.0 entry-size.ensures in
    omega arith

pub returns : goal.returns
returns c =
    let s = c in
    let entry-start-from = c.entry_start_from-start in
    let entry-size = c.entry_size in
    part_is s.args.goals s.args.base s.args.bytes.now s.args.i entry-start-from.result
    entry-size.result s.requires.0 s.requires.1
    entry-start-from.ensures.0 entry-size.ensures
