use native.Mathlib.Omega.{arith}
use Rattle.provisional_cache.proofs.Inserts.{insert_full, insert_kept}
use Rattle.provisional_cache.proofs.insert.Goals as goal

pub returns-then-goals-entries : goal.returns-then-goals-entries
returns-then-goals-entries c =
    let s = c in
    insert_full s.args.goals s.args.height s.args.entries s.args.goal s.args.step s.args.overflow
    s.args.answer s.args.graph.now c.if-goals-entries.true

pub write_entry-requires : goal.write_entry-requires
write_entry-requires c = let s = c in (s.requires.0.bytes, (s.requires.1.0, (omega arith, s.requires.1.1)))

pub returns : goal.returns
returns c =
    let s = c in
    let path-from-head = c.path_from_head-path in
    let write-entry = c.write_entry in
    insert_kept s.args.goals s.args.height s.args.entries s.args.goal s.args.step s.args.overflow
    s.args.answer s.args.graph.now (omega arith) write-entry.new.graph path-from-head.result path-from-head.ensures
    write-entry.ensures
