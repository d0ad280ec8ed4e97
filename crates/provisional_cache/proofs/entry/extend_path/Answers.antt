use Rattle.layout.specs.Entry.{entry_of}
use Rattle.provisional_cache.proofs.Entries.{path_extended}
use Rattle.provisional_cache.proofs.entry.extend_path.Goals as goal

pub returns : goal.returns
returns c =
    let a = c.args in
    let path-from-head = c.path_from_head-before in
    let extend = c.extend in
    let set-path = c.set_path in
    path_extended (entry_of a.goals a.entry.now) (entry_of a.goals set-path.new.entry) path-from-head.result extend.result
    a.kind set-path.ensures extend.ensures path-from-head.ensures
