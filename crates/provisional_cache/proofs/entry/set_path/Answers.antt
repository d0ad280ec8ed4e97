use Rattle.provisional_cache.proofs.Entries.{path_written}
use Rattle.provisional_cache.proofs.entry.set_path.Goals as goal

pub returns : goal.returns
returns c =
    let s = c in
    let number = c.from in
    path_written s.args.goals s.args.entry.now s.requires.long s.args.kind number.result number.ensures
