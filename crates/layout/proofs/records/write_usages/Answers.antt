use Rattle.layout.proofs.Written.{usages_written}
use borrow.Author.Rules.{rules}
use Rattle.layout.proofs.records.write_usages.Goals as goal

pub returns : goal.returns
returns c =
    let s = c in
    usages_written s.args.b.now s.args.u s.requires ((record { inductive = search rules; unknown = search rules; coinductive = search rules; forced = search rules })) c.write_u64.new.s c.write_u64.ensures c.write_u64-2.new.s c.write_u64-2.ensures
    c.write_u64-3.new.s c.write_u64-3.ensures c.write_u64-4.new.s c.write_u64-4.ensures
