use Rattle.layout.specs.Blocks.{usages_of}
use Rattle.layout.proofs.Counted.{kinds_counted}
use Rattle.layout.proofs.records.count_nested.Goals as goal

pub returns : goal.returns
returns c =
    let s = c in
    kinds_counted (usages_of s.args.b.now) s.args.nested (usages_of c.count_if.new.b) (usages_of c.count_if-2.new.b)
    (usages_of c.count_if-3.new.b) (usages_of c.count_if-4.new.b)
    c.count_if.ensures c.count_if-2.ensures c.count_if-3.ensures c.count_if-4.ensures
