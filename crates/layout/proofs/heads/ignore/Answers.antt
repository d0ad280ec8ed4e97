use Rattle.layout.proofs.AtIndex.{ignore_absent, ignore_present}
use Rattle.layout.proofs.heads.ignore.Goals as goal

pub returns-then-not-has : goal.returns-then-not-has
returns-then-not-has c = let s = c in ignore_absent s.args.goals s.args.b.now s.args.i s.requires.1 s.args.u c.has.result c.has.ensures c.if-not-has.true

pub returns : goal.returns
returns c = let s = c in ignore_present s.args.goals s.args.b.now s.args.i s.requires.1 s.args.u c.has.result c.has.ensures c.if-not-has.false c.record-head.result c.ignore_usages-usages.result c.put.new.b c.record-head.ensures c.ignore_usages-usages.ensures c.put.ensures
