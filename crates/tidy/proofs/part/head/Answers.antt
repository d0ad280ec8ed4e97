use Rattle.tidy.proofs.Joins.{line_stands, only_part}
use Rattle.tidy.proofs.part.head.Goals as goal

pub returns-then-is_only : goal.returns-then-is_only
returns-then-is_only c =
    only_part c.args.code c.args.count c.args.n c.args.out.now _ c.is_only.result c.is_only.ensures c.if-is_only.true c.drop_line.ensures

pub returns : goal.returns
returns c =
    line_stands c.args.code c.args.count c.args.n c.args.out.now _ c.is_only.result c.is_only.ensures c.if-is_only.false c.write_with.ensures
