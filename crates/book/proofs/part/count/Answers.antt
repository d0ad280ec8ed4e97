use Rattle.std.proofs.Common.{◌∙◌, arith}
use Rattle.book.specs.Lines.{line_in}
use Rattle.book.proofs.Walk.{part_line}
use Rattle.book.proofs.part.count.Goals as goal

pub field_at-requires : goal.field_at-requires
field_at-requires c = let l = part_line c.args.part.now c.requires in omega arith

pub returns : goal.returns
unfolding line_in
returns c = (c.from.ensures ∙ c.field_at.ensures, omega arith)
