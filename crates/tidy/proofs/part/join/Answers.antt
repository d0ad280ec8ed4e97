use Rattle.book.proofs.Tests.{held, refused}
use Rattle.tidy.proofs.Joins.{no_group, other_code, same_code}
use Rattle.tidy.proofs.part.join.Goals as goal
use Rattle.book.specs.Codes.{is_group}
use Rattle.std.proofs.Common.{ap, ◌∙◌, not}

pub returns-then-not-is_group : goal.returns-then-not-is_group
returns-then-not-is_group c =
    no_group c.args.code c.args.n c.args.out.now (refused (c.is_group.ensures ∙ ap is_group c.from.ensures) (ap not c.if-not-is_group.true))

pub returns-then-field_at-code : goal.returns-then-field_at-code
returns-then-field_at-code c =
    other_code c.args.code c.args.n c.args.out.now c.field_at.result c.field_at.ensures c.if-field_at-code.true

pub returns : goal.returns
returns c =
    same_code c.args.code c.args.n c.args.out.now (held (c.is_group.ensures ∙ ap is_group c.from.ensures) (ap not c.if-not-is_group.false))
    c.field_at.result c.field_at.ensures c.if-field_at-code.false
    c.field_at-count.result c.field_at-count.ensures _ c.drop_line.ensures
