use mathlib.Core.Path.{◌∙◌}
use Rattle.definition.proofs.Equality.{equal_answers}
use Rattle.delegate.proofs.Groups.{decided, undecided}
use Rattle.delegate.proofs.group.unless.Goals as goal

pub returns-then-eq : goal.returns-then-eq
returns-then-eq c =
    decided c.args.op c.args.combined c.args.deciding c.args.answer c.args.entries c.eq.result
    (c.eq.ensures ∙ equal_answers c.args.answer c.args.deciding) c.if-eq.true

pub returns : goal.returns
returns c =
    undecided c.args.op c.args.combined c.args.deciding c.args.answer c.args.entries c.eq.result
    (c.eq.ensures ∙ equal_answers c.args.answer c.args.deciding) c.combine.result c.if-eq.false c.combine.ensures
