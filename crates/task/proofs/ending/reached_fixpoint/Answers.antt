use mathlib.Core.Path.{◌∙◌}
use Rattle.definition.proofs.Equality.{equal_answers}
use Rattle.task.proofs.Endings.{later_reached, later_missed, first_reached, first_missed}
use Rattle.task.proofs.ending.reached_fixpoint.Goals as goal

pub returns-then-eq : goal.returns-then-eq
returns-then-eq c =
    later_reached c.args.provisional c.args.usages c.args.answer c.eq.result c.in-Some.before c.in-Some.is
    (c.eq.ensures ∙ equal_answers c.in-Some.before c.args.answer) c.if-eq.true

pub returns-then-is_single : goal.returns-then-is_single
returns-then-is_single c =
    first_reached c.args.provisional c.args.usages c.args.answer c.is_single.result c.initial_kind-kind.result c.in-None.is
    c.initial_kind-kind.ensures c.is_single.ensures c.if-is_single.true

pub returns-else-eq : goal.returns-else-eq
returns-else-eq c =
    later_missed c.args.provisional c.args.usages c.args.answer c.eq.result c.in-Some.before c.in-Some.is
    (c.eq.ensures ∙ equal_answers c.in-Some.before c.args.answer) c.if-eq.false

pub returns-else-is_single : goal.returns-else-is_single
returns-else-is_single c =
    first_missed c.args.provisional c.args.usages c.args.answer c.is_single.result c.initial_kind-kind.result c.in-None.is
    c.initial_kind-kind.ensures c.is_single.ensures c.if-is_single.false
