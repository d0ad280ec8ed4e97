use mathlib.Core.Path.{◌∙◌}
use Rattle.layout.specs.Frame.{frame_of}
use Rattle.task.proofs.Endings.{ending_nothing, ending_head}
use Rattle.task.proofs.ending.ending_of.Goals as goal

pub returns-then-not-is_head : goal.returns-then-not-is_head
returns-then-not-is_head c =
    ending_nothing c.args.left (frame_of c.args.goals c.args.f.now) c.args.answer c.is_head.result c.is_head.ensures
    c.if-not-is_head.true

pub returns : goal.returns
returns c =
    c.ending_of_head.ensures
    ∙ ending_head c.args.left (frame_of c.args.goals c.args.f.now) c.args.answer c.is_head.result c.is_head.ensures
    c.if-not-is_head.false c.provisional_result-provisional.result c.provisional_result-provisional.ensures c.own_usages.result
    c.own_usages.ensures
