use mathlib.Core.Path.{ap, ◌∙◌}
use Rattle.definition.specs.declared.usages.HeadUsages.{HeadUsages}
use Rattle.definition.specs.Usages.{usages_cover}
use Rattle.stack.proofs.frame.tracked.own_covers.Goals as goal

pub returns : goal.returns
returns c = c.covers.ensures ∙ ap (λ (v : HeadUsages). usages_cover v c.args.u) c.own_usages-usages.ensures
