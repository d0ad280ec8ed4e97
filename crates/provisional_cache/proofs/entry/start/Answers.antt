use mathlib.Core.Path.{◌∙◌, refl, ap}
use Rattle.layout.specs.Frame.{truth}
use Rattle.stack.proofs.Values.{truth_byte}
use Rattle.provisional_cache.proofs.Entries.{fields_written}
use Rattle.provisional_cache.proofs.entry.start.Goals as goal

pub returns : goal.returns
returns c =
    let a = c.args in
    fields_written a.goals a.entry.now c.requires.0.long a.goal a.overflow a.path a.answer
    a.goal c.from.result c.from-2.result c.from-3.result refl (ap truth c.from.ensures ∙ truth_byte a.overflow) c.from-2.ensures
    c.from-3.ensures
