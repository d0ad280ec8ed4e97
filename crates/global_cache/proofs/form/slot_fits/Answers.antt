use mathlib.Core.Path.{◌∙◌}
use Rattle.global_cache.proofs.Fits.{vacant, held, part_tells}
use Rattle.global_cache.proofs.form.slot_fits.Goals as goal

pub returns-then-is_vacant : goal.returns-then-is_vacant
returns-then-is_vacant c =
    let a = c.args in
    let paths = c.all_paths-paths in
    c.if-is_vacant.true
    ∙ vacant a.h a.slot a.s.now paths.result (part_tells a.s.now paths.result paths.ensures) c.is_vacant.result c.is_vacant.ensures c.if-is_vacant.true

pub returns-else-is_vacant : goal.returns-else-is_vacant
returns-else-is_vacant c =
    let a = c.args in
    let paths = c.all_paths-paths in
    c.held_fits.ensures
    ∙ held a.h a.slot a.s.now paths.result (part_tells a.s.now paths.result paths.ensures) c.is_vacant.result c.is_vacant.ensures c.if-is_vacant.false
