use mathlib.Core.Path.{sym, ◌∙◌}
use Rattle.layout.proofs.NestedPaths.{leb_zero, empty_flags}
use Rattle.layout.proofs.nested.is_empty.Goals as goal

pub returns : goal.returns
returns c = sym (leb_zero c.all_paths.result) ∙ c.all_paths.ensures 0 ∙ empty_flags c.args.nested.now
