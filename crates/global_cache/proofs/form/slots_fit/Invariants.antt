use mathlib.Core.Path.{◌≡◌}
use mathlib.Core.Bool.{true}
use Rattle.definition.specs.CacheForm.{slots_fit}
use Rattle.global_cache.proofs.form.slots_fit.Given as goal

abbrev pub invariant-loop-slot : goal.invariant-loop-slot
invariant-loop-slot l = true ≡ slots_fit l.h l.cache l.goal l.slot
