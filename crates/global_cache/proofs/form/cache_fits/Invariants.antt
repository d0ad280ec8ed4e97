use mathlib.Core.Path.{◌≡◌}
use mathlib.Core.Bool.{true}
use Rattle.definition.specs.CacheForm.{goals_fit}
use Rattle.global_cache.proofs.form.cache_fits.Given as goal

abbrev pub invariant-loop-goal : goal.invariant-loop-goal
invariant-loop-goal l = true ≡ goals_fit l.h l.cache l.goal
