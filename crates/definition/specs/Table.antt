-- The table of extensions.
use Rattle.std.specs.Prelude.{◌≡◌, List, ℕ, ◌+◌, ◌*◌, ◌<◌, get_or}
use Rattle.definition.specs.Paths.{extend_with_paths}

-- every set of paths extended by every set: entry 32 a + b is set a extended by set b
pub record Extensions (table : List ℕ) : Type 0 where
  pub entry : (a b : ℕ) → a < 32 → b < 32 → get_or table (32 * a + b) 0 ≡ extend_with_paths a b
