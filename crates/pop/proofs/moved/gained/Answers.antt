use mathlib.Core.Path.{refl}
use Rattle.definition.proofs.Extensions.{table_rule}
use Rattle.pop.proofs.moved.gained.Goals as goal

-- the table's rule is proved here, by one test of all its entries
pub extend_with_paths-ephs-requires : goal.extend_with_paths-ephs-requires
extend_with_paths-ephs-requires c = table_rule _ refl tt
