use Rattle.std.proofs.Common.{rules, tests, ◌∙◌, not, ◌||◌}
use lib.Dec.{leb}
use Rattle.std.proofs.lemmas.Iterator.{YieldsList-from_slice}
use Rattle.std.proofs.lemmas.Iterator.Search.{all_from_yields_List}
use Rattle.definition.specs.declared.paths.PathKind.{PathKind}
use Rattle.definition.specs.Paths.{kind_number, extend, contains_path, path_kinds}
use Rattle.pop.proofs.Tests.{keeps_each}
use Rattle.pop.proofs.stays.paths_keep_kind.Goals as goal

pub returns : goal.returns
returns c =
    all_from_yields_List (λ (ep : PathKind). not (contains_path c.args.eps.bits ep) || leb (kind_number (extend ep c.args.path)) (kind_number c.args.lowest))
    _ _ _ c.all.ensures.ran (YieldsList-from_slice path_kinds cc) (λ x b q k. search (rules, tests))
    ∙ keeps_each c.args.eps.bits (kind_number c.args.lowest) c.args.path path_kinds
