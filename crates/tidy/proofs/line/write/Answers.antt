use mathlib.Core.Path.{ap, sym}
use mathlib.Core.List.{◌++◌}
use lib.ListN.{drop}
use lib.Seq.{length-take-le}
use Rattle.tidy.proofs.line.write.Goals as goal

pub slice_bounds-fill-end-2 : goal.slice_bounds-fill-end-2
slice_bounds-fill-end-2 c = sym (length-take-le 16 c.args.out.now c.requires)

pub fill-requires : goal.fill-requires
fill-requires c = length-take-le 16 c.args.out.now c.requires

pub returns : goal.returns
returns c = ap (λ s. s ++ drop 16 c.args.out.now) c.fill.ensures
