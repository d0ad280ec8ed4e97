use mathlib.Core.Path.{◌∙◌}
use Prim.Native.Nat.{◌-◌}
use Rattle.layout.specs.Blocks.{heads_of}
use Rattle.layout.proofs.Present.{mask_highest}
use Rattle.layout.proofs.heads.highest.Goals as goal

pub returns : goal.returns
returns c =
    let s = c in
    c.highest.ensures ∙ mask_highest (heads_of s.args.goals s.args.b.now) (64 - s.args.goals) c.mask.result c.mask.ensures
