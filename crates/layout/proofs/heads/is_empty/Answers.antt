use Prim.Native.Nat.{◌-◌}
use Rattle.layout.specs.Blocks.{heads_of}
use Rattle.layout.proofs.Present.{mask_empty}
use borrow.Author.Rules.{rules}
use Rattle.layout.proofs.heads.is_empty.Goals as goal

pub returns : goal.returns
returns c =
    let s = c in
    mask_empty (heads_of s.args.goals s.args.b.now) (64 - s.args.goals) c.mask.result c.mask.ensures ((search rules))
