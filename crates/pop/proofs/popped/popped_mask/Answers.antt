use mathlib.Core.Path.{ap, ◌∙◌}
use mathlib.Core.Bool.{false}
use mathlib.Core.List.{◌++◌}
use Prim.Native.Nat.{◌-◌}
use lib.ListN.{replicate}
use Rattle.definition.specs.Heads.{CycleHeads}
use Rattle.layout.specs.Blocks.{present}
use Rattle.pop.proofs.Writes.{popped_heads_block, popped_block}
use Rattle.pop.proofs.popped.popped_mask.Goals as goal

pub mask-requires : goal.mask-requires
mask-requires c =
    popped_heads_block c.args.goals c.args.rest.now c.popped_heads.result.now c.requires
    c.popped_heads.ensures

pub returns : goal.returns
returns c =
    c.mask.ensures
    ∙ ap (λ (hs : CycleHeads). present hs ++ replicate (64 - c.args.goals) false)
    (popped_block c.args.goals c.args.rest.now c.popped_heads.result.now c.popped_heads.ensures)
