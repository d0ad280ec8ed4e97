use mathlib.Core.Path.{ap, ◌∙◌}
use mathlib.Core.Option.{none}
use lib.ListN.{get_or}
use Rattle.definition.specs.Heads.{CycleHeads}
use Rattle.layout.proofs.Present.{head_bytes}
use Rattle.pop.proofs.Writes.{popped_heads_block, popped_block}
use Rattle.pop.proofs.popped.popped_head.Goals as goal

pub record-requires : goal.record-requires
record-requires c = (
  popped_heads_block c.args.goals c.args.rest.now c.popped_heads.result.now c.requires.0
      c.popped_heads.ensures,
  c.requires.1,
)

pub returns : goal.returns
returns c h e =
    c.record.ensures
    ∙ head_bytes c.args.goals c.popped_heads.result.now c.args.i c.requires.1 h
    (ap (λ (hs : CycleHeads). get_or hs c.args.i none)
    (popped_block c.args.goals c.args.rest.now c.popped_heads.result.now c.popped_heads.ensures)
    ∙ e)
