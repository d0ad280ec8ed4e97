use mathlib.Core.Path.{ap, ◌∙◌}
use Rattle.definition.specs.Heads.{CycleHeads, paths_at}
use Rattle.pop.proofs.Writes.{entry_heads_at, entry_block}
use Prim.Native.Nat.{◌<◌}
use native.Mathlib.Omega.{arith}
use Rattle.pop.proofs.moved.head_paths.Goals as goal

pub paths-requires : goal.paths-requires
paths-requires c = (
  entry_heads_at c.args.p.now.goals c.args.p.now.base c.args.k c.args.rest.now c.entry_heads.result.now
      c.requires.0 c.requires.1
      c.entry_heads.ensures,
  (let it : c.args.p.now.index < c.args.p.now.goals = omega arith in it),
)

pub returns : goal.returns
returns c =
    c.paths.ensures
    ∙ ap (λ (hs : CycleHeads). paths_at hs c.args.p.now.index)
    (entry_block c.args.p.now.goals c.args.p.now.base c.args.k c.args.rest.now c.entry_heads.result.now c.entry_heads.ensures)
