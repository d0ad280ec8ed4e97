use mathlib.Core.Path.{ap, ◌∙◌}
use Prim.Native.Nat.{ℕ, ◌+◌, ◌*◌, ◌≤◌}
use mathlib.Core.List.{List}
use native.Mathlib.Omega.{arith}
use lib.ListN.{length}
use lib.ListN.{set}
use mathlib.Core.Option.{none, some}
use Rattle.definition.specs.declared.heads.CycleHead.{CycleHead}
use Rattle.layout.specs.Blocks.{head_of, heads_of}
use Rattle.layout.proofs.Blocks.{block_written}
use Rattle.layout.proofs.Placed.{part_long, part_written}
use borrow.Author.Rules.{rules}
use Rattle.layout.proofs.heads.put.Goals as goal

pub returns : goal.returns
unfolding heads_of
returns c =
    let bs : List ℕ = c.args.b.now in
    let ys : List ℕ = c.write_head.new.b in
    let at = c.place.ensures in
    let room : 8 + c.args.i * 33 + 33 ≤ length bs = omega (arith, c.requires.0.long) in
    let whole = part_long bs c.place.result.start c.place.result.end (8 + c.args.i * 33) 33 at.start at.end ys c.write_head.auto.b room in
    let written = part_written bs c.place.result.start c.place.result.end (8 + c.args.i * 33) 33 at.start at.end ys whole in
    block_written (λ r. some (head_of r)) none 33 bs c.args.goals c.args.i ys c.with.result c.requires.0.few c.requires.1 room whole (search rules)
    _ c.write_u64.new.s c.read_u64-m.result written c.read_u64-m.ensures c.with.ensures c.write_u64.ensures
    ∙ ap (λ (x : CycleHead). set (heads_of c.args.goals bs) c.args.i (some x)) c.write_head.ensures
