use mathlib.Core.Path.{ap, ◌∙◌}
use Prim.Native.Nat.{ℕ, ◌+◌, ◌*◌, ◌≤◌}
use mathlib.Core.List.{List}
use native.Mathlib.Omega.{arith}
use lib.ListN.{length}
use lib.ListN.{set}
use Rattle.definition.specs.Usages.{no_usages}
use Rattle.layout.specs.Blocks.{usages_of, candidate_of}
use Rattle.layout.proofs.Blocks.{block_written, flag_set_by}
use Rattle.layout.proofs.Placed.{part_long, part_written}
use borrow.Author.Rules.{rules}
use Rattle.layout.proofs.candidate.put.Goals as goal

pub returns : goal.returns
unfolding candidate_of
returns c =
    let bs : List ℕ = c.args.b.now in
    let ys : List ℕ = c.write_usages.new.b in
    let at = c.place.ensures in
    let room : 8 + c.args.i * 32 + 32 ≤ length bs = omega (arith, c.requires.0.long) in
    let whole = part_long bs c.place.result.start c.place.result.end (8 + c.args.i * 32) 32 at.start at.end ys c.write_usages.auto.b room in
    let written = part_written bs c.place.result.start c.place.result.end (8 + c.args.i * 32) 32 at.start at.end ys whole in (
      block_written usages_of no_usages 32 bs c.args.goals c.args.i ys c.with.result c.requires.0.few c.requires.1 room whole (search rules)
          _ c.write_u64.new.s c.read_u64-m.result written c.read_u64-m.ensures c.with.ensures c.write_u64.ensures
          ∙ ap (set (candidate_of c.args.goals bs) c.args.i) c.write_usages.ensures,
      flag_set_by usages_of no_usages 32 bs c.args.goals c.args.i ys c.with.result c.requires.0.few c.requires.1 room whole (search rules)
          _ c.write_u64.new.s c.read_u64-m.result written c.read_u64-m.ensures c.with.ensures c.write_u64.ensures,
    )
