use mathlib.Core.Path.{◌≡◌, ap, ◌∙◌}
use Prim.Native.Nat.{ℕ, ◌+◌, ◌*◌, ◌≤◌}
use mathlib.Core.List.{List}
use native.Mathlib.Omega.{arith}
use lib.ListN.{length}
use Rattle.definition.specs.Usages.{add_usages_from_nested}
use Rattle.layout.proofs.Counted.{usages_added}
use Rattle.layout.specs.Blocks.{usages_of}
use Rattle.layout.proofs.Placed.{part_is, part_long, part_written}
use Rattle.layout.proofs.candidate.add_from_nested.Goals as goal

pub returns : goal.returns
returns g c =
    let long : length c.start.new.b ≡ length c.args.b.now = c.start.auto.b in
    let bs : List ℕ = c.start.new.b in
    let ys : List ℕ = c.count.new.b in
    let at = c.place.ensures in
    let room : 8 + c.args.i * 32 + 32 ≤ length bs = omega (arith, c.requires.0.long) in
    let whole = part_long bs c.place.result.start c.place.result.end (8 + c.args.i * 32) 32 at.start at.end ys c.count.auto.b room in
    let written = part_written bs c.place.result.start c.place.result.end (8 + c.args.i * 32) 32 at.start at.end ys whole in
    usages_added c.args.goals c.args.b.now bs c.args.i ys (g.U.Used.uses c.args.used) c.requires.0.few c.requires.1 room whole c.start.ensures.1 c.start.ensures.0 _ written
    (c.count.ensures ∙ ap (λ (l : List ℕ). add_usages_from_nested (usages_of l) (g.U.Used.uses c.args.used)) (part_is bs c.place.result.start c.place.result.end (8 + c.args.i * 32) 32 at.start at.end))
