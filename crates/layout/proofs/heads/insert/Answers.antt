use mathlib.Core.Path.{sym, ap, ◌∙◌}
use Prim.Native.Nat.{ℕ, ◌+◌, ◌*◌, ◌≤◌}
use mathlib.Core.List.{List}
use native.Mathlib.Omega.{arith}
use lib.ListN.{length, set}
use Rattle.definition.specs.declared.usages.HeadUsages.{HeadUsages}
use Rattle.layout.specs.Blocks.{heads_of}
use mathlib.Core.Option.{some}
use Rattle.definition.specs.Heads.{join_head}
use Rattle.layout.specs.Blocks.{head_of}
use Rattle.layout.proofs.Placed.{part_is, part_long, part_written}
use Rattle.layout.proofs.Present.{insert_unknown, head_inserted}
use Rattle.layout.proofs.heads.insert.Goals as goal

pub returns-then-has : goal.returns-then-has
returns-then-has g c =
    let bs : List ℕ = c.args.b.now in
    let ys : List ℕ = c.join_head.new.b in
    let at = c.place.ensures in
    let room : 8 + c.args.i * 33 + 33 ≤ length bs = omega (arith, c.requires.0.long) in
    let whole = part_long bs c.place.result.start c.place.result.end (8 + c.args.i * 33) 33 at.start at.end ys c.join_head.auto.b room in
    let written = part_written bs c.place.result.start c.place.result.end (8 + c.args.i * 33) 33 at.start at.end ys whole in
    head_inserted c.args.goals bs c.args.i c.requires.1 ys c.args.paths (g.U.Used.uses c.args.used) c.requires.0.few room whole (sym c.has.ensures ∙ c.if-has.true) _ written
    (c.join_head.ensures ∙ ap (λ (l : List ℕ). join_head (some (head_of l)) c.args.paths (g.U.Used.uses c.args.used)) (part_is bs c.place.result.start c.place.result.end (8 + c.args.i * 33) 33 at.start at.end))

pub returns : goal.returns
returns g c =
    c.put.ensures
    ∙ ap (λ (u : HeadUsages). set (heads_of c.args.goals c.args.b.now) c.args.i (some (record { paths = c.args.paths; usages = u }))) c.usages-usages.ensures
    ∙ insert_unknown c.args.goals c.args.b.now c.args.i c.requires.1 c.args.paths (g.U.Used.uses c.args.used) (sym c.has.ensures ∙ c.if-has.false)
