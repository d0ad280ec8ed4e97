use mathlib.Core.Path.{◌≡◌, ap, ◌∙◌}
use mathlib.Core.List.{List}
use Prim.Native.Nat.{ℕ}
use native.Mathlib.Omega.{arith}
use lib.ListN.{length, set}
use Rattle.buffer.specs.Regions.{region}
use Rattle.buffer.proofs.Regions.{overwrite_part, length_region}
use Rattle.layout.specs.Blocks.{head_of}
use Rattle.layout.proofs.Written.{head_back}
use Rattle.layout.proofs.records.write_head.Goals as goal

pub returns : goal.returns
returns c =
    let s = c in
    let ys : List ℕ = c.write_usages.new.b in
    let part : length (region 1 32 s.args.b.now) ≡ 32 = length_region 1 32 s.args.b.now (omega (arith, s.requires)) in
    let whole : length ys ≡ 32 = c.write_usages.auto.b ∙ part in
    ap (λ (l : List ℕ). head_of (set l 0 s.args.head.paths)) (overwrite_part s.args.b.now 1 33 ys whole) ∙ head_back s.args.b.now ys s.args.head s.requires whole c.write_usages.ensures
