use mathlib.Core.Path.{◌≡◌, ap, ◌∙◌}
use Prim.Native.Nat.{ℕ}
use mathlib.Core.List.{List}
use native.Mathlib.Omega.{arith}
use lib.ListN.{length, get_or, set}
use lib.Bits.{bit_or}
use Rattle.buffer.specs.Regions.{overwrite}
use Rattle.buffer.proofs.Regions.{overwrite_part, length_region, byte_before}
use Rattle.layout.specs.Blocks.{head_of}
use Rattle.layout.proofs.Counted.{head_joined}
use Rattle.layout.proofs.records.join_head.Goals as goal

pub returns : goal.returns
returns g c =
    let s = c in
    let bs : List ℕ = s.args.b.now in
    let p : ℕ = s.args.paths in
    let ys : List ℕ = c.count.new.b in
    let whole : length ys ≡ 32 = c.count.auto.b ∙ length_region 1 32 bs (omega (arith, s.requires)) in
    ap (λ (l : List ℕ). head_of (set l 0 (bit_or (get_or l 0 0) p))) (overwrite_part bs 1 33 ys whole)
    ∙ head_joined bs ys p (bit_or (get_or (overwrite bs 1 ys) 0 0) p) (g.U.Used.uses s.args.used) s.requires whole c.count.ensures
    (ap (λ (x : ℕ). bit_or x p) (byte_before bs 1 ys (omega (arith, s.requires, whole)) 0 (omega arith)))
