use mathlib.Core.Path.{◌≡◌, sym, ap, ◌∙◌}
use Prim.Native.Nat.{ℕ, ◌+◌, ◌-◌, ◌≤◌}
use mathlib.Core.List.{List, ◌++◌}
use native.Mathlib.Omega.{arith}
use lib.ListN.{length, take, drop}
use Rattle.buffer.specs.Regions.{region}
use Rattle.buffer.proofs.Regions.{overwrite_part, length_region}
use Rattle.layout.specs.Blocks.{head_of}
use Rattle.layout.proofs.Copied.{record_copied}
use Rattle.layout.proofs.heads.copy_record.Goals as goal

pub returns : goal.returns
returns c =
    let s = c in
    let bs : List ℕ = s.args.s.now in
    let from : ℕ = s.args.from in
    let to : ℕ = s.args.to in
    let ys : List ℕ = c.write_head.new.b in
    let room : to + 33 ≤ length bs = s.requires.1 in
    let e : to + 33 - to ≡ 33 = omega arith in
    let f : from + 33 - from ≡ 33 = omega arith in
    let whole : length ys ≡ 33 = c.write_head.auto.b ∙ ap (λ (n : ℕ). length (region to n bs)) e ∙ length_region to 33 bs room in
    record_copied bs from to ys whole room
    (take to bs ++ (ys ++ drop (to + 33 - to) (drop to bs))) (overwrite_part bs to (to + 33) ys (whole ∙ sym e))
    (c.write_head.ensures ∙ c.read_head-head.ensures ∙ ap (λ (n : ℕ). head_of (region from n bs)) f)
