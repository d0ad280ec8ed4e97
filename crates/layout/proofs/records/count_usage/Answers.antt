use mathlib.Core.Path.{◌≡◌, ap, ◌∙◌}
use Prim.Native.Nat.{ℕ, ◌*◌}
use mathlib.Core.List.{List}
use Rattle.buffer.specs.Numbers.{number_of, bytes_of}
use Rattle.buffer.specs.Regions.{region, overwrite}
use Rattle.definition.specs.Paths.{kind_number}
use Rattle.definition.specs.Usages.{add_counter}
use Rattle.layout.specs.Blocks.{usages_of}
use Rattle.layout.proofs.Counted.{counter_written}
use borrow.Author.Rules.{rules}
use Rattle.layout.proofs.records.count_usage.Goals as goal

pub returns : goal.returns
returns c =
    let s = c in
    let bs : List ℕ = s.args.b.now in
    let k = s.args.kind in
    let n : ℕ = c.count_one.result in
    let at : 8 * c.from-at.result ≡ 8 * kind_number k = ap (λ (x : ℕ). 8 * x) (c.from-at.ensures ∙ c.from.ensures) in
    ap usages_of (c.write_u64.ensures ∙ ap (λ (x : ℕ). overwrite bs x (bytes_of 8 n)) at)
    ∙ counter_written bs s.requires n ((search rules)) k
    (c.count_one.ensures ∙ ap (λ (x : ℕ). add_counter x 1) (c.read_u64-before.ensures ∙ ap (λ (x : ℕ). number_of (region x 8 bs)) at))
