use mathlib.Core.Path.{ap, ◌∙◌}
use Prim.Native.Nat.{ℕ}
use mathlib.Core.Option.{none, some}
use native.Mathlib.Omega.{arith}
use Rattle.layout.specs.Blocks.{head_of, heads_of}
use Rattle.layout.proofs.Blocks.{block_remove}
use Rattle.bits.specs.Masks.{flags}
use lib.ListN.{set}
use mathlib.Core.Bool.{false}
use borrow.Author.Rules.{rules}
use Rattle.layout.proofs.heads.remove.Goals as goal

pub returns : goal.returns
unfolding heads_of
returns c =
    let s = c in
    ap (heads_of s.args.goals) c.write_u64.ensures
    ∙ block_remove (λ r. some (head_of r)) none 33 s.args.b.now c.without.result ((search rules)) (omega arith) s.args.goals s.args.i s.requires.1 s.requires.0.few
    (c.without.ensures ∙ ap (λ (m : ℕ). set (flags 64 m) s.args.i false) c.read_u64-m.ensures)
