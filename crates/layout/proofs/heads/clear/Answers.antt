use mathlib.Core.Path.{ap, ◌∙◌}
use mathlib.Core.Option.{none, some}
use native.Mathlib.Omega.{arith}
use Rattle.layout.specs.Blocks.{head_of, heads_of}
use Rattle.layout.proofs.Blocks.{block_clear}
use Rattle.layout.proofs.heads.clear.Goals as goal

pub returns : goal.returns
unfolding heads_of
returns c =
    let s = c in
    ap (heads_of s.args.goals) c.write_u64.ensures ∙ block_clear (λ r. some (head_of r)) none 33 s.args.b.now s.args.goals (omega arith) s.requires.few
