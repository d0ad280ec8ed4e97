use mathlib.Core.Path.{ap, ◌∙◌}
use native.Mathlib.Omega.{arith}
use Rattle.definition.specs.Usages.{no_usages}
use Rattle.layout.specs.Blocks.{usages_of, candidate_of}
use Rattle.layout.proofs.Blocks.{block_clear}
use Rattle.layout.proofs.candidate.clear.Goals as goal

pub returns : goal.returns
unfolding candidate_of
returns c =
    let s = c in
    ap (candidate_of s.args.goals) c.write_u64.ensures ∙ block_clear usages_of no_usages 32 s.args.b.now s.args.goals (omega arith) s.requires.few
