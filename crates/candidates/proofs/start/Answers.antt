use mathlib.Core.List.{List}
use Rattle.definition.specs.declared.usages.HeadUsages.{HeadUsages}
use Rattle.definition.specs.Candidates.{no_candidate_usages}
use Rattle.candidates.proofs.Parts as parts
use Rattle.candidates.proofs.start.Goals as goal

pub returns : goal.returns
returns c = let s = c in parts.merged_written s.args.goals s.args.work.now s.requires.0 s.args.own s.requires.1 c.merged.ensures.start c.merged.ensures.end (λ (us : List HeadUsages). no_candidate_usages s.args.goals) c.clear.new.b c.clear.auto.b c.clear.ensures
