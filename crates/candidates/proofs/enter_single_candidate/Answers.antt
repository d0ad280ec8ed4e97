use mathlib.Core.Option.{some}
use Rattle.definition.specs.Candidates.{no_candidate_usages}
use Rattle.candidates.proofs.Parts as parts
use Rattle.candidates.proofs.enter_single_candidate.Goals as goal

pub returns : goal.returns
returns c = let s = c in parts.tracked_written (some (no_candidate_usages s.args.goals)) s.requires.0 s.requires.1 c.frame.ensures.start c.frame.ensures.end c.enter.new.frame c.enter.auto.frame c.enter.ensures
