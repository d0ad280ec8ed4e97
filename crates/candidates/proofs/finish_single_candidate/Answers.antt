use mathlib.Core.Option.{none}
use Rattle.candidates.proofs.Parts as parts
use Rattle.candidates.proofs.finish_single_candidate.Goals as goal

pub returns : goal.returns
returns c = let s = c in parts.tracked_written none s.requires.0 s.requires.1 c.frame.ensures.start c.frame.ensures.end c.finish.new.frame c.finish.auto.frame c.finish.ensures
