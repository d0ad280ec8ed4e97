use mathlib.Core.Path.{◌∙◌}
use Rattle.candidates.proofs.Parts as parts
use Rattle.candidates.proofs.Loops as loops
use Rattle.candidates.proofs.can_ignore.Goals as goal

pub returns-then-heads_cover : goal.returns-then-heads_cover
returns-then-heads_cover c = let s = c in loops.can_if s.args.goals s.args.own s.args.work.now _ _ s.requires.0 s.requires.1 (parts.top_part s.args.goals s.args.work.now s.requires.0 s.args.own s.requires.1 c.frame.ensures.start c.frame.ensures.end) (parts.merged_part s.args.goals s.args.work.now s.requires.0 s.args.own s.requires.1 c.merged.ensures.start c.merged.ensures.end) c.heads_cover.result c.heads_cover.ensures c.if-heads_cover.true c.usages-u.result c.own_covers.result c.usages-u.ensures c.own_covers.ensures

pub returns-else-heads_cover : goal.returns-else-heads_cover
returns-else-heads_cover c = let s = c in c.if-heads_cover.false ∙ loops.can_not s.args.goals s.args.own s.args.work.now _ _ s.requires.0 s.requires.1 (parts.top_part s.args.goals s.args.work.now s.requires.0 s.args.own s.requires.1 c.frame.ensures.start c.frame.ensures.end) (parts.merged_part s.args.goals s.args.work.now s.requires.0 s.args.own s.requires.1 c.merged.ensures.start c.merged.ensures.end) c.heads_cover.result c.heads_cover.ensures c.if-heads_cover.false
