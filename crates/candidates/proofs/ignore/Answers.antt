use Rattle.evaluation.specs.Workspace.{WorkBytes}
use Rattle.evaluation.proofs.Lent.{same_bytes}
use Rattle.stack.specs.Tracked.{ignore_own}
use Rattle.candidates.proofs.Parts as parts
use Rattle.candidates.proofs.Loops as loops
use Rattle.candidates.proofs.ignore.Goals as goal

pub returns : goal.returns
returns c =
    let s = c in
    let y = c.ignore_at_heads in
    let z = c.ignore_own in
    let w : WorkBytes s.args.goals y.new.work = same_bytes s.args.goals s.args.work.now s.requires.0 y.new.work y.auto.work in
    loops.ignored s.args.goals s.args.own s.args.work.now y.new.work _ _ c.usages-u.result s.requires.1 w y.ensures (parts.merged_part s.args.goals y.new.work w s.args.own s.requires.1 c.merged.ensures.start c.merged.ensures.end) c.usages-u.ensures
    (parts.frame_written s.args.goals y.new.work w s.args.own s.requires.1 c.frame.ensures.start c.frame.ensures.end (ignore_own c.usages-u.result) z.new.frame z.auto.frame z.ensures)
