use borrow.Author.Tests.{not-true, not-false}
use Rattle.delegate.proofs.Picks.{ended_none, ended_refused, ended_ignored}
use Rattle.delegate.proofs.pick.end.Goals as goal

pub returns-then-not-pick : goal.returns-then-not-pick
returns-then-not-pick c =
    ended_none c.args.goals c.args.height c.args.pick c.args.work.now c.requires.entries_bound (not-true c.args.pick.met c.if-not-pick.true)

pub returns-then-not-can_ignore : goal.returns-then-not-can_ignore
returns-then-not-can_ignore c =
    ended_refused c.args.goals c.args.height c.args.pick c.args.work.now c.requires.entries_bound (not-false c.args.pick.met c.if-not-pick.false) c.requires.work_bytes.1.0
    c.can_ignore.result c.can_ignore.ensures c.if-not-can_ignore.true

pub returns : goal.returns
returns c =
    ended_ignored c.args.goals c.args.height c.args.pick c.args.work.now c.requires.entries_bound (not-false c.args.pick.met c.if-not-pick.false) c.requires.work_bytes.1.0
    c.can_ignore.result c.can_ignore.ensures c.if-not-can_ignore.false c.ignore.new.work c.ignore.ensures.stack c.ignore.ensures.entries c.ignore.ensures.merged
