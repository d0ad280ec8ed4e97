use borrow.Author.Rules.{rules}
use Rattle.delegate.proofs.Groups.{started_all, started_any}
use Rattle.delegate.proofs.group.start.Goals as goal

pub enum_told-1 : goal.enum_told-1
enum_told-1 c = search rules

pub returns-in-All : goal.returns-in-All
returns-in-All c =
    started_all c.args.op c.args.entries c.in-All.is

pub returns-in-Any : goal.returns-in-Any
returns-in-Any c =
    started_any c.args.op c.args.entries c.in-Any.is
