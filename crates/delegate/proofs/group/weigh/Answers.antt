use Rattle.book.specs.declared.code.Op.TheVariants.{All, Any}
use Rattle.delegate.proofs.Groups.{weighed, weighed_refused}
use Rattle.delegate.proofs.group.weigh.Goals as goal

pub returns-in-Err : goal.returns-in-Err
returns-in-Err c = weighed_refused c.args.group c.args.o _ c.in-Err.is

pub returns-in-All : goal.returns-in-All
returns-in-All c =
    weighed c.args.group _ All c.args.o c.in-Ok.is c.unless.result c.in-All.is c.unless.ensures

pub returns-in-Any : goal.returns-in-Any
returns-in-Any c =
    weighed c.args.group _ Any c.args.o c.in-Ok.is c.unless-in-Any.result c.in-Any.is c.unless-in-Any.ensures
