use Rattle.query.proofs.Evaluations.{answered, stopped}
use Rattle.query.proofs.reply.Goals as goal

pub returns-in-Ok : goal.returns-in-Ok
returns-in-Ok c =
    λ goals root bs.
    answered goals root bs c.args.cache.now c.args.work.now c.args.o c.fill_zero.new.s c.fill_zero.ensures c.in-Ok.done
    c.in-Ok.is

pub returns-in-Err : goal.returns-in-Err
returns-in-Err c =
    λ goals root bs.
    stopped goals root bs c.args.cache.now c.args.work.now c.args.o c.fill_zero.new.s c.fill_zero.ensures c.in-Err.r c.in-Err.is c.fill_zero-in-Err.new.s c.fill_zero-in-Err.ensures
