use Rattle.std.proofs.Common.{◌∙◌, ap}
use Rattle.std.proofs.lemmas.Result.{err_from_is_err_and}
use Rattle.std.specs.Prelude.{Err}
use Rattle.definition.specs.Answers.{Response}
use Rattle.query.specs.Replies.{replied}
use Rattle.query.proofs.Evaluations.{refused, ready, evaluated}
use Rattle.query.proofs.query_book.Goals as goal

pub returns-in_err-first_failed : goal.returns-in_err-first_failed
returns-in_err-first_failed c =
    let p = err_from_is_err_and c.from_residual.result c.from_residual.ensures.1 in
    ap (λ (x : Response). replied x c.args.cache.now c.args.work.now) (p.1 ∙ ap Err p.2)
    ∙ refused c.args.book.now c.args.starts.now c.args.h c.requires.0 c.args.cache.now c.args.work.now c.args.goal c.args.depth c.first_failed.result c.first_failed.ensures _ c.in_err-first_failed.was

pub evaluate-o-requires : goal.evaluate-o-requires
evaluate-o-requires c =
    let asked = ready c.args.book.now c.args.starts.now c.args.h c.requires.0 c.args.cache.now c.args.work.now c.args.goal c.args.depth c.first_failed.result c.first_failed.ensures c.in_ok-first_failed.was c.requires.1 in
    record { running = asked.0; goal_lt_goals = asked.1 }

pub returns : goal.returns
returns c =
    evaluated c.args.book.now c.args.starts.now c.args.h c.requires.0 c.args.cache.now c.args.work.now c.args.goal c.args.depth c.first_failed.result c.first_failed.ensures c.in_ok-first_failed.was c.evaluate-o.new.work c.evaluate-o.new.cache c.evaluate-o.new.places c.evaluate-o.result
    c.evaluate-o.ensures c.evaluate-o.auto.cache c.evaluate-o.auto.work _ c.reply.ensures
