use Rattle.query.proofs.Checks.{unknown_goal, above_top, cache_length_lem, cache_form, work_length_lem, none_failed}
use Rattle.query.proofs.first_failed.Goals as goal
use Rattle.std.proofs.Common.{ap, not}

pub returns-then-goals-goal : goal.returns-then-goals-goal
returns-then-goals-goal c = unknown_goal c.args.h c.args.cache.now c.args.work.now c.args.goal c.args.depth c.if-goals-goal.true

pub returns-then-top-depth : goal.returns-then-top-depth
returns-then-top-depth c = above_top c.args.h c.args.cache.now c.args.work.now c.args.goal c.args.depth c.if-goals-goal.false c.if-top-depth.true

pub returns-then-cache-cache_length : goal.returns-then-cache-cache_length
returns-then-cache-cache_length c =
    cache_length_lem c.args.h c.args.cache.now c.args.work.now c.args.goal c.args.depth c.if-goals-goal.false c.if-top-depth.false c.cache_length.result c.cache_length.ensures c.if-cache-cache_length.true

pub returns-then-not-cache_fits : goal.returns-then-not-cache_fits
returns-then-not-cache_fits c =
    cache_form c.args.h c.args.cache.now c.args.work.now c.args.goal c.args.depth c.if-goals-goal.false c.if-top-depth.false c.cache_length.result c.cache_length.ensures c.if-cache-cache_length.false c.cache_fits.result c.cache_fits.ensures
    (ap not c.if-not-cache_fits.true)

pub returns-then-work-work_length : goal.returns-then-work-work_length
returns-then-work-work_length c =
    work_length_lem c.args.h c.args.cache.now c.args.work.now c.args.goal c.args.depth c.if-goals-goal.false c.if-top-depth.false c.cache_length.result c.cache_length.ensures c.if-cache-cache_length.false c.cache_fits.result c.cache_fits.ensures
    (ap not c.if-not-cache_fits.false) c.work_length.result c.work_length.ensures.0 c.if-work-work_length.true

pub returns : goal.returns
returns c =
    none_failed c.args.h c.args.cache.now c.args.work.now c.args.goal c.args.depth c.if-goals-goal.false c.if-top-depth.false c.cache_length.result c.cache_length.ensures c.if-cache-cache_length.false c.cache_fits.result c.cache_fits.ensures
    (ap not c.if-not-cache_fits.false) c.work_length.result c.work_length.ensures.0 c.if-work-work_length.false
