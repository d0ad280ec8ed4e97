use Rattle.std.proofs.lemmas.Result.{err_from_is_err_and}
use Rattle.task.proofs.Insertions.{provisional_kept, provisional_full, provisional_few}
use Rattle.task.proofs.insert.in_provisional_cache.Goals as goal

pub returns-in_err-insert : goal.returns-in_err-insert
returns-in_err-insert c =
    let p = err_from_is_err_and c.from_residual.result c.from_residual.ensures.1 in
    rw (p.1, p.2) (record {
      is =
          λ root cache passes. provisional_full c.args.h root c.args.height c.args.evaluated.entries c.args.goal c.args.evaluated.overflow c.args.evaluated.answer passes c.args.graph.now cache
          c.args.step c.insert.new.graph c.insert.result c.insert.ensures c.in_err-insert.field-0.0 c.in_err-insert.was;
      few = tt;
    })

pub returns : goal.returns
returns c =
    record {
      is =
          λ root cache passes. provisional_kept c.args.h root c.args.height c.args.evaluated.entries c.args.goal c.args.evaluated.overflow c.args.evaluated.answer passes c.args.graph.now cache
          c.args.step c.insert.new.graph c.insert.result c.insert.ensures c.requires.under c.in_ok-insert.was;
      few =
          provisional_few c.args.h.goals c.args.height c.args.evaluated.entries c.args.goal c.args.step c.args.evaluated.overflow c.args.evaluated.answer c.args.graph.now
          c.insert.new.graph c.insert.result c.insert.ensures c.in_ok-insert.was;
    }
