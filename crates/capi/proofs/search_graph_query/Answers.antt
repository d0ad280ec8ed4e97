use mathlib.Core.Path.{sym, subst}
use Rattle.definition.specs.Query.{query}
use Rattle.query.specs.Table.{CodeOfTable}
use Rattle.capi.proofs.Coding.{coded, rightly_coded}
use Rattle.query.proofs.Table.{code_table}
use Rattle.capi.proofs.search_graph_query.Goals as goal

pub returns : goal.returns
returns c =
    record {
      coded = coded c.query.result c.code.result c.query.new.cache c.query.new.work (query c.args.book.now c.args.cache.now c.args.work.now c.args.goal c.args.depth) c.query.ensures.work_after c.code.ensures;
      right = λ k. rightly_coded c.args.book.now c.args.goal c.query.result c.code.result c.query.new.cache c.query.new.work (c.query.ensures.right k) c.code.ensures;
      table = subst CodeOfTable (sym c.code.ensures) (code_table c.query.result c.query.ensures.table);
    }
