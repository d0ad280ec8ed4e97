use Rattle.capi.proofs.Tidying.{promised, tidied}
use Rattle.capi.proofs.search_graph_tidy.Goals as goal

pub returns : goal.returns
returns c =
    record {
      tidied = tidied c.tidy.result c.code.result c.tidy.new.out c.tidy.ensures.out_after c.code.ensures;
      promises = promised _ _ c.tidy.new.out c.tidy.result c.code.result c.code.ensures c.tidy.ensures.promises;
    }
