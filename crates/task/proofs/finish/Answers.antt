use mathlib.Core.Path.{◌∙◌, subst}
use native.Mathlib.Omega.{arith}
use Rattle.std.proofs.lemmas.Result.{err_from_is_err_and}
use Rattle.layout.specs.Work.{stack_of}
use Rattle.stack.proofs.Graph.{frame_bytes_lem}
use Rattle.evaluation.specs.Outcomes.{TaskCountsIn, FewTaskEntries}
use Rattle.task.proofs.Counts.{parent_counts}
use Rattle.task.proofs.Nested.{required_is}
use Rattle.task.proofs.Insertions.{finish_refused, finish_evaluated}
use Rattle.task.proofs.finish.Goals as goal

pub required_depth-required-requires : goal.required_depth-required-requires
required_depth-required-requires c =
    frame_bytes_lem c.args.h.goals c.args.graph.now c.frame_at.result.now c.args.height c.requires.bytes
    c.requires.under c.frame_at.ensures

pub result-requires : goal.result-requires
result-requires c =
    let few = subst (FewTaskEntries c.args.h.goals) c.in_ok-ran.was c.requires.few in
    let under = c.requires.under in
    record {
      stack =
          parent_counts c.args.h.goals c.args.height c.args.step _ _ c.args.graph.now c.update_from_frame.new.graph
          (record {
            bytes = c.requires.bytes;
            high = omega arith;
            counts =
                subst (TaskCountsIn (stack_of c.args.h.goals c.args.height c.args.graph.now)) c.in_ok-ran.was
                c.requires.counts;
          })
          c.update_from_frame.auto.graph c.update_from_frame.ensures;
      cache_bytes = c.requires.cache_bytes;
      under = under;
      known = c.requires.known;
      few = few.0;
      passes = few.1;
    }

pub returns-in_err-ran : goal.returns-in_err-ran
returns-in_err-ran c =
    let a = c.args in
    let p = err_from_is_err_and c.from_residual.result c.from_residual.ensures.1 in
    rw (p.1, p.2) (record {
      is =
          λ root. finish_refused a.h root a.height a.goal a.available a.step a.o a.graph.now a.cache.now _ c.in_err-ran.was;
      few = tt;
    })

pub returns : goal.returns
returns c =
    record {
      is =
          λ root. c.result.ensures.is root
          ∙ finish_evaluated c.args.h root c.args.height c.args.goal c.args.available c.args.step _
          c.args.graph.now c.args.cache.now c.args.o c.in_ok-ran.was c.required_depth-required.result
          c.saturating_sub-reached.result
          (required_is c.args.h.goals c.args.height c.args.graph.now c.frame_at.result.now
          c.required_depth-required.result c.frame_at.ensures c.required_depth-required.ensures.0)
          c.saturating_sub-reached.ensures c.update_from_frame.new.graph c.update_from_frame.ensures;
      few = c.result.ensures.few;
    }
