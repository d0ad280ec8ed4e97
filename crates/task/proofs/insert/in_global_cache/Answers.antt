use mathlib.Core.Path.{◌∙◌, ap}
use native.Mathlib.Omega.{arith}
use lib.ListN.{length}
use Rattle.std.proofs.lemmas.Result.{err_from_is_err_and}
use Rattle.stack.proofs.Graph.{frame_bytes_lem}
use Rattle.task.proofs.Nested.{nested_length, required_is}
use Rattle.task.proofs.Insertions.{global_past, global_kept, global_conflict}
use Rattle.task.proofs.insert.in_global_cache.Goals as goal

pub required_depth-required-requires : goal.required_depth-required-requires
required_depth-required-requires c =
    frame_bytes_lem c.args.h.goals c.args.graph.now c.frame_at.result.now c.args.height c.requires.stack.bytes
    c.requires.under c.frame_at.ensures

pub returns-then-top-required : goal.returns-then-top-required
returns-then-top-required c =
    record {
      is =
          λ root. global_past c.args.h root c.args.height c.args.ran.evaluated.entries c.args.goal c.args.ran.evaluated.overflow c.args.ran.evaluated.answer c.args.ran.passes c.args.graph.now c.args.cache.now
          c.required_depth-required.result
          (required_is c.args.h.goals c.args.height c.args.graph.now c.frame_at.result.now c.required_depth-required.result c.frame_at.ensures c.required_depth-required.ensures.0)
          c.if-top-required.true;
      few = tt;
    }

pub insert-requires : goal.insert-requires
insert-requires c = (
  c.requires.cache_bytes,
  c.requires.known,
  omega arith,
  c.requires.passes,
  ap length c.nested_at-nested.ensures
      ∙ nested_length c.args.h.goals c.args.graph.now c.args.height c.requires.stack.bytes c.requires.under,
)

pub returns-in_err-insert : goal.returns-in_err-insert
returns-in_err-insert c =
    let p = err_from_is_err_and c.from_residual.result c.from_residual.ensures.1 in
    rw (p.1, p.2) (record {
      is =
          λ root. global_conflict c.args.h root c.args.height c.args.ran.evaluated.entries c.args.goal
          c.args.ran.evaluated.overflow c.args.ran.evaluated.answer c.args.ran.passes c.args.graph.now c.args.cache.now
          c.required_depth-required.result
          (required_is c.args.h.goals c.args.height c.args.graph.now c.frame_at.result.now c.required_depth-required.result c.frame_at.ensures c.required_depth-required.ensures.0)
          c.if-top-required.false c.nested_at-nested.result.now c.nested_at-nested.ensures c.insert.result
          c.insert.new.cache c.insert.ensures.passes_value c.in_err-insert.field-0.0 c.in_err-insert.was;
      few = tt;
    })

pub returns : goal.returns
returns c =
    record {
      is =
          λ root. global_kept c.args.h root c.args.height c.args.ran.evaluated.entries c.args.goal
          c.args.ran.evaluated.overflow c.args.ran.evaluated.answer c.args.ran.passes c.args.graph.now c.args.cache.now
          c.required_depth-required.result
          (required_is c.args.h.goals c.args.height c.args.graph.now c.frame_at.result.now c.required_depth-required.result c.frame_at.ensures c.required_depth-required.ensures.0)
          c.if-top-required.false c.nested_at-nested.result.now c.nested_at-nested.ensures c.insert.result
          c.insert.new.cache c.insert.ensures.passes_value c.in_ok-insert.was;
      few = c.requires.few;
    }
