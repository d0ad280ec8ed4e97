use mathlib.Core.Path.{refl, ◌∙◌}
use Rattle.definition.specs.declared.answers.Answer.TheVariants as answer
use Rattle.lookup.proofs.Hits.{known_pushes, depth_allowed, depth_overflow}
use Rattle.lookup.proofs.lookup.Goals as goal

pub lookup_at_depth-requires : goal.lookup_at_depth-requires
lookup_at_depth-requires c =
    record {
      asked_at = record {
        graph = c.requires.asked.graph;
        cache = c.requires.asked.cache;
        goal = c.requires.asked.goal;
        available = c.allowed_depth_for_nested-depth.ensures.small c.in-Some.available c.in-Some.is;
      };
      placed = c.requires.placed;
    }

pub returns-in-Some : goal.returns-in-Some
returns-in-Some c =
    record {
      is =
          λ compute. depth_allowed c.args.h c.args.root c.args.height c.args.entries c.args.goal c.args.step c.args.lower c.args.graph.now
          c.args.cache.now c.allowed_depth_for_nested-depth.result (c.allowed_depth_for_nested-depth.ensures.is c.args.h refl) compute c.in-Some.available
          c.in-Some.is
          ∙ c.lookup_at_depth.ensures.is c.args.root compute;
      low = c.lookup_at_depth.ensures.low;
      missed = c.lookup_at_depth.ensures.missed;
      off = c.lookup_at_depth.ensures.off;
    }

pub returns : goal.returns
returns c =
    record {
      is =
          λ compute. depth_overflow c.args.h c.args.root c.args.height c.args.entries c.args.goal c.args.step c.args.lower c.args.graph.now
          c.args.cache.now c.allowed_depth_for_nested-depth.result (c.allowed_depth_for_nested-depth.ensures.is c.args.h refl) compute
          c.in_default.is c.mark_top_overflow.new.graph c.mark_top_overflow.ensures.stack c.mark_top_overflow.ensures.entries;
      low = λ d e. known_pushes answer.Overflow d e;
      missed = λ d e. known_pushes answer.Overflow d e;
      off = λ d e. known_pushes answer.Overflow d e;
    }
