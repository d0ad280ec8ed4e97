use Rattle.evaluation.specs.Outcomes.{outcome_of}
use Rattle.task.proofs.Insertions.{result_global, result_provisional, result_alone}
use Rattle.task.proofs.insert.result.Goals as goal

pub returns-then-is_headless : goal.returns-then-is_headless
returns-then-is_headless c =
    record {
      is =
          λ root. result_global c.args.h root c.args.height c.args.ran.evaluated.entries c.args.goal c.args.ran.evaluated.overflow c.args.ran.evaluated.answer c.args.ran.passes c.args.graph.now c.args.cache.now
          c.args.step c.is_headless.result c.is_headless.ensures c.if-is_headless.true
          (outcome_of c.args.h.goals root c.args.height c.args.graph.now c.in_global_cache.new.cache c.in_global_cache.result) (c.in_global_cache.ensures.is root);
      few = c.in_global_cache.ensures.few;
    }

pub returns-then-h : goal.returns-then-h
returns-then-h c =
    record {
      is =
          λ root. result_provisional c.args.h root c.args.height c.args.ran.evaluated.entries c.args.goal c.args.ran.evaluated.overflow c.args.ran.evaluated.answer c.args.ran.passes c.args.graph.now
          c.args.cache.now c.args.step c.is_headless.result c.is_headless.ensures c.if-is_headless.false c.if-h.true
          (outcome_of c.args.h.goals root c.args.height c.in_provisional_cache.new.graph c.args.cache.now c.in_provisional_cache.result) (c.in_provisional_cache.ensures.is root c.args.cache.now c.args.ran.passes);
      few = c.in_provisional_cache.ensures.few;
    }

pub returns : goal.returns
returns c =
    record {
      is =
          λ root. result_alone c.args.h root c.args.height c.args.ran.evaluated.entries c.args.goal c.args.ran.evaluated.overflow c.args.ran.evaluated.answer c.args.ran.passes c.args.graph.now c.args.cache.now
          c.args.step c.is_headless.result c.is_headless.ensures c.if-is_headless.false c.if-h.false;
      few = c.requires.few;
    }
