use Rattle.layout.specs.Entry.{entry_of}
use Rattle.layout.specs.Work.{stack_of}
use Rattle.provisional_cache.proofs.Tests.{applies_absent, applies_overflow, applies_path}
use Rattle.provisional_cache.proofs.applies.Goals as goal
use Rattle.provisional_cache.proofs.applies.Goals.{then-paths-eq0-via-then-paths-eq0, then-paths-eq0-via-else-paths-eq0+then-encountered_overflow}

pub returns-then-paths-eq0 : goal.returns-then-paths-eq0
returns-then-paths-eq0 c =
    let a = c.args in
    let s = stack_of a.goals a.height a.graph.now in
    let e = entry_of a.goals a.entry.now in
    elim c.then-paths-eq0.branch [
      | then-paths-eq0-via-then-paths-eq0 w ↦
          applies_absent s a.step a.nested.now e c.input.result c.get-paths.result c.input.ensures.0 c.get-paths.ensures w.if-paths-eq0.true
      | then-paths-eq0-via-else-paths-eq0+then-encountered_overflow w ↦
          applies_overflow s a.step a.nested.now e c.input.result c.get-paths.result c.input.ensures.0 c.get-paths.ensures
          w.if-paths-eq0.false w.encountered_overflow.result w.encountered_overflow.ensures w.if-encountered_overflow.true
    ]

pub returns : goal.returns
returns c =
    let a = c.args in
    applies_path (stack_of a.goals a.height a.graph.now) a.step a.nested.now (entry_of a.goals a.entry.now)
    c.input.result c.get-paths.result c.input.ensures.0 c.get-paths.ensures c.if-paths-eq0.false
    c.encountered_overflow.result c.encountered_overflow.ensures c.if-encountered_overflow.false
    c.highest_head-head.result c.highest_head-head.ensures c.cycle_path_kind-here.result c.path_from_head.result
    c.cycle_path_kind-here.ensures c.path_from_head.ensures c.extend_with-full.result.bits c.extend_with-full.ensures
    c.contains.result c.contains.ensures
