use mathlib.Core.Path.{sym, ◌∙◌}
use Rattle.definition.proofs.Equality.{equal_kinds}
use Rattle.layout.specs.Entry.{entry_of}
use Rattle.layout.specs.Work.{stack_of}
use Rattle.provisional_cache.proofs.Tests.{match_other, match_hidden, match_shown}
use Rattle.provisional_cache.proofs.is_match.Goals as goal

pub returns-then-input-goal : goal.returns-then-input-goal
returns-then-input-goal c =
    let a = c.args in
    match_other (stack_of a.goals a.height a.graph.now) a.goal a.step (entry_of a.goals a.entry.now)
    (λ e. c.if-input-goal.true (c.input.ensures.0 ∙ e))

pub returns-then-is_hidden : goal.returns-then-is_hidden
returns-then-is_hidden c =
    let a = c.args in
    match_hidden (stack_of a.goals a.height a.graph.now) a.goal a.step (entry_of a.goals a.entry.now)
    c.highest_head-head.result c.highest_head-head.ensures (sym c.input.ensures.0 ∙ c.if-input-goal.false)
    c.is_hidden.result c.is_hidden.ensures c.if-is_hidden.true

pub returns : goal.returns
returns c =
    let a = c.args in
    match_shown (stack_of a.goals a.height a.graph.now) a.goal a.step (entry_of a.goals a.entry.now)
    c.highest_head-head.result c.highest_head-head.ensures (sym c.input.ensures.0 ∙ c.if-input-goal.false)
    c.is_hidden.result c.is_hidden.ensures c.if-is_hidden.false c.path_from_head-path.result c.cycle_path_kind.result
    c.path_from_head-path.ensures c.cycle_path_kind.ensures c.eq.result (c.eq.ensures ∙ equal_kinds _ _)
