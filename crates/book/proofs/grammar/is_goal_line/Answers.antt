use mathlib.Core.Path.{ap, ◌∙◌}
use Rattle.book.specs.Lines.{line_in}
use Rattle.book.specs.Codes.{code_of}
use Rattle.book.proofs.Sizes.{no_goal_line, by_goal}
use Rattle.book.proofs.grammar.is_goal_line.Goals as goal

pub returns-in-Goal : goal.returns-in-Goal
unfolding line_in
returns-in-Goal c =
    let a = c.args in
    c.goal_fits.ensures ∙ by_goal (line_in a.s.now) a.goal _ (c.from.ensures ∙ ap code_of c.field_at.ensures) c.in-Goal.is

pub returns-in_default : goal.returns-in_default
unfolding line_in
returns-in_default c =
    let a = c.args in
    no_goal_line (line_in a.s.now) a.goal _ (c.from.ensures ∙ ap code_of c.field_at.ensures) c.in_default.not-Goal
