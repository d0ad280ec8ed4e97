use mathlib.Core.Path.{refl, ap, ◌∙◌}
use Rattle.book.specs.Lines.{line_in}
use Rattle.book.specs.Codes.{code_of}
use Rattle.book.proofs.Sizes.{nothing_opens, call_line, group_line, pick_line, undecided_line}
use Rattle.book.proofs.grammar.opened_by.Goals as goal

pub returns-in-Goal : goal.returns-in-Goal
unfolding line_in
returns-in-Goal c =
    λ inner ls.
    let a = c.args in
    let number = c.field_at-number in
    let is = c.from-code.ensures ∙ ap code_of number.ensures in
    nothing_opens a.goals a.in_pick inner (line_in a.s.now) ls _ is _ refl c.in-Goal.is

pub returns-in-Call : goal.returns-in-Call
unfolding line_in
returns-in-Call c =
    λ inner ls.
    let a = c.args in
    let number = c.field_at-number in
    let is = c.from-code.ensures ∙ ap code_of number.ensures in
    let fits = c.call_fits in
    call_line a.goals a.in_pick inner (line_in a.s.now) ls _ is c.then_some.result fits.result c.then_some.ensures
    fits.ensures c.in-Call.is

pub returns-in-Group : goal.returns-in-Group
unfolding line_in
returns-in-Group c =
    λ inner ls.
    let a = c.args in
    let number = c.field_at-number in
    let is = c.from-code.ensures ∙ ap code_of number.ensures in
    let fits = c.uses_first in
    group_line a.goals a.in_pick inner (line_in a.s.now) ls _ is c.then_some-in-Group.result fits.result _
    c.field_at-parts.ensures _ c.then_some-in-Group.ensures fits.ensures c.in-Group.is

pub returns-in-Pick : goal.returns-in-Pick
unfolding line_in
returns-in-Pick c =
    λ inner ls.
    let a = c.args in
    let number = c.field_at-number in
    let is = c.from-code.ensures ∙ ap code_of number.ensures in
    let fits = c.pick_fits in
    pick_line a.goals a.in_pick inner (line_in a.s.now) ls _ is c.then_some-in-Pick.result fits.result _
    c.field_at-parts-in-Pick.ensures c.then_some-in-Pick.ensures fits.ensures c.in-Pick.is

pub returns-in-Undecided : goal.returns-in-Undecided
unfolding line_in
returns-in-Undecided c =
    λ inner ls.
    let a = c.args in
    let number = c.field_at-number in
    let is = c.from-code.ensures ∙ ap code_of number.ensures in
    let fits = c.undecided_fits in
    undecided_line a.goals a.in_pick inner (line_in a.s.now) ls _ is c.then_some-in-Undecided.result fits.result
    c.then_some-in-Undecided.ensures fits.ensures c.in-Undecided.is
