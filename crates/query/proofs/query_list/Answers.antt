use Rattle.std.proofs.Common.{refl, ap, ◌∙◌, arith, List, ℕ}
use Rattle.std.proofs.lemmas.List.{set-get_or}
use Rattle.query.specs.Lists.{ask_each, replied_all}
use Rattle.query.proofs.Turns.{few_questions, few_codes, one_more, list_ends}
use Rattle.query.proofs.query_list.Goals as goal

pub loop-code-init : goal.loop-code-init
loop-code-init c = refl

pub returns-in_default : goal.returns-in_default
returns-in_default c =
    let a = c.args in
    let l = c.loop-code in
    let ends = list_ends a.book.now a.cache.now a.work.now a.questions.now a.codes.now _ l.cache l.work c.fill_zero.new.s c.fill_zero.ensures
    (ap (λ (xs : List ℕ). replied_all xs l.cache l.work) (set-get_or l.codes l.code-index 0)
    ∙ few_questions a.book.now l.cache l.work l.left.now l.codes l.code-index (ask_each a.book.now c.fill_zero.new.s a.work.now a.questions.now a.codes.now) c.in_default.len_below l.invariant) in
    record { work_after = ends.0; right = ends.1.0; table = ends.1.1 }

pub loop-code-preserved : goal.loop-code-preserved
loop-code-preserved c =
    let a = c.args in
    let l = c.loop-code in
    one_more a.book.now l.cache l.work l.left.now l.codes l.code-index (ask_each a.book.now c.fill_zero.new.s a.work.now a.questions.now a.codes.now) c.in-len2-up.len_at_least
    (omega (arith, c.loop-code-test.true, l.auto.codes)) l.invariant c.query-r.result c.query-r.new.cache c.query-r.new.work c.query-r.ensures.work_after c.code.result c.code.ensures

pub returns : goal.returns
returns c =
    let a = c.args in
    let l = c.loop-code in
    let ends = list_ends a.book.now a.cache.now a.work.now a.questions.now a.codes.now l.codes l.cache l.work c.fill_zero.new.s c.fill_zero.ensures
    (few_codes a.book.now l.cache l.work l.left.now l.codes l.code-index (ask_each a.book.now c.fill_zero.new.s a.work.now a.questions.now a.codes.now) (omega (arith, c.loop-code-test.false, l.auto.codes)) l.invariant) in
    record { work_after = ends.0; right = ends.1.0; table = ends.1.1 }
