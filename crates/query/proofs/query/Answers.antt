use Rattle.std.proofs.Common.{◌≡◌, ◌∙◌, ap, sym, arith}
use Rattle.std.proofs.lemmas.Result.{err_from_is_err_and}
use Rattle.std.specs.Prelude.{Err}
use Rattle.definition.specs.Answers.{Response}
use Rattle.definition.specs.Query as document
use Rattle.book.proofs.Books.{is_book}
use Rattle.query.specs.Replies.{replied}
use Rattle.query.proofs.Evaluations.{rejected, accepted}
use Rattle.query.proofs.Carries.{right_query}
use Rattle.query.proofs.Table.{query_table}
use Rattle.query.proofs.query.Goals as goal

pub returns-in_err-h : goal.returns-in_err-h
returns-in_err-h c =
    let p = err_from_is_err_and c.from_residual.result c.from_residual.ensures.1 in
    let e : replied c.from_residual.result c.args.cache.now c.args.work.now ≡ document.query c.args.book.now c.args.cache.now c.args.work.now c.args.goal c.args.depth =
    ap (λ (x : Response). replied x c.args.cache.now c.args.work.now) (p.1 ∙ ap Err p.2)
    ∙ rejected c.args.book.now c.args.cache.now c.args.work.now c.args.goal c.args.depth c.read.result c.read.ensures.0 _ c.in_err-h.was in
    let right = right_query c.args.book.now c.args.cache.now c.args.work.now c.args.goal c.args.depth _ e in
    record { work_after = e; right = right; table = query_table c.args.book.now c.args.cache.now c.args.work.now c.args.goal c.args.depth _ e }

pub query_book-requires : goal.query_book-requires
query_book-requires c =
    let is = is_book c.args.book.now c.read.new.starts c.in_ok-h.h (sym c.in_ok-h.was ∙ c.read.ensures.0) c.read.ensures.1 in
    let few = is.in_range.few_goals in
    (is, omega arith)

pub returns : goal.returns
returns c =
    let is = is_book c.args.book.now c.read.new.starts c.in_ok-h.h (sym c.in_ok-h.was ∙ c.read.ensures.0) c.read.ensures.1 in
    let e = accepted c.args.book.now c.args.cache.now c.args.work.now c.args.goal c.args.depth c.read.new.starts c.in_ok-h.h is _ c.query_book.ensures in
    let right = right_query c.args.book.now c.args.cache.now c.args.work.now c.args.goal c.args.depth _ e in
    record { work_after = e; right = right; table = query_table c.args.book.now c.args.cache.now c.args.work.now c.args.goal c.args.depth _ e }
