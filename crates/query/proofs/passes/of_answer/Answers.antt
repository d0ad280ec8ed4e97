use mathlib.Core.Path.{sym, ◌∙◌}
use Rattle.book.proofs.Books.{is_book}
use Rattle.query.proofs.Counted.{no_book, by_book}
use Rattle.query.proofs.passes.of_answer.Goals as goal

pub of_goal-requires : goal.of_goal-requires
of_goal-requires c =
    (is_book c.args.book.now c.read-read.new.starts c.in-Ok.h
    (sym c.in-Ok.is ∙ c.read-read.ensures.0) c.read-read.ensures.1).in_range

pub returns-in-Err : goal.returns-in-Err
returns-in-Err c =
    no_book c.args.book.now c.args.cache.now c.args.goal c.args.depth c.in-Err.field-0
    (sym c.in-Err.is ∙ c.read-read.ensures.0)

pub returns-in-Ok : goal.returns-in-Ok
returns-in-Ok c =
    by_book c.args.book.now c.args.cache.now c.args.goal c.args.depth c.in-Ok.h
    (sym c.in-Ok.is ∙ c.read-read.ensures.0) c.of_goal.result c.of_goal.ensures
