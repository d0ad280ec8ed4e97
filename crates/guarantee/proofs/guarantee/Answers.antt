use mathlib.Core.Path.{sym, ap, ◌∙◌}
use Rattle.definition.specs.declared.format.Header.{Header}
use Rattle.book.proofs.Books.{is_book}
use Rattle.guarantee.proofs.Books.{of_rejected}
use Rattle.guarantee.proofs.guarantee.Goals as goal

pub of_book-requires : goal.of_book-requires
of_book-requires c =
    let is = is_book c.args.book.now c.read-read.new.starts c.in-Ok.h
    (sym c.in-Ok.is ∙ c.read-read.ensures.0) c.read-read.ensures.1 in
    (is.accepted, ap (λ (h : Header). h.goals) is.header)

pub returns-in-Err : goal.returns-in-Err
returns-in-Err c =
    of_rejected c.args.book.now c.read-read.result c.in-Err.r c.in-Err.is
    c.read-read.ensures.0
