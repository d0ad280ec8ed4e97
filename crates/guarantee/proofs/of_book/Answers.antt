use mathlib.Core.Path.{sym, ◌∙◌}
use Rattle.book.specs.Read.{book_in}
use Rattle.guarantee.proofs.Books.{of_accepted}
use borrow.Author.Rules.{rules}
use Rattle.guarantee.proofs.of_book.Goals as goal

pub first_conflict-requires : goal.first_conflict-requires
first_conflict-requires c =
    record {
      accepted = c.requires.0;
      places = search rules;
      reached = c.masks-reach.ensures (book_in c.args.book.now) c.calls-calls.ensures c.requires.1;
    }

pub returns : goal.returns
returns c =
    c.first_conflict.ensures ∙ sym (of_accepted c.args.book.now c.requires.0)
