use native.Mathlib.Omega.{arith}
use Rattle.tidy.proofs.Replies.{few_written, right_length, wrong_length}
use Rattle.tidy.proofs.write_into.Goals as goal

pub returns-then-out-book : goal.returns-then-out-book
returns-then-out-book c =
    wrong_length c.args.book.now c.args.out.now c.args.goals c.requires c.if-out-book.true

pub overflow_cast-length : goal.overflow_cast-length
overflow_cast-length c =
    record { fits = omega (arith, few_written c.args.book.now c.args.out.now c.write_book-n.new.out c.write_book-n.result c.args.goals c.requires c.write_book-n.ensures) }

pub returns : goal.returns
returns c =
    right_length c.args.book.now c.args.out.now c.write_book-n.new.out c.write_book-n.result c.args.goals c.requires c.write_book-n.ensures c.if-out-book.false
