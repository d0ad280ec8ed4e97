use Rattle.std.proofs.Common.{ap, not, ◌∙◌}
use Rattle.book.specs.Read.{book_in}
use Rattle.definition.specs.Options.{maybe_of}
use Rattle.guarantee.specs.Engine.{step_line}
use Rattle.guarantee.proofs.Conflicts.{not_within, none_found, one_found}
use Rattle.guarantee.proofs.conflict_with.Goals as goal

pub returns-then-not-is_within : goal.returns-then-not-is_within
returns-then-not-is_within c near =
    not_within c.args.book.now c.requires.accepted (step_line c.args.s) c.group-group.result c.group-group.type_inv
    (c.group-group.ensures (book_in c.args.book.now) c.requires.reached) near
    c.is_within.result c.is_within.ensures (ap not c.if-not-is_within.true)

pub returns-in_err-other : goal.returns-in_err-other
returns-in_err-other c near =
    ap maybe_of c.from_residual.ensures
    ∙ none_found c.args.book.now c.requires.accepted (step_line c.args.s) c.group-group.result c.group-group.type_inv
    (c.group-group.ensures (book_in c.args.book.now) c.requires.reached) near
    c.is_within.result c.is_within.ensures (ap not c.if-not-is_within.false)
    c.first_within.result c.first_within.ensures c.in_err-other.was

pub returns : goal.returns
returns c near =
    one_found c.args.book.now c.requires.accepted (step_line c.args.s) c.group-group.result c.group-group.type_inv
    (c.group-group.ensures (book_in c.args.book.now) c.requires.reached) near
    c.is_within.result c.is_within.ensures (ap not c.if-not-is_within.false)
    c.first_within.result c.first_within.ensures c.in_ok-other.other c.in_ok-other.was
