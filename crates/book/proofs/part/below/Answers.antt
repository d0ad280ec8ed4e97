use Rattle.std.proofs.Common.{sym, ap, ◌∙◌, arith}
use Rattle.book.specs.declared.code.Code.{Code}
use Rattle.book.specs.Lines.{line_in}
use Rattle.book.specs.Codes.{count_below}
use Rattle.book.proofs.Codes.{some_below, none_below}
use Rattle.book.proofs.part.below.Goals as goal

pub returns-then-is_node : goal.returns-then-is_node
returns-then-is_node c =
    let l = line_in c.args.part.now in
    (c.count.ensures.0 ∙ sym (some_below c.code.result l.first (sym c.if-is_node.ensures)) ∙ ap (λ (x : Code). count_below x l.first) c.code.ensures, c.count.ensures.1)

pub returns-else-is_node : goal.returns-else-is_node
returns-else-is_node c =
    let l = line_in c.args.part.now in
    (sym (none_below c.code.result l.first (sym c.if-is_node.ensures)) ∙ ap (λ (x : Code). count_below x l.first) c.code.ensures, omega arith)
