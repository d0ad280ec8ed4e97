use Rattle.stack.proofs.Fields.{start_frame}
use borrow.Author.Rules.{rules}
use Rattle.stack.proofs.frame.start.Goals as goal

pub returns : goal.returns
returns c =
    let s = c in
    start_frame s.args.goals s.args.goal s.args.available s.args.step s.args.frame.now
    c.start_fields.new.b c.clear.new.b c.fill_zero.new.s c.candidate_start-c.result
    c.nested_start-start.result s.requires.0.long c.candidate_start-c.ensures c.nested_start-start.ensures
    c.start_fields.ensures c.clear.auto.b c.clear.ensures c.fill_zero.auto.s
    c.fill_zero.ensures c.write_u64.new.s c.counts_start.result s.args.steps
    c.counts_start.ensures (search rules) c.write_u64.ensures
