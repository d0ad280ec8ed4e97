use Rattle.provisional_cache.proofs.Entries.{entry_at_bytes}
use Rattle.lookup.proofs.Uses.{entry_used}
use Rattle.lookup.proofs.use_entry.Goals as goal

pub encountered_overflow-overflow-requires : goal.encountered_overflow-overflow-requires
encountered_overflow-overflow-requires c =
    entry_at_bytes c.args.goals c.args.graph.now c.entry_at-entry.result.now c.args.i c.requires.0 c.requires.1.1 c.entry_at-entry.ensures

pub result-answer-requires : goal.result-answer-requires
result-answer-requires c =
    entry_at_bytes c.args.goals c.args.graph.now c.entry_at-entry.result.now c.args.i c.requires.0 c.requires.1.1 c.entry_at-entry.ensures

pub returns : goal.returns
returns c =
    entry_used c.args.goals c.args.height c.args.graph.now c.update_from_entry.new.graph c.args.step c.args.available c.update_from_entry.ensures.entries c.args.i c.entry_at-entry.result.now
    c.entry_at-entry.ensures c.encountered_overflow-overflow.result c.encountered_overflow-overflow.ensures c.result-answer.result c.result-answer.ensures c.update_from_entry.ensures.stack
