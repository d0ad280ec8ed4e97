use Rattle.pop.proofs.Endings.{popped_under, popped_stack, pop_nothing, pop_rebased, pop_cleared}
use Rattle.pop.proofs.pop.Goals as goal
use borrow.Enum.Refused.{opened}

pub returns-in-Nothing : goal.returns-in-Nothing
returns-in-Nothing c =
    pop_nothing c.args.goals c.args.height c.args.graph.now c.requires.0 c.requires.1.0 c.args.ending c.in-Nothing.is
    c.args.entries

pub returns-in-Rerun : goal.returns-in-Rerun
returns-in-Rerun c =
    pop_cleared c.args.goals c.args.height c.args.graph.now c.requires.0 c.requires.1.0 c.args.ending
    c.in-Rerun.is c.args.entries c.clear_for_rerun.result c.clear_for_rerun.new.graph c.clear_for_rerun.ensures

pub rebase_provisional_cache_entries-requires : goal.rebase_provisional_cache_entries-requires
rebase_provisional_cache_entries-requires c = (
  popped_stack c.args.goals c.args.height c.args.graph.now c.requires.0 c.requires.1.0,
  (popped_under c.args.goals c.args.height c.args.graph.now c.requires.0 c.requires.1.0, c.requires.1.1),
)

pub returns-in_default : goal.returns-in_default
returns-in_default c =
    pop_rebased c.args.goals c.args.height c.args.graph.now c.requires.0 c.requires.1.0 c.args.ending (opened c.in_default.in_default-own.keys3)
    c.args.entries c.rebase_provisional_cache_entries.result c.rebase_provisional_cache_entries.new.graph c.rebase_provisional_cache_entries.ensures
