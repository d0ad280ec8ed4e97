use mathlib.Core.Path.{ap, subst}
use Prim.Native.Nat.{◌-◌}
use lib.ListN.{length}
use Rattle.stack.proofs.Parts.{part}
use Rattle.definition.specs.declared.endings.RebaseReason.{RebaseReason}
use Rattle.std.specs.Prelude.{ℕ, Option, unwrap_or}
use Rattle.pop.specs.Rebased.{RestRebased, reason_of}
use Rattle.pop.proofs.Rounds.{rebased_none, rebased}
use Rattle.pop.proofs.rebase.rebase_provisional_cache_entries.Goals as goal

pub returns-in_default : goal.returns-in_default
returns-in_default c =
    rebased_none c.args.goals c.args.popped c.args.graph.now c.requires.0 c.requires.1.0 c.frame_start-start.result c.entries_start.result
    c.frame_start-start.ensures.0
    c.entries_start.ensures.0 c.entries_start.ensures.1 (reason_of c.args.ending) c.args.entries (unwrap_or c.first_under.result c.args.entries) c.first_under.ensures
    (ap (λ (o : Option ℕ). unwrap_or o c.args.entries) c.in_default.is)

pub returns : goal.returns
returns c =
    rebased c.args.goals c.args.popped c.args.graph.now c.requires.0 c.requires.1.0 c.frame_start-start.result c.entries_start.result
    c.frame_start-start.ensures.0
    c.entries_start.ensures.0 c.entries_start.ensures.1 c.rebase_entries.new.rest c.rebase_entries.auto.rest c.paths_to_popped-paths.result c.lowest_cycle-lowest.result (reason_of c.args.ending)
    c.args.entries c.rebase_entries.result c.paths_to_popped-paths.ensures c.lowest_cycle-lowest.ensures
    (subst
    (λ (y : RebaseReason). RestRebased c.args.goals (c.entries_start.result - c.frame_start-start.result) c.args.popped c.paths_to_popped-paths.result c.lowest_cycle-lowest.result y c.args.entries
    (part c.args.graph.now c.frame_start-start.result (length c.args.graph.now)) c.rebase_entries.new.rest c.rebase_entries.result)
    c.reason_of-reason.ensures c.rebase_entries.ensures)
