use Rattle.task.proofs.Turns.{over, again}
use Rattle.task.proofs.popped.Goals as goal
use borrow.Enum.Refused.{opened}

pub returns-in-Rerun : goal.returns-in-Rerun
returns-in-Rerun c =
    again c.args.goals c.args.height c.args.entries c.args.ending c.args.overflow c.args.answer c.args.graph.now c.requires.0
    c.requires.1.0
    c.requires.1.1.0 c.pop-kept.new.graph c.pop-kept.result c.pop-kept.ensures
    c.in-Rerun.is
    c.reset_for_rerun.new.graph c.reset_for_rerun.ensures

pub returns-in_default : goal.returns-in_default
returns-in_default c =
    over c.args.goals c.args.height c.args.entries c.args.ending c.args.overflow c.args.answer c.args.graph.now c.requires.0
    c.requires.1.0
    c.requires.1.1.0 c.pop-kept.new.graph c.pop-kept.result c.pop-kept.ensures (opened c.in_default.in_default-own.keys2) c.requires.1.1.1
