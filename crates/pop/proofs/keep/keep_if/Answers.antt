use Rattle.pop.proofs.Kept.{keep_moved}
use Rattle.pop.proofs.keep.keep_if.Goals as goal

pub returns : goal.returns
returns c =
    keep_moved c.args.goals c.args.base c.args.bytes.now c.requires.0 c.args.i c.args.kept c.args.keep c.move_entry.new.bytes
    c.if-not-keep.false c.requires.1.0 c.move_entry.ensures
