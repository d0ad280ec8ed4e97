use lib.ListN.{get_or}
use Rattle.layout.specs.Frame.{frame_of}
use Rattle.stack.proofs.Values.{result_absent, result_present}
use Rattle.stack.proofs.frame.provisional_result.Goals as goal

pub returns-then-n-eq0 : goal.returns-then-n-eq0
unfolding frame_of
returns-then-n-eq0 c = result_absent (get_or c.args.frame.now 4 0) c.if-n-eq0.true

pub returns : goal.returns
unfolding frame_of
returns c = result_present (get_or c.args.frame.now 4 0) c.from.result c.if-n-eq0.false c.from.ensures
