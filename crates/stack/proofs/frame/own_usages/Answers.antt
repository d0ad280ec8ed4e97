use lib.ListN.{get_or}
use Rattle.buffer.specs.Regions.{region}
use Rattle.layout.specs.Blocks.{usages_size, usages_of}
use Rattle.layout.specs.Frame.{usages_start, frame_of}
use Rattle.stack.proofs.Values.{usages_absent, usages_present}
use Rattle.stack.proofs.frame.own_usages.Goals as goal

pub returns-then-frame-eq0 : goal.returns-then-frame-eq0
unfolding frame_of
returns-then-frame-eq0 c = let a = c.args in usages_absent (get_or a.frame.now 6 0) (usages_of (region usages_start usages_size a.frame.now)) c.none.result c.if-frame-eq0.true c.none.ensures

pub returns : goal.returns
unfolding frame_of
returns c = let a = c.args in usages_present (get_or a.frame.now 6 0) (usages_of (region usages_start usages_size a.frame.now)) c.read_usages.result c.if-frame-eq0.false c.read_usages.ensures
