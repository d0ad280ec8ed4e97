use Rattle.layout.specs.Frame.{frame_of}
use native.Mathlib.Omega.{arith}
use Rattle.stack.proofs.frame.reached.Goals as goal

pub returns : goal.returns
unfolding frame_of
returns c = (c.from.ensures, omega arith)
