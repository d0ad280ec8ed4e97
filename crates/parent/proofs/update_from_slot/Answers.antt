use native.Mathlib.Omega.{arith}
use Rattle.definition.specs.Parent.{Ordinary, add_rest}
use Rattle.definition.specs.Heads.{no_heads}
use Rattle.stack.proofs.Ranges.{range_written}
use Rattle.parent.proofs.Update as update
use Rattle.parent.proofs.update_from_slot.Goals as goal

pub returns-then-height-eq0 : goal.returns-then-height-eq0
returns-then-height-eq0 c = let a = c.args in update.update_none a.goals a.height a.graph.now a.step (no_heads a.goals) a.overflow (Ordinary a.nested.now) a.reached c.if-height-eq0.true

pub returns : goal.returns
returns c =
    let s = c in
    let a = s.args in
    let y = c.add_ordinary in
    update.update_slot a.goals a.height a.graph.now _ a.step a.overflow (Ordinary a.nested.now) a.reached (omega arith)
    (range_written s.requires.0 (omega arith) c.frame.ensures.start c.frame.ensures.end (add_rest a.step a.overflow (Ordinary a.nested.now) a.reached) y.new.frame y.auto.frame y.ensures)
