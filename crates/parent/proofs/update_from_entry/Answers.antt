use mathlib.Core.Path.{ap, ◌∙◌}
use Prim.Native.Nat.{ℕ, ◌+◌, ◌-◌, ◌<◌}
use native.Mathlib.Omega.{arith}
use Rattle.definition.specs.Parent.{ProvisionalCacheHit, add_rest}
use Rattle.stack.specs.Bytes.{GraphBytes}
use Rattle.layout.specs.Work.{entry_start}
use Rattle.buffer.specs.Regions.{region}
use Rattle.layout.specs.Entry.{entry_heads_start, entry_size, entry_of}
use Rattle.stack.proofs.Ranges.{range_written}
use Rattle.parent.proofs.Update as update
use Rattle.parent.proofs.update_from_entry.Goals as goal

pub returns-then-height-eq0 : goal.returns-then-height-eq0
returns-then-height-eq0 c = let a = c.args in update.update_none a.goals a.height a.graph.now a.step (entry_of a.goals (region (entry_start a.goals a.i) (entry_size a.goals) a.graph.now)).heads a.overflow ProvisionalCacheHit a.reached c.if-height-eq0.true

pub add_heads-requires : goal.add_heads-requires
add_heads-requires c = let s = c in let a = s.args in let e = ap (λ (x : ℕ). x + entry_heads_start) c.entry_start-start.ensures.0 in let lt : a.height - 1 < a.goals = omega arith in (s.requires.0, (lt, (update.entry_behind a.goals (a.height - 1) a.i (c.entry_start-start.result + entry_heads_start) lt e, update.entry_fits a.goals a.graph.now a.i (c.entry_start-start.result + entry_heads_start) s.requires.0.long s.requires.1.1 e)))

pub returns : goal.returns
returns c =
    let s = c in
    let a = s.args in
    let y = c.add_heads in
    let z = c.add_entry in
    let g : GraphBytes a.goals y.new.graph = record { some = s.requires.0.some; few = s.requires.0.few; long = y.auto.graph ∙ s.requires.0.long } in
    update.update_entry a.goals a.height a.i (c.entry_start-start.result + entry_heads_start) a.graph.now y.new.graph _ a.step a.overflow a.reached (omega arith) (ap (λ (x : ℕ). x + entry_heads_start) c.entry_start-start.ensures.0) y.ensures
    (range_written g (omega arith) c.frame.ensures.start c.frame.ensures.end (add_rest a.step a.overflow ProvisionalCacheHit a.reached) z.new.frame z.auto.frame z.ensures)
