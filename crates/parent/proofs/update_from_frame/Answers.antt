use mathlib.Core.Path.{ap, ◌∙◌, subst}
use mathlib.Core.List.{List}
use Prim.Native.Nat.{ℕ, ◌+◌, ◌-◌, ◌<◌}
use native.Mathlib.Omega.{arith}
use Rattle.definition.specs.Nested.{NestedGoals}
use Rattle.definition.specs.Parent.{Ordinary, add_heads, add_rest}
use Rattle.stack.specs.Bytes.{GraphBytes, frame_at}
use Rattle.stack.specs.Child.{finish_nested}
use Rattle.stack.specs.Written.{TopWritten}
use Rattle.stack.proofs.Parts.{returned}
use Rattle.stack.proofs.Ranges.{range_written}
use Rattle.parent.specs.Updated.{heads_in, nested_at}
use Rattle.parent.proofs.Nested.{child_kept, joined_rest}
use Rattle.parent.proofs.Update as update
use Rattle.parent.proofs.update_from_frame.Goals as goal

pub returns-then-height-eq0 : goal.returns-then-height-eq0
returns-then-height-eq0 c = let a = c.args in update.update_none a.goals a.height a.graph.now a.step (frame_at a.goals a.height a.graph.now).heads a.overflow (Ordinary (nested_at a.goals a.height a.graph.now)) a.reached c.if-height-eq0.true

pub returns : goal.returns
returns c =
    let s = c in
    let a = s.args in
    let y = c.add_heads in
    let x = c.extend_nested-none in
    let z = c.add_evaluated in
    let own : ℕ = a.height - 1 in
    let pos : 0 < a.height = omega arith in
    let mid : List ℕ = y.new.graph in
    let out : List ℕ = returned x.new.graph c.frame.result.start c.frame.result.end z.new.frame in
    let g : GraphBytes a.goals x.new.graph = record { some = s.requires.0.some; few = s.requires.0.few; long = x.auto.graph ∙ y.auto.graph ∙ s.requires.0.long } in
    let e = child_kept a.goals a.height a.graph.now mid (add_heads a.step own (heads_in a.goals (c.frame_start-start.result + 40) a.graph.now) (frame_at a.goals own a.graph.now)) pos y.ensures in
    update.update_frame a.goals a.height (c.frame_start-start.result + 40) a.graph.now mid out a.step a.overflow (Ordinary (nested_at a.goals a.height a.graph.now)) a.reached pos
    (ap (λ (n : ℕ). n + 40) c.frame_start-start.ensures.0) y.ensures
    (subst (λ (l : NestedGoals). TopWritten a.goals own (add_rest a.step a.overflow (Ordinary l) a.reached (frame_at a.goals own mid)) mid out) e
    (joined_rest a.goals own a.step a.overflow x.result a.reached mid x.new.graph out (nested_at a.goals (own + 1) mid) x.ensures.frame x.ensures.empty
    (range_written g (omega arith) c.frame.ensures.start c.frame.ensures.end (finish_nested a.overflow x.result a.reached) z.new.frame z.auto.frame z.ensures)))
