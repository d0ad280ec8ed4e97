use mathlib.Core.Path.{ap, ◌∙◌}
use Prim.Native.Nat.{ℕ, ◌-◌}
use native.Mathlib.Omega.{arith}
use lib.ListN.{get_or}
use Rattle.definition.specs.Lookup.{any_on_stack}
use Rattle.layout.specs.Work.{stack_of}
use Rattle.stack.proofs.Loops.{read_at, any_here, any_next, any_none}
use Rattle.stack.proofs.Graph.{frame_bytes_lem}
use Rattle.stack.proofs.any_on_stack.Goals as goal

pub input-requires : goal.input-requires
input-requires c = let l = c in let s = c in (frame_bytes_lem s.args.goals s.args.graph.now c.frame_at-f.result.now (l.loop-i.i - 1) s.requires.0 (omega arith) c.frame_at-f.ensures)

pub returns-then-get-ne0 : goal.returns-then-get-ne0
returns-then-get-ne0 c = let l = c in let s = c in
    any_here s.args.goals s.args.graph.now s.args.nested.now l.loop-i.i (any_on_stack (stack_of s.args.goals s.args.height s.args.graph.now) s.args.nested.now) l.loop-i.invariant c.loop-i-test.true
    c.get.result (c.get.ensures ∙ ap (λ (k : ℕ). get_or s.args.nested.now k 0) (c.input.ensures.0 ∙ (read_at {A = ℕ} (λ f. f.input) s.args.goals s.args.graph.now (l.loop-i.i - 1) c.frame_at-f.result.now c.frame_at-f.ensures))) c.if-get-ne0.true

pub loop-i-preserved : goal.loop-i-preserved
loop-i-preserved c = let l = c in let s = c in
    any_next s.args.goals s.args.graph.now s.args.nested.now l.loop-i.i (any_on_stack (stack_of s.args.goals s.args.height s.args.graph.now) s.args.nested.now) l.loop-i.invariant c.loop-i-test.true
    c.get.result (c.get.ensures ∙ ap (λ (k : ℕ). get_or s.args.nested.now k 0) (c.input.ensures.0 ∙ (read_at {A = ℕ} (λ f. f.input) s.args.goals s.args.graph.now (l.loop-i.i - 1) c.frame_at-f.result.now c.frame_at-f.ensures))) c.if-get-ne0.false

pub returns : goal.returns
returns c = let l = c in let s = c in any_none s.args.goals s.args.graph.now s.args.nested.now l.loop-i.i (any_on_stack (stack_of s.args.goals s.args.height s.args.graph.now) s.args.nested.now) l.loop-i.invariant c.loop-i-test.false
