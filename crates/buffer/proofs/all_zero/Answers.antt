use native.Mathlib.Omega.{arith}
use mathlib.Core.Path.{◌∙◌}
use Prim.Native.Nat.{ℕ}
use lib.Dec.{eqb}
use Rattle.std.proofs.Common.{rules}
use Rattle.std.proofs.lemmas.Iterator.{YieldsList-from_slice}
use Rattle.std.proofs.lemmas.Iterator.Search.{all_from_yields_List}
use Rattle.buffer.proofs.Zeros.{zero_each, join_last, join_more, joined_all}
use Rattle.buffer.proofs.all_zero.Goals as goal

pub returns-then-n-lt8 : goal.returns-then-n-lt8
returns-then-n-lt8 c =
    let s = c.args.s.now in
    all_from_yields_List (λ (b : ℕ). eqb b 0) _ _ _ c.all.ensures.ran (YieldsList-from_slice s cc) (λ x b q k. search rules) ∙ zero_each s

pub loop-i-init : goal.loop-i-init
loop-i-init c =
    let s = c.args.s.now in
    (omega arith, join_last s c.read_u64-all.result c.read_u64-all.ensures)

pub loop-i-preserved : goal.loop-i-preserved
loop-i-preserved c =
    let s = c.args.s.now in
    let w = c.read_u64-all-in-loop-i in
    (omega arith, join_more s c.loop-i.all c.loop-i.i c.loop-i.invariant.1 w.result w.ensures)

pub returns : goal.returns
returns c = joined_all c.args.s.now c.loop-i.all c.loop-i.i c.loop-i.invariant.1 (omega arith)
