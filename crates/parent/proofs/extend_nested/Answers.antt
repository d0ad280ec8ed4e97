use mathlib.Core.Path.{ap₂}
use Prim.Native.Nat.{◌+◌}
use native.Mathlib.Omega.{arith}
use Rattle.parent.proofs.Nested.{nested_fits, nested_next, nested_joined}
use Rattle.parent.proofs.extend_nested.Goals as goal

pub extend_within-requires : goal.extend_within-requires
extend_within-requires c =
    let s = c in
    let a = s.args in
    let start = c.frame_start-start.ensures.0 in
    let nested = c.nested_start.ensures in
    let size = c.frame_size.ensures in
    (omega arith, nested_fits a.goals a.graph.now a.own c.frame_start-start.result c.nested_start.result c.frame_size.result s.requires.0 s.requires.1 start nested size)

pub returns : goal.returns
returns c =
    let s = c in
    let a = s.args in
    let start = c.frame_start-start.ensures.0 in
    let nested = c.nested_start.ensures in
    let size = c.frame_size.ensures in
    nested_joined a.goals a.own a.step a.graph.now c.extend_within.new.s c.extend_within.result s.requires.0 (omega (arith, s.requires.1))
    (c.frame_start-start.result + c.nested_start.result) (c.frame_start-start.result + c.nested_start.result + c.frame_size.result)
    (ap₂ ◌+◌ start nested) (nested_next a.goals a.graph.now a.own c.frame_start-start.result c.nested_start.result c.frame_size.result s.requires.0 s.requires.1 start nested size)
    c.extend_within.ensures
