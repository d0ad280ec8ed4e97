use mathlib.Core.Path.{◌≡◌}
use lib.Bits.{bit_or}
use lib.ListN.{take}
use Rattle.std.specs.Prelude.{fold}
use Rattle.definition.specs.declared.paths.PathKind.{PathKind}
use Rattle.definition.specs.Paths.{weaker_flags, flag_of}
use Rattle.definition.specs.Nested.{extend_from_child}
use Rattle.layout.proofs.NestedExtended.{extended_from}
use Rattle.layout.proofs.nested.extend.Given as goal

abbrev pub invariant-loop-i : goal.invariant-loop-i
invariant-loop-i l = ((k : PathKind) → l.weaker ≡ weaker_flags k → l.flag ≡ flag_of k → extended_from l.i l.nested k l.child ≡ extend_from_child l.initial.nested k l.child)
    × (l.all ≡ fold bit_or 0 (take l.i l.child))
