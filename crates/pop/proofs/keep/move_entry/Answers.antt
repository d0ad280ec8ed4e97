use Prim.Native.Nat.{ℕ, ◌≤◌, ◌<◌}
use mathlib.Core.Path.{◌≡◌}
use native.Mathlib.Omega.{arith}
use Rattle.pop.proofs.Kept.{move_room, move_apart, moved}
use Rattle.pop.proofs.keep.move_entry.Goals as goal

under : (from to : ℕ) → to ≤ from → (from ≡ to → ⊥) → to < from
under from to le ne = omega (arith, ne)

pub copy_within-requires : goal.copy_within-requires
copy_within-requires c = move_room c.args.goals c.args.base c.args.bytes.now c.requires.0 c.args.from c.args.to c.entry_start_from-source.result c.entry_start_from-target.result (under c.args.from c.args.to c.requires.1.0 c.if-from-to.false) c.requires.1.1 c.entry_start_from-source.ensures.0 c.entry_start_from-target.ensures.0

pub copy-requires : goal.copy-requires
copy-requires c = move_apart c.args.goals c.args.base c.args.bytes.now c.requires.0 c.args.from c.args.to c.entry_start_from-source.result c.entry_start_from-target.result (under c.args.from c.args.to c.requires.1.0 c.if-from-to.false) c.requires.1.1 c.entry_start_from-source.ensures.0 c.entry_start_from-target.ensures.0 c.copy_within.new.s c.copy_within.ensures

pub returns : goal.returns
returns c = moved c.args.goals c.args.base c.args.bytes.now c.requires.0 c.args.from c.args.to c.entry_start_from-source.result c.entry_start_from-target.result (under c.args.from c.args.to c.requires.1.0 c.if-from-to.false) c.requires.1.1 c.entry_start_from-source.ensures.0 c.entry_start_from-target.ensures.0 c.copy_within.new.s c.copy_within.ensures c.copy.new.s c.copy.ensures
