use mathlib.Core.Path.{ap, ◌∙◌}
use mathlib.Core.List.{List}
use Prim.Native.Nat.{ℕ}
use native.Mathlib.Omega.{arith}
use Rattle.definition.specs.Heads.{highest_index}
use Rattle.layout.specs.Entry.{entry_of}
use Rattle.provisional_cache.proofs.Entries.{entry_bytes_lem}
use Rattle.pop.proofs.Rounds.{stay_start, stay_next}
use Rattle.pop.proofs.rebase.first_under.Goals as goal

pub loop-k-init : goal.loop-k-init
loop-k-init c = stay_start c.args.goals c.args.base c.args.popped c.args.entries c.args.bytes.now

pub highest_head-requires : goal.highest_head-requires
highest_head-requires c =
    entry_bytes_lem c.args.goals c.args.base c.args.bytes.now c.entry_from-entry.result.now
    c.loop-k.k c.requires.0 (omega arith)
    c.entry_from-entry.ensures

pub loop-k-preserved : goal.loop-k-preserved
loop-k-preserved c =
    stay_next c.args.goals c.args.base c.args.popped c.args.entries c.args.bytes.now c.loop-k.k c.loop-k.invariant
    c.loop-k-test.true c.highest_head.result
    (c.highest_head.ensures ∙ ap (λ (b : List ℕ). highest_index (entry_of c.args.goals b).heads) c.entry_from-entry.ensures)
    c.if-highest_head-popped.false
