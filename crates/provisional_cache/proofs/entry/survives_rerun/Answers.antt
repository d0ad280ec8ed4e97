use mathlib.Core.Path.{ap}
use Prim.Native.Nat.{ℕ}
use mathlib.Core.List.{List}
use Rattle.layout.specs.Blocks.{heads_of}
use Rattle.layout.specs.Entry.{entry_of}
use Rattle.provisional_cache.proofs.Entries.{entry_heads_block}
use Rattle.provisional_cache.proofs.Tests.{survives_other, survives_unused}
use Rattle.provisional_cache.proofs.entry.survives_rerun.Goals as goal

pub returns-then-highest_head-rerun : goal.returns-then-highest_head-rerun
returns-then-highest_head-rerun c =
    let s = c in
    let highest-head = c.highest_head in
    survives_other (entry_of s.args.goals s.args.entry.now) s.args.rerun highest-head.result highest-head.ensures
    c.if-highest_head-rerun.true

pub usages-usages-requires : goal.usages-usages-requires
usages-usages-requires c =
    let s = c in
    let heads = c.heads in
    (entry_heads_block s.args.goals s.args.entry.now heads.result.now s.requires.0 heads.ensures, s.requires.1)

pub returns : goal.returns
unfolding entry_of
returns c =
    let s = c in
    let highest-head = c.highest_head in
    let if1 = c.if-highest_head-rerun in
    let heads = c.heads in
    let usages = c.usages-usages in
    let is-empty = c.is_empty in
    survives_unused (entry_of s.args.goals s.args.entry.now) s.args.rerun highest-head.result highest-head.ensures
    if1.false (heads_of s.args.goals heads.result.now) (ap (λ (l : List ℕ). heads_of s.args.goals l) heads.ensures)
    usages.result usages.ensures is-empty.result is-empty.ensures
