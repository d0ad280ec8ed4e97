use mathlib.Core.Path.{ap, ◌∙◌}
use Prim.Native.Nat.{ℕ}
use mathlib.Core.List.{List}
use Rattle.definition.specs.Heads.{highest_index}
use Rattle.layout.specs.Blocks.{heads_of}
use Rattle.layout.specs.Entry.{entry_of}
use Rattle.provisional_cache.proofs.Entries.{entry_heads_block}
use Rattle.provisional_cache.proofs.entry.highest_head.Goals as goal

pub highest-requires : goal.highest-requires
highest-requires c =
    let s = c in
    let heads = c.heads in
    entry_heads_block s.args.goals s.args.entry.now heads.result.now s.requires heads.ensures

pub returns : goal.returns
unfolding entry_of
returns c =
    let s = c in
    c.highest.ensures ∙ ap (λ (l : List ℕ). highest_index (heads_of s.args.goals l)) c.heads.ensures
