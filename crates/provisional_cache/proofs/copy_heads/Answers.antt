use mathlib.Core.Path.{ap, subst}
use Prim.Native.Nat.{ℕ, ◌+◌}
use Rattle.layout.specs.Copied.{HeadsCopied}
use Rattle.layout.specs.Entry.{entry_heads_start}
use Rattle.layout.specs.Work.{entry_start}
use Rattle.provisional_cache.proofs.Copies.{copy_apart}
use Rattle.provisional_cache.proofs.copy_heads.Goals as goal

pub copy-requires : goal.copy-requires
copy-requires c = let s = c in copy_apart s.args.goals s.args.height s.args.i (c.frame_start-a.result + 40) (c.entry_start-b.result + entry_heads_start) s.args.graph.now s.requires.0 s.requires.1.0 s.requires.1.1 (ap (λ (x : ℕ). x + 40) c.frame_start-a.ensures.0) (ap (λ (x : ℕ). x + entry_heads_start) c.entry_start-b.ensures.0)

pub returns : goal.returns
returns c =
    let s = c in
    subst (λ (a : ℕ). HeadsCopied s.args.goals a (entry_start s.args.goals s.args.i + entry_heads_start) s.args.graph.now c.copy.new.s) (ap (λ (x : ℕ). x + 40) c.frame_start-a.ensures.0)
    (subst (λ (b : ℕ). HeadsCopied s.args.goals (c.frame_start-a.result + 40) b s.args.graph.now c.copy.new.s) (ap (λ (x : ℕ). x + entry_heads_start) c.entry_start-b.ensures.0) c.copy.ensures)
