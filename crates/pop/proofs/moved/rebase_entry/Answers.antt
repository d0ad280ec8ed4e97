use mathlib.Core.Path.{ap, ◌∙◌}
use mathlib.Core.List.{List}
use Prim.Native.Nat.{ℕ}
use Rattle.definition.specs.Heads.{highest_index}
use Rattle.layout.specs.Entry.{entry_of}
use Rattle.layout.specs.Work.{entry_from}
use Rattle.provisional_cache.proofs.Entries.{entry_bytes_lem}
use Rattle.pop.specs.Popped.{popped_frame}
use Rattle.pop.specs.Rebased.{kept_entry}
use Rattle.pop.proofs.Writes.{others_then, frame_after}
use Rattle.pop.proofs.Entries.{entry_dropped, entry_under}
use Rattle.pop.proofs.moved.rebase_entry.Goals as goal
use Rattle.std.proofs.Common.{ap, not}

pub highest_head-requires : goal.highest_head-requires
highest_head-requires c =
    entry_bytes_lem c.args.p.now.goals c.args.p.now.base c.args.rest.now c.entry_from-entry.result.now c.args.k
    c.requires.0.entries c.requires.1 c.entry_from-entry.ensures

pub returns-then-not-rebase_heads : goal.returns-then-not-rebase_heads
returns-then-not-rebase_heads c =
    record {
      entry = λ s m.
          entry_dropped s (popped_frame c.args.p.now.goals c.args.rest.now) c.args.p.now.reason
          (entry_from c.args.p.now.goals c.args.p.now.base c.args.k c.args.rest.now) c.args.p.now.index m.height
          c.highest_head.result
          (c.highest_head.ensures
          ∙ ap (λ (l : List ℕ). highest_index (entry_of c.args.p.now.goals l).heads) c.entry_from-entry.ensures)
          c.if-highest_head-p.false c.rebase_heads.result (entry_from c.args.p.now.goals c.args.p.now.base c.args.k c.rebase_heads.new.rest) (c.rebase_heads.ensures.entry s m)
          (ap not c.if-not-rebase_heads.true);
      others = c.rebase_heads.ensures.others;
    }

pub returns : goal.returns
returns c =
    let s = c in
    let a = s.args in
    let is-p =
    frame_after a.p.now.goals a.p.now.base a.rest.now c.rebase_heads.new.rest s.requires.0.wide c.rebase_heads.ensures.others.below in
    record {
      entry = λ s m.
          entry_under s (popped_frame a.p.now.goals a.rest.now) a.p.now.reason
          (entry_from a.p.now.goals a.p.now.base a.k a.rest.now) a.p.now.index m.height
          c.highest_head.result
          (c.highest_head.ensures
          ∙ ap (λ (l : List ℕ). highest_index (entry_of a.p.now.goals l).heads) c.entry_from-entry.ensures)
          c.if-highest_head-p.false c.rebase_heads.result (entry_from a.p.now.goals a.p.now.base a.k c.rebase_heads.new.rest) (c.rebase_heads.ensures.entry s m)
          (ap not c.if-not-rebase_heads.false)
          (kept_entry c.rebase_path.result (entry_from a.p.now.goals a.p.now.base a.k c.rebase_path.new.rest))
          (popped_frame a.p.now.goals c.rebase_heads.new.rest) is-p
          (c.rebase_path.ensures.entry s (rw is-p m.from));
      others =
          others_then a.p.now.goals a.p.now.base a.k a.rest.now c.rebase_heads.new.rest c.rebase_path.new.rest c.rebase_heads.ensures.others
          c.rebase_path.ensures.others;
    }
