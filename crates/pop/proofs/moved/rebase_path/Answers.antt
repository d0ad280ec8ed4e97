use Prim.Native.Nat.{◌<◌}
use native.Mathlib.Omega.{arith}
use lib.ListN.{get_or}
use Rattle.definition.specs.declared.paths.PathKind.{PathKind}
use Rattle.definition.specs.declared.paths.PathKind.TheVariants.{Inductive}
use Rattle.definition.specs.Graph.{Entry}
use Rattle.provisional_cache.specs.Entries.{with_longer_path}
use Rattle.layout.specs.Blocks.{heads_of}
use Rattle.layout.specs.Work.{entry_from}
use Rattle.layout.proofs.Frames.{length_heads}
use Rattle.pop.specs.Popped.{popped_frame}
use Rattle.pop.proofs.Writes.{entry_heads_at, entry_block, others_same, entry_room, written}
use Rattle.pop.proofs.Entries.{highest_small, path_none, path_some}
use Rattle.pop.proofs.moved.rebase_path.Goals as goal

pub is_empty-requires : goal.is_empty-requires
is_empty-requires c =
    entry_heads_at c.args.p.now.goals c.args.p.now.base c.args.k c.args.rest.now c.entry_heads-hs.result.now
    c.requires.0.entries c.requires.1
    c.entry_heads-hs.ensures

pub returns-then-is_empty : goal.returns-then-is_empty
returns-then-is_empty c =
    record {
      entry = λ s are.
          path_none s (popped_frame c.args.p.now.goals c.args.rest.now) (entry_from c.args.p.now.goals c.args.p.now.base c.args.k c.args.rest.now)
          (heads_of c.args.p.now.goals c.entry_heads-hs.result.now)
          (entry_block c.args.p.now.goals c.args.p.now.base c.args.k c.args.rest.now c.entry_heads-hs.result.now c.entry_heads-hs.ensures)
          c.is_empty.result
          c.is_empty.ensures c.if-is_empty.true;
      others = others_same c.args.p.now.goals c.args.p.now.base c.args.k c.args.rest.now;
    }

pub highest-head-requires : goal.highest-head-requires
highest-head-requires c =
    entry_heads_at c.args.p.now.goals c.args.p.now.base c.args.k c.args.rest.now c.entry_heads-hs.result.now
    c.requires.0.entries c.requires.1
    c.entry_heads-hs.ensures

pub bounds-p-head : goal.bounds-p-head
bounds-p-head c = let lt = (let it : c.highest-head.result < 64 = let lt = highest_small (heads_of c.args.p.now.goals c.entry_heads-hs.result.now) (omega (arith, length_heads c.args.p.now.goals c.entry_heads-hs.result.now)) in omega (arith, c.highest-head.ensures) in it) in omega arith

pub slice_bounds-entry-end : goal.slice_bounds-entry-end
slice_bounds-entry-end c = entry_room c.requires.0.entries c.requires.1 c.entry_from.ensures.start c.entry_from.ensures.end

pub returns : goal.returns
returns c =
    let highest = c.highest-head in
    let small : c.highest-head.result < 64 = let lt = highest_small (heads_of c.args.p.now.goals c.entry_heads-hs.result.now) (omega (arith, length_heads c.args.p.now.goals c.entry_heads-hs.result.now)) in omega (arith, c.highest-head.ensures) in
    let path : PathKind = get_or c.args.p.now.paths c.highest-head.result Inductive in
    let w = written c.requires.0.entries c.requires.1 c.entry_from.ensures.start c.entry_from.ensures.end (λ (e : Entry). with_longer_path e path) c.extend_path.new.entry c.extend_path.auto.entry c.extend_path.ensures in
    record {
      entry = λ s are.
          path_some s (popped_frame c.args.p.now.goals c.args.rest.now) (entry_from c.args.p.now.goals c.args.p.now.base c.args.k c.args.rest.now)
          (heads_of c.args.p.now.goals c.entry_heads-hs.result.now)
          (entry_block c.args.p.now.goals c.args.p.now.base c.args.k c.args.rest.now c.entry_heads-hs.result.now c.entry_heads-hs.ensures)
          c.is_empty.result
          c.is_empty.ensures c.if-is_empty.false highest.result highest.ensures path (are highest.result small) _ w.entry;
      others = w.others;
    }
