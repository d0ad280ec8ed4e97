use Prim.Native.Nat.{◌-◌, ◌^◌, ◌<◌}
use Rattle.definition.specs.Graph.{Entry}
use Rattle.provisional_cache.specs.Entries.{EntriesBytes, with_joined_head}
use Rattle.pop.proofs.Writes.{frame_first, rest_bytes, entry_room, entry_range, entry_kept, written}
use Rattle.pop.proofs.Loops.{gaining_start, gaining_small, gaining_next, gaining_done}
use borrow.Author.Rules.{rules}
use Rattle.pop.proofs.moved.gain_heads.Goals as goal

pub loop-i-init : goal.loop-i-init
loop-i-init c =
    rw (c.into_iter-i-iterator.ensures.into_iter_gives, c.places-i-items.ensures)
    (gaining_start c.args.p.now.goals c.args.p.now.base c.args.k c.args.used c.args.eps.bits c.args.rest.now c.popped_mask-mask.result
    (64 - c.args.p.now.goals) (let it : c.popped_mask-mask.result < 2 ^ 64 = search rules in it)
    c.popped_mask-mask.ensures)

pub popped_head-requires : goal.popped_head-requires
popped_head-requires c =
    let step = c.in-Some.ensures.steps in (
      frame_first c.args.p.now.goals c.args.p.now.base c.loop-i.rest
          (rest_bytes c.args.p.now.goals c.args.p.now.base c.args.rest.now c.requires.0 c.loop-i.rest c.loop-i.invariant.same_length),
      gaining_small c.args.p.now.goals c.args.p.now.base c.args.k c.args.used c.args.eps.bits c.args.rest.now c.loop-i.rest c.loop-i.i-iterator.mask
          c.in-Some.i c.loop-i.invariant step.0 step.1.0,
    )

pub slice_bounds-entry-end : goal.slice_bounds-entry-end
slice_bounds-entry-end c = entry_room (rest_bytes c.args.p.now.goals c.args.p.now.base c.args.rest.now c.requires.0 c.loop-i.rest c.loop-i.invariant.same_length).entries c.requires.1 c.entry_from.ensures.start c.entry_from.ensures.end

pub join_head-requires : goal.join_head-requires
join_head-requires c =
    let step = c.in-Some.ensures.steps in (
      entry_range (rest_bytes c.args.p.now.goals c.args.p.now.base c.args.rest.now c.requires.0 c.loop-i.rest c.loop-i.invariant.same_length).entries
          c.requires.1 c.entry_from.ensures.start c.entry_from.ensures.end,
      gaining_small c.args.p.now.goals c.args.p.now.base c.args.k c.args.used c.args.eps.bits c.args.rest.now c.loop-i.rest c.loop-i.i-iterator.mask
          c.in-Some.i c.loop-i.invariant step.0 step.1.0,
    )

pub loop-i-preserved : goal.loop-i-preserved
loop-i-preserved c =
    let step = c.in-Some.ensures.steps in
    let g : EntriesBytes c.args.p.now.goals c.args.p.now.base c.loop-i.rest =
    (rest_bytes c.args.p.now.goals c.args.p.now.base c.args.rest.now c.requires.0 c.loop-i.rest c.loop-i.invariant.same_length).entries in
    gaining_next c.args.p.now.goals c.args.p.now.base c.args.k c.args.used c.args.eps.bits c.args.rest.now c.loop-i.rest c.loop-i.i-iterator.mask
    c.in-Some.i c.loop-i.invariant step.0 step.1.0 c.requires.0.wide c.popped_head.result c.gained-head.result
    c.popped_head.ensures c.gained-head.ensures _
    (written g c.requires.1 c.entry_from.ensures.start c.entry_from.ensures.end
    (λ (e : Entry). with_joined_head e c.in-Some.i c.gained-head.result) c.join_head.new.entry c.join_head.auto.entry c.join_head.ensures)
    (entry_kept g c.requires.1 c.entry_from.ensures.start c.entry_from.ensures.end c.join_head.new.entry c.join_head.auto.entry)
    c.next.new.self.mask step.1.1.0 step.1.1.1

pub returns : goal.returns
returns c =
    gaining_done c.args.p.now.goals c.args.p.now.base c.args.k c.args.used c.args.eps.bits c.args.rest.now c.loop-i.rest c.loop-i.i-iterator.mask c.loop-i.invariant
    c.in-None.ensures.steps.0
