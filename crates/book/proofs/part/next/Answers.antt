use Prim.Native.Nat.{◌<◌}
use native.Mathlib.Omega.{arith}
use lib.ListN.{length}
use Rattle.book.proofs.Lines.{shorter}
use Rattle.book.proofs.Skips.{stands_first, stands_next, next_starts, next_ends, next_room, next_line, next_part, next_turn_lem}
use Rattle.book.proofs.part.next.Goals as goal

pub loop-pending-init : goal.loop-pending-init
loop-pending-init c =
    let part = c.args.part.now in (omega arith, (omega arith, (stands_first part, next_starts part)))

pub below-requires : goal.below-requires
below-requires c =
    let l = c.loop-pending in
    let f = c in
    next_part f.args.part.now l.pending l.t.now l.invariant.1.1.1 f.requires c.loop-pending-test.true

pub overflow_add-pending : goal.overflow_add-pending
overflow_add-pending c =
    let l = c.loop-pending in
    let f = c in
    let r = next_room f.args.part.now l.pending l.t.now l.invariant.1.1.1 f.requires in
    omega (arith, r, l.invariant.0, c.below.ensures.1, f.well_formed.0.0)

pub slice_bounds-t-count : goal.slice_bounds-t-count
slice_bounds-t-count c =
    let l = c.loop-pending in
    let f = c in
    next_line f.args.part.now l.pending l.t.now l.invariant.1.1.1 f.requires c.loop-pending-test.true

pub slice_bounds-t-start : goal.slice_bounds-t-start
slice_bounds-t-start c = (let l = c.loop-pending in let f = c in next_line f.args.part.now l.pending l.t.now l.invariant.1.1.1 f.requires c.loop-pending-test.true)

pub loop-pending-smaller : goal.loop-pending-smaller
loop-pending-smaller c =
    let l = c.loop-pending in
    let f = c in
    let test = c.loop-pending-test.true in
    shorter l.t.now (next_line f.args.part.now l.pending l.t.now l.invariant.1.1.1 f.requires test)

pub loop-pending-preserved : goal.loop-pending-preserved
loop-pending-preserved c =
    let l = c.loop-pending in
    let f = c in
    let part = f.args.part.now in
    let test = c.loop-pending-test.true in
    let room = next_line part l.pending l.t.now l.invariant.1.1.1 f.requires test in
    let s = shorter l.t.now room in (
      omega (arith, s, l.invariant.0),
      (
        omega (arith, s, l.invariant.0),
        (
          stands_next part l.t.now l.invariant.1.1.0 l.invariant.0 room,
          next_turn_lem part l.pending l.t.now l.invariant.1.1.1 f.requires test c.below.result
              c.below.ensures.0,
        ),
      ),
    )

pub returns : goal.returns
returns c =
    let l = c.loop-pending in
    let part = c.args.part.now in
    let lt : length l.t.now < length part = omega (arith, l.invariant.1.0, c.loop-pending-test.false) in
    next_ends part l.pending l.t.now l.invariant.1.1.1 c.loop-pending-test.false l.invariant.1.1.0 lt
