use mathlib.Core.Path.{refl, ◌∙◌}
use Prim.Native.Nat.{◌+◌, ◌≤◌, ◌<◌}
use native.Mathlib.Omega.{arith}
use lib.ListN.{length, length-set}
use Rattle.book.proofs.Sizes.{further}
use Rattle.book.proofs.Bodies.{body_starts, body_bad, line_room, body_good, body_ends}
use Rattle.book.proofs.read_body.Goals as goal
use Rattle.book.proofs.read_body.Goals.{In-Some}

-- the goal's line and its part lie within the book, and its place in `starts` too
room : (c : In-Some) → c.loop-g.at + 16 ≤ length c.args.book.now
room c =
    let a = c.args in
    let l = c.loop-g in
    line_room a.goals a.book.now l.starts l.at l.g l.invariant.0 c.loop-g-test.true c.goal_size.result c.goal_size.ensures.0 c.in-Some.n c.in-Some.is c.in-Some.ensures.1

beyond : (c : In-Some) → c.loop-g.at + c.in-Some.n ≤ length c.args.book.now
beyond c = further c.loop-g.at c.args.book.now c.in-Some.n c.loop-g.invariant.0.within c.in-Some.ensures.1

slot : (c : In-Some) → c.loop-g.g < length c.loop-g.starts
slot c = omega (arith, c.loop-g.invariant.1, c.requires.1.1, c.loop-g-test.true)

pub loop-g-init : goal.loop-g-init
loop-g-init c = let a = c.args in (body_starts a.goals a.book.now a.starts.now c.requires.0, refl)

pub slice_bounds-goal_size-count : goal.slice_bounds-goal_size-count
slice_bounds-goal_size-count c = c.loop-g.invariant.0.within

pub slice_bounds-goal_size-start : goal.slice_bounds-goal_size-start
slice_bounds-goal_size-start c = c.loop-g.invariant.0.within

pub returns-in_default : goal.returns-in_default
returns-in_default c = let a = c.args in
    let l = c.loop-g in
    body_bad a.goals a.book.now l.starts l.at l.g l.invariant.0 c.loop-g-test.true c.goal_size.result c.goal_size.ensures.0 l.starts c.in_default.is

pub overflow_add-starts : goal.overflow_add-starts
overflow_add-starts c = omega (arith, room c, c.requires.1.0)

pub overflow_cast-starts : goal.overflow_cast-starts
overflow_cast-starts c = omega (arith, room c, c.requires.1.0)

pub offset_bounds-starts-g : goal.offset_bounds-starts-g
offset_bounds-starts-g c = omega (arith, slot c, c.well_formed.1.0)

pub bounds-starts-g : goal.bounds-starts-g
bounds-starts-g c = slot c

pub overflow_add-at : goal.overflow_add-at
overflow_add-at c = omega (arith, beyond c, c.requires.1.0)

pub loop-g-preserved : goal.loop-g-preserved
loop-g-preserved c = let a = c.args in
    let l = c.loop-g in
    (body_good a.goals a.book.now l.starts l.at l.g l.invariant.0 c.loop-g-test.true c.goal_size.result c.goal_size.ensures.0 c.in-Some.n c.in-Some.is c.in-Some.ensures.1 (slot c), length-set l.starts l.g _ ∙ l.invariant.1)

pub overflow_sub-result : goal.overflow_sub-result
overflow_sub-result c = c.loop-g.invariant.0.within

pub shape_of-starts : goal.shape_of-starts
shape_of-starts c = c.loop-g.invariant.1

pub returns : goal.returns
returns c = let a = c.args in
    let l = c.loop-g in
    body_ends a.goals a.book.now l.starts l.at l.g l.invariant.0 c.loop-g-test.false
