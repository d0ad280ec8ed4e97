use mathlib.Core.Path.{◌∙◌, ◌≡◌, ap, refl, subst}
use native.Mathlib.Omega.{arith}
use lib.ListN.{length}
use Prim.Native.Nat.{ℕ, ◌+◌, ◌-◌, ◌≤◌}
use mathlib.Core.Bool.{true}
use Rattle.std.proofs.Common.{not}
use Rattle.book.specs.Codes.{code_of, is_node}
use Rattle.book.proofs.Tests.{held, refused}
use Rattle.tidy.proofs.Places.{Back, lent_length}
use Rattle.tidy.proofs.Reading.{starts_line, starts_nest}
use Rattle.tidy.proofs.Turns.{PartWritten, Turn, TurnTaken, Turned, first_turn, last_length, last_turn, line_length, only_line, part_starts, part_written, turn_taken, turned}
use Rattle.tidy.proofs.part.+write.Goals as goal
use Rattle.tidy.proofs.part.+write.Goals.{Start, Else-not-is_node, At-loop, After-write-s, After-join-j}

-- ---- before the loop
line_there : (t : ℕ) (c : Start t) → 16 ≤ length c.args.out.now
line_there t c = omega (arith, starts_line c.args.nest c.args.part.now c.requires.0, c.requires.1.0)

node : (t : ℕ) (c : Else-not-is_node t) → is_node (code_of c.first-l.result.code) ≡ true
node t c = held (c.is_node.ensures ∙ ap is_node c.from.ensures) (ap not c.if-not-is_node.false)

pub first-l-requires : goal.first-l-requires
first-l-requires t c = starts_line c.args.nest c.args.part.now c.requires.0

pub write-requires : goal.write-requires
write-requires t c = line_there t (goal.at.write-requires t c).Start

pub shape_of-out-then-not-is_node : goal.shape_of-out-then-not-is_node
shape_of-out-then-not-is_node t c =
    ap length c.write.ensures ∙ line_length c.first-l.result c.args.out.now (line_there t (goal.at.shape_of-out-then-not-is_node t c).Start)

pub returns-then-not-is_node : goal.returns-then-not-is_node
returns-then-not-is_node t c =
    only_line c.args.nest c.args.part.now c.first-l.result c.first-l.ensures
    (refused (c.is_node.ensures ∙ ap is_node c.from.ensures) (ap not c.if-not-is_node.true)) c.args.out.now c.write.new.out
    (line_there t (goal.at.returns-then-not-is_node t c).Start) c.write.ensures

pub loop-init : goal.loop-init
loop-init t c =
    let all : c.first-l.result.first ≡ c.first-l.result.first - 0 = omega arith in
    (refl, rw (← all) (first_turn c.args.nest c.args.part.now c.first-l.result c.first-l.ensures (node t (goal.at.loop-init t c).Else-not-is_node) c.args.out.now))

-- ---- a turn
room : (t : ℕ) (c : At-loop t) → length c.args.part.now ≤ length c.loop.out
room t c = omega (arith, c.loop.invariant.0, c.requires.1.0)

begun : (t : ℕ) (c : At-loop t) → Turned c.args.part.now c.loop.out c.loop.read c.loop.wrote
begun t c =
    turned c.args.nest c.args.part.now _ c.loop.out c.loop.read c.loop.wrote c.loop.count (c.first-l.result.first - c.loop.counter) c.requires.0 (room t c)
    c.loop.invariant.1

pub slice_bounds-write-count : goal.slice_bounds-write-count
slice_bounds-write-count t c = (begun t (goal.at.slice_bounds-write-count t c).At-loop).within

pub slice_bounds-write-start : goal.slice_bounds-write-start
slice_bounds-write-start t c = (begun t (goal.at.slice_bounds-write-start t c).At-loop).within

pub slice_bounds-write-count-in-loop : goal.slice_bounds-write-count-in-loop
slice_bounds-write-count-in-loop t c = (begun t (goal.at.slice_bounds-write-count-in-loop t c).At-loop).fits

pub slice_bounds-write-start-in-loop : goal.slice_bounds-write-start-in-loop
slice_bounds-write-start-in-loop t c = (begun t (goal.at.slice_bounds-write-start-in-loop t c).At-loop).fits

pub overflow_sub-nest : goal.overflow_sub-nest
overflow_sub-nest t c = starts_nest c.args.nest c.args.part.now c.requires.0

pub write-s-requires : goal.write-s-requires
write-s-requires t c =
    let l = c.loop in
    let at = (goal.at.write-s-requires t c).At-loop in
    let h = begun t at in
    let part-long = lent_length c.args.part.now l.read h.within in (
      omega (arith, starts_nest c.args.nest c.args.part.now c.requires.0),
      (
        part_starts c.args.nest c.args.part.now _ l.out l.read l.wrote l.count (c.first-l.result.first - l.counter) c.requires.0 (room t at) l.invariant.1 (omega (arith, c.loop-test.true)),
        (omega (arith, part-long, lent_length l.out l.wrote h.fits, room t at, h.less), omega (arith, part-long, c.requires.1.1)),
      ),
    )

-- its part is written
part_done : (t : ℕ) (c : After-write-s t) → PartWritten c.args.part.now c.loop.out c.loop.read c.loop.wrote c.write-s.new.out c.write-s.result
part_done t c =
    part_written c.args.nest c.args.part.now _ c.loop.out c.loop.read c.loop.wrote c.loop.count (c.first-l.result.first - c.loop.counter) c.requires.0
    (omega (arith, c.loop.invariant.0, c.requires.1.0)) c.loop.invariant.1 (omega (arith, c.loop-test.true)) c.requires.1.1 c.write-s.new.out c.write-s.result c.write-s.ensures

pub slice_bounds-join-count : goal.slice_bounds-join-count
slice_bounds-join-count t c = (part_done t (goal.at.slice_bounds-join-count t c).After-write-s).fits

pub slice_bounds-join-start : goal.slice_bounds-join-start
slice_bounds-join-start t c = (part_done t (goal.at.slice_bounds-join-start t c).After-write-s).fits

pub join-j-requires : goal.join-j-requires
join-j-requires t c = let h = part_done t (goal.at.join-j-requires t c).After-write-s in (h.line, h.room)

-- and is joined with those before it
joined : (t : ℕ) (c : After-join-j t) → is_node (code_of c.first-l.result.code) ≡ true
    → TurnTaken c.args.nest c.args.part.now c.first-l.result.code c.loop.out (Back (Back c.loop.out c.loop.wrote c.write-s.new.out) c.loop.wrote c.join-j.new.out)
    (c.loop.read + c.write-s.result.read) (c.loop.wrote + c.join-j.result.bytes) (c.loop.count + c.join-j.result.count) (c.first-l.result.first - c.loop.counter - 1)
joined t c n =
    turn_taken c.args.nest c.args.part.now _ c.loop.out c.loop.read c.loop.wrote c.loop.count (c.first-l.result.first - c.loop.counter) c.requires.0
    (omega (arith, c.loop.invariant.0, c.requires.1.0)) c.loop.invariant.1 (omega (arith, c.loop-test.true)) c.requires.1.1 c.write-s.new.out c.write-s.result c.write-s.ensures
    n c.join-j.new.out c.join-j.result c.join-j.ensures

pub overflow_add-read : goal.overflow_add-read
overflow_add-read t c =
    let at = goal.at.overflow_add-read t c in
    omega (arith, (part_done t at.After-write-s).within, (begun t at.At-loop).within, c.requires.1.1)

pub overflow_add-wrote : goal.overflow_add-wrote
overflow_add-wrote t c = let at = goal.at.overflow_add-wrote t c in omega (arith, (joined t at.After-join-j (node t at.Else-not-is_node)).few_bytes)

pub overflow_add-count : goal.overflow_add-count
overflow_add-count t c = let at = goal.at.overflow_add-count t c in omega (arith, (joined t at.After-join-j (node t at.Else-not-is_node)).few_parts)

pub loop-preserved : goal.loop-preserved
loop-preserved t c =
    let at = goal.at.loop-preserved t c in
    let h = joined t at.After-join-j (node t at.Else-not-is_node) in
    let one_less : c.first-l.result.first - c.loop.counter - 1 ≡ c.first-l.result.first - (c.loop.counter + 1) = omega arith in (
      h.same_length ∙ c.loop.invariant.0,
      subst (Turn c.args.nest c.args.part.now c.first-l.result.code _ (c.loop.read + c.write-s.result.read) (c.loop.wrote + c.join-j.result.bytes) (c.loop.count + c.join-j.result.count)) one_less
          h.turn,
    )

-- ---- after the loop
pub head-n-requires : goal.head-n-requires
head-n-requires t c = let h = begun t (goal.at.head-n-requires t c).At-loop in (h.line, h.fits)

pub shape_of-out : goal.shape_of-out
shape_of-out t c =
    let at = goal.at.shape_of-out t c in
    last_length c.args.nest c.args.part.now _ c.loop.out c.loop.read c.loop.wrote c.loop.count (c.first-l.result.first - c.loop.counter) c.requires.0 (room t at.At-loop) c.loop.invariant.1
    (omega (arith, c.loop-test.false)) (node t at.Else-not-is_node) c.head-n.new.out c.head-n.ensures.1 ∙ c.loop.invariant.0

pub returns : goal.returns
returns t c =
    let at = goal.at.returns t c in
    last_turn c.args.nest c.args.part.now _ c.loop.out c.loop.read c.loop.wrote c.loop.count (c.first-l.result.first - c.loop.counter) c.requires.0 (room t at.At-loop) c.loop.invariant.1
    (omega (arith, c.loop-test.false)) (node t at.Else-not-is_node) c.args.out.now c.head-n.new.out c.loop.invariant.0 c.head-n.result c.head-n.ensures.0 c.head-n.ensures.1
