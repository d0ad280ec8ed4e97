use mathlib.Core.Path.{◌∙◌, ap, sym}
use native.Mathlib.Omega.{arith}
use lib.ListN.{length}
use Rattle.tidy.proofs.Places.{lent_length}
use Rattle.tidy.proofs.Turns.{line_length}
use Rattle.tidy.proofs.Goals.{all_kept, all_written, book_few, book_room, few_goals, first_goal, goal_starts, goals_less, goals_within, header_written, next_goals, next_kept, next_less, next_within}
use Rattle.tidy.proofs.write_book.Goals as goal
use Rattle.tidy.proofs.write_book.Goals.{At-loop-g}
use Prim.Native.Nat.{◌≤◌}

pub first-requires : goal.first-requires
first-requires c = book_room c.args.book.now c.args.goals c.requires.0

pub write-requires : goal.write-requires
write-requires c = omega (arith, c.requires.1, book_room c.args.book.now c.args.goals c.requires.0)

pub loop-g-init : goal.loop-g-init
loop-g-init c = (
  ap length c.write.ensures ∙ line_length c.first.result c.args.out.now (omega (arith, c.requires.1, book_room c.args.book.now c.args.goals c.requires.0)) ∙ c.requires.1,
  first_goal c.args.book.now c.args.goals c.requires.0 c.first.result c.first.ensures c.args.out.now c.write.new.out c.write.ensures,
)

-- a turn
begun : (c : At-loop-g) → (c.loop-g.read ≤ length c.args.book.now) × ((c.loop-g.wrote ≤ c.loop-g.read) × (16 ≤ c.loop-g.wrote))
begun c = (
  goals_within c.args.book.now c.args.goals c.requires.0 c.loop-g.out c.loop-g.read c.loop-g.wrote c.loop-g.g c.loop-g.invariant.1,
  (goals_less c.args.book.now c.args.goals c.requires.0 c.loop-g.out c.loop-g.read c.loop-g.wrote c.loop-g.g c.loop-g.invariant.1, header_written c.args.book.now c.args.goals c.requires.0 c.loop-g.out c.loop-g.read c.loop-g.wrote c.loop-g.g c.loop-g.invariant.1),
)

pub slice_bounds-write_goal-count : goal.slice_bounds-write_goal-count
slice_bounds-write_goal-count c =
    let at = (goal.at.slice_bounds-write_goal-count c).At-loop-g in
    (begun at).0

pub slice_bounds-write_goal-start : goal.slice_bounds-write_goal-start
slice_bounds-write_goal-start c =
    let at = (goal.at.slice_bounds-write_goal-start c).At-loop-g in
    (begun at).0

pub slice_bounds-write_goal-count-in-loop-g : goal.slice_bounds-write_goal-count-in-loop-g
slice_bounds-write_goal-count-in-loop-g c =
    let at = (goal.at.slice_bounds-write_goal-count-in-loop-g c).At-loop-g in
    omega (arith, (begun at).0, (begun at).1.0, c.loop-g.invariant.0)

pub slice_bounds-write_goal-start-in-loop-g : goal.slice_bounds-write_goal-start-in-loop-g
slice_bounds-write_goal-start-in-loop-g c =
    let at = (goal.at.slice_bounds-write_goal-start-in-loop-g c).At-loop-g in
    omega (arith, (begun at).0, (begun at).1.0, c.loop-g.invariant.0)

pub overflow_cast-g : goal.overflow_cast-g
overflow_cast-g c =
    record { fits = omega (arith, c.loop-g-test.true, few_goals c.args.book.now c.args.goals c.requires.0) }

pub write_goal-s-requires : goal.write_goal-s-requires
write_goal-s-requires c =
    let at = (goal.at.write_goal-s-requires c).At-loop-g in
    let s = lent_length c.args.book.now c.loop-g.read (begun at).0 in (
      goal_starts c.args.book.now c.args.goals c.requires.0 c.loop-g.out c.loop-g.read c.loop-g.wrote c.loop-g.g c.loop-g.invariant.1 c.loop-g-test.true,
      (
        omega (arith, s, lent_length c.loop-g.out c.loop-g.wrote (omega (arith, (begun at).0, (begun at).1.0, c.loop-g.invariant.0)), (begun at).1.0, c.loop-g.invariant.0),
        omega (arith, s, (begun at).1.1, (begun at).1.0, book_few c.args.book.now c.args.goals c.requires.0),
      ),
    )

pub overflow_add-read : goal.overflow_add-read
overflow_add-read c =
    let at = (goal.at.overflow_add-read c).At-loop-g in
    omega (arith, next_within c.args.book.now c.args.goals c.requires.0 c.loop-g.out c.loop-g.read c.loop-g.wrote c.loop-g.g c.loop-g.invariant.1 c.loop-g-test.true c.loop-g.invariant.0 c.write_goal-s.new.out c.write_goal-s.result c.write_goal-s.ensures, (begun at).0, book_few c.args.book.now c.args.goals c.requires.0)

pub overflow_add-wrote : goal.overflow_add-wrote
overflow_add-wrote c =
    let at = (goal.at.overflow_add-wrote c).At-loop-g in
    omega (arith, next_within c.args.book.now c.args.goals c.requires.0 c.loop-g.out c.loop-g.read c.loop-g.wrote c.loop-g.g c.loop-g.invariant.1 c.loop-g-test.true c.loop-g.invariant.0 c.write_goal-s.new.out c.write_goal-s.result c.write_goal-s.ensures, next_less c.args.book.now c.args.goals c.requires.0 c.loop-g.out c.loop-g.read c.loop-g.wrote c.loop-g.g c.loop-g.invariant.1 c.loop-g-test.true c.loop-g.invariant.0 c.write_goal-s.new.out c.write_goal-s.result c.write_goal-s.ensures, (begun at).0, (begun at).1.0, book_few c.args.book.now c.args.goals c.requires.0)

pub loop-g-preserved : goal.loop-g-preserved
loop-g-preserved c =
    (next_kept c.args.book.now c.args.goals c.requires.0 c.loop-g.out c.loop-g.read c.loop-g.wrote c.loop-g.g c.loop-g.invariant.1 c.loop-g-test.true c.loop-g.invariant.0 c.write_goal-s.new.out c.write_goal-s.result c.write_goal-s.ensures ∙ c.loop-g.invariant.0, next_goals c.args.book.now c.args.goals c.requires.0 c.loop-g.out c.loop-g.read c.loop-g.wrote c.loop-g.g c.loop-g.invariant.1 c.loop-g-test.true c.loop-g.invariant.0 c.write_goal-s.new.out c.write_goal-s.result c.write_goal-s.ensures)

pub slice_bounds-fill_zero-count : goal.slice_bounds-fill_zero-count
slice_bounds-fill_zero-count c =
    let at = (goal.at.slice_bounds-fill_zero-count c).At-loop-g in
    omega (arith, (begun at).0, (begun at).1.0, c.loop-g.invariant.0)

pub slice_bounds-fill_zero-start : goal.slice_bounds-fill_zero-start
slice_bounds-fill_zero-start c =
    let at = (goal.at.slice_bounds-fill_zero-start c).At-loop-g in
    omega (arith, (begun at).0, (begun at).1.0, c.loop-g.invariant.0)

pub shape_of-out : goal.shape_of-out
shape_of-out c =
    all_kept c.args.book.now c.args.goals c.requires.0 c.loop-g.out c.loop-g.read c.loop-g.wrote c.loop-g.g c.loop-g.invariant.1 c.loop-g-test.false c.loop-g.invariant.0 c.args.out.now c.fill_zero.new.s (c.loop-g.invariant.0 ∙ sym c.requires.1) c.fill_zero.ensures ∙ c.loop-g.invariant.0 ∙ sym c.requires.1

pub returns : goal.returns
returns c =
    all_written c.args.book.now c.args.goals c.requires.0 c.loop-g.out c.loop-g.read c.loop-g.wrote c.loop-g.g c.loop-g.invariant.1 c.loop-g-test.false c.loop-g.invariant.0 c.args.out.now c.fill_zero.new.s (c.loop-g.invariant.0 ∙ sym c.requires.1) c.fill_zero.ensures
