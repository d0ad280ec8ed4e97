use mathlib.Core.Path.{◌∙◌, ◌≡◌, ap}
use native.Mathlib.Omega.{arith}
use lib.ListN.{length}
use Rattle.tidy.specs.Write.{line_with}
use Rattle.tidy.proofs.Places.{lent_length}
use Rattle.tidy.proofs.Goals.{goal_less, goal_within, goal_written, starts_part, starts_room}
use Rattle.tidy.proofs.Turns.{line_length}
use Rattle.tidy.proofs.write_goal.Goals as goal

pub write_with-requires : goal.write_with-requires
write_with-requires c = omega (arith, starts_room c.args.goal c.args.body.now c.requires.0, c.requires.1.0)

pub slice_bounds-write-count : goal.slice_bounds-write-count
slice_bounds-write-count c = starts_room c.args.goal c.args.body.now c.requires.0

pub slice_bounds-write-start : goal.slice_bounds-write-start
slice_bounds-write-start c = starts_room c.args.goal c.args.body.now c.requires.0

pub slice_bounds-write-count-2 : goal.slice_bounds-write-count-2
slice_bounds-write-count-2 c =
    let h = starts_room c.args.goal c.args.body.now c.requires.0 in
    let l : length c.write_with.new.out ≡ length c.args.out.now = ap length c.write_with.ensures ∙ line_length (line_with 1 c.args.goal) c.args.out.now (omega (arith, h, c.requires.1.0)) in
    omega (arith, l, h, c.requires.1.0)

pub slice_bounds-write-start-2 : goal.slice_bounds-write-start-2
slice_bounds-write-start-2 c =
    let h = starts_room c.args.goal c.args.body.now c.requires.0 in
    let l : length c.write_with.new.out ≡ length c.args.out.now = ap length c.write_with.ensures ∙ line_length (line_with 1 c.args.goal) c.args.out.now (omega (arith, h, c.requires.1.0)) in
    omega (arith, l, h, c.requires.1.0)

pub write-s-requires : goal.write-s-requires
write-s-requires c =
    let h = starts_room c.args.goal c.args.body.now c.requires.0 in
    let l : length c.write_with.new.out ≡ length c.args.out.now = ap length c.write_with.ensures ∙ line_length (line_with 1 c.args.goal) c.args.out.now (omega (arith, h, c.requires.1.0)) in (
      starts_part c.args.goal c.args.body.now c.requires.0,
      (
        omega (arith, l, h, c.requires.1.0, lent_length c.args.body.now 16 h, lent_length c.write_with.new.out 16 (omega (arith, l, h, c.requires.1.0))),
        omega (arith, c.requires.1.1, lent_length c.args.body.now 16 h),
      ),
    )

pub overflow_add-read : goal.overflow_add-read
overflow_add-read c =
    omega (arith, goal_within c.args.goal c.args.body.now c.args.out.now c.requires.1.0 c.write_with.new.out c.write_with.ensures c.write-s.new.out c.write-s.result c.write-s.ensures c.requires.0.goals c.requires.0.taken c.requires.0.reads, c.requires.1.1)

pub overflow_add-wrote : goal.overflow_add-wrote
overflow_add-wrote c =
    omega (arith, goal_within c.args.goal c.args.body.now c.args.out.now c.requires.1.0 c.write_with.new.out c.write_with.ensures c.write-s.new.out c.write-s.result c.write-s.ensures c.requires.0.goals c.requires.0.taken c.requires.0.reads, goal_less c.args.goal c.args.body.now c.args.out.now c.requires.1.0 c.write_with.new.out c.write_with.ensures c.write-s.new.out c.write-s.result c.write-s.ensures c.requires.0.goals c.requires.0.taken c.requires.0.reads, c.requires.1.1)

pub returns : goal.returns
returns c =
    goal_written c.args.goal c.args.body.now c.args.out.now c.requires.1.0 c.write_with.new.out c.write_with.ensures c.write-s.new.out c.write-s.result c.write-s.ensures
