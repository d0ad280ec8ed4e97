use Prim.Native.Nat.{ℕ, ◌^◌, ◌≤◌, ◌<◌}
use native.Mathlib.Omega.{arith}
use Rattle.layout.specs.Blocks.{candidate_of}
use Rattle.layout.specs.Frame.{frame_of}
use Rattle.candidates.proofs.Loops as loops
use borrow.Author.Rules.{rules}
use Rattle.candidates.proofs.heads_cover.Goals as goal

within : (i own goals : ℕ) → i < own → own ≤ goals → i < goals
within i own goals h l = omega arith

pub loop-i-init : goal.loop-i-init
loop-i-init c =
    let s = c in
    rw (c.into_iter-i-iterator.ensures.into_iter_gives, c.places-i-items.ensures)
    (loops.cover_start s.args.own (frame_of s.args.goals s.args.f.now).heads (candidate_of s.args.goals s.args.b.now) s.args.goals c.mask.result c.below-below.result s.requires.1.1 s.requires.0.few c.mask.ensures (let it : c.below-below.result < 2 ^ 64 = search rules in it) c.below-below.ensures)

pub usages-u-requires : goal.usages-u-requires
usages-u-requires c = let s = c in let l = c.loop-i in let step = c.in-Some.ensures.steps in (s.requires.1.0, within c.in-Some.i s.args.own s.args.goals (loops.turn_below l.i-iterator.mask c.in-Some.i step.0 l.invariant.small step.1.0 s.args.own l.invariant.below) s.requires.1.1)

pub head_covers-requires : goal.head_covers-requires
head_covers-requires c = let s = c in let l = c.loop-i in let step = c.in-Some.ensures.steps in (s.requires.0, within c.in-Some.i s.args.own s.args.goals (loops.turn_below l.i-iterator.mask c.in-Some.i step.0 l.invariant.small step.1.0 s.args.own l.invariant.below) s.requires.1.1)

pub returns-then-not-head_covers : goal.returns-then-not-head_covers
returns-then-not-head_covers c = let s = c in let l = c.loop-i in let step = c.in-Some.ensures.steps in loops.cover_stops s.args.own (frame_of s.args.goals s.args.f.now).heads (candidate_of s.args.goals s.args.b.now) l.i-iterator.mask l.invariant c.in-Some.i step.0 step.1.0 c.usages-u.result c.usages-u.ensures c.head_covers.result c.head_covers.ensures c.if-not-head_covers.true

pub loop-i-preserved : goal.loop-i-preserved
loop-i-preserved c = let s = c in let l = c.loop-i in let step = c.in-Some.ensures.steps in loops.cover_next s.args.own (frame_of s.args.goals s.args.f.now).heads (candidate_of s.args.goals s.args.b.now) l.i-iterator.mask l.invariant c.in-Some.i step.0 step.1.0 c.usages-u.result c.usages-u.ensures c.head_covers.result c.head_covers.ensures c.if-not-head_covers.false c.next.new.self.mask step.1.1.0 step.1.1.1

pub returns : goal.returns
returns c = let s = c in let l = c.loop-i in loops.cover_done s.args.own (frame_of s.args.goals s.args.f.now).heads (candidate_of s.args.goals s.args.b.now) l.i-iterator.mask l.invariant c.in-None.ensures.steps.0
