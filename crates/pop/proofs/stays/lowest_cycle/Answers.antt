use mathlib.Core.Path.{◌≡◌, ap, ◌∙◌}
use Prim.Native.Nat.{ℕ, ◌-◌, ◌^◌, ◌<◌, min, max}
use native.Mathlib.Omega.{arith}
use lib.ListN.{get_or}
use Rattle.definition.specs.declared.paths.PathKind.{PathKind}
use Rattle.definition.specs.declared.paths.PathKind.TheVariants.{Inductive}
use Rattle.definition.specs.Paths.{kind_number, iter_paths}
use Rattle.pop.specs.Popped.{popped_frame, PathsFrom, lowest_of}
use Rattle.layout.proofs.Marks.{turn_small}
use Rattle.pop.proofs.Writes.{popped_length}
use Rattle.pop.proofs.Loops.{lowering_start, lowering_next, lowering_done}
use borrow.Author.Rules.{rules}
use Rattle.pop.proofs.stays.lowest_cycle.Goals as goal

pub loop-i-init : goal.loop-i-init
loop-i-init c =
    rw (c.into_iter-i-iterator.ensures.into_iter_gives, c.places-i-items.ensures)
    (lowering_start (λ s. PathsFrom s (popped_frame c.args.goals c.args.rest.now) c.args.paths.now)
    (popped_frame c.args.goals c.args.rest.now).step_kind_from_parent (popped_frame c.args.goals c.args.rest.now).heads c.popped_mask-mask.result
    (64 - c.args.goals) (let it : c.popped_mask-mask.result < 2 ^ 64 = search rules in it) c.popped_mask-mask.ensures)

pub popped_head-head-requires : goal.popped_head-head-requires
popped_head-head-requires c =
    let step = c.in-Some.ensures.steps in
    (c.requires, turn_small (popped_frame c.args.goals c.args.rest.now).heads c.loop-i.i-iterator.mask c.in-Some.i step.0 c.loop-i.invariant.small c.loop-i.invariant.within step.1.0 c.args.goals (popped_length c.args.goals c.args.rest.now))

pub bounds-paths-i : goal.bounds-paths-i
bounds-paths-i c =
    let step = c.in-Some.ensures.steps in
    let few = c.requires.few in
    let lt = turn_small (popped_frame c.args.goals c.args.rest.now).heads c.loop-i.i-iterator.mask c.in-Some.i step.0 c.loop-i.invariant.small c.loop-i.invariant.within step.1.0 c.args.goals (popped_length c.args.goals c.args.rest.now) in
    omega arith

pub loop-i-preserved : goal.loop-i-preserved
loop-i-preserved c =
    let a = c.args in
    let l = c.loop-i in
    let step = c.in-Some.ensures.steps in
    let few = c.requires.few in
    let lt = turn_small (popped_frame a.goals a.rest.now).heads l.i-iterator.mask c.in-Some.i step.0 l.invariant.small l.invariant.within step.1.0 a.goals (popped_length a.goals a.rest.now) in
    let small : c.in-Some.i < 64 = omega arith in
    let path : PathKind = get_or a.paths.now c.in-Some.i Inductive in
    let later : kind_number c.max-kind.result ≡ max (kind_number c.lowest_kind.result) (kind_number path) = search rules in
    let sooner : kind_number c.min-lowest.result ≡ min (kind_number l.lowest) (kind_number c.max-kind.result) = search rules in
    let is : kind_number c.min-lowest.result ≡ min (kind_number l.lowest) (max (lowest_of (iter_paths c.popped_head-head.result.paths)) (kind_number path)) =
    sooner ∙ ap (min (kind_number l.lowest)) (later ∙ ap (λ (n : ℕ). max n (kind_number path)) c.lowest_kind.ensures) in
    lowering_next (λ s. PathsFrom s (popped_frame a.goals a.rest.now) a.paths.now)
    (popped_frame a.goals a.rest.now).step_kind_from_parent (popped_frame a.goals a.rest.now).heads
    (kind_number l.lowest) l.i-iterator.mask c.in-Some.i l.invariant step.0 step.1.0
    (kind_number path) (λ s are. ap kind_number (are c.in-Some.i small)) c.popped_head-head.result
    c.popped_head-head.ensures (kind_number c.min-lowest.result) is
    c.next.new.self.mask step.1.1.0 step.1.1.1

pub returns : goal.returns
returns c =
    lowering_done (λ s. PathsFrom s (popped_frame c.args.goals c.args.rest.now) c.args.paths.now)
    (popped_frame c.args.goals c.args.rest.now).step_kind_from_parent (popped_frame c.args.goals c.args.rest.now).heads
    (kind_number c.loop-i.lowest) c.loop-i.i-iterator.mask c.loop-i.invariant c.in-None.ensures.steps.0
