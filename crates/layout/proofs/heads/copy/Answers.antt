use mathlib.Core.Path.{◌≡◌, ap, ◌∙◌}
use mathlib.Core.Bool.{false}
use mathlib.Core.List.{List, ◌++◌}
use Prim.Native.Nat.{ℕ, ◌+◌, ◌*◌, ◌-◌}
use native.Mathlib.Omega.{arith}
use lib.ListN.{replicate}
use borrow.Author.Rules.{rules}
use Rattle.buffer.specs.Regions.{region}
use Rattle.layout.specs.Blocks.{heads_of, heads_size, present}
use Rattle.layout.proofs.Copied.{copy_turn, copy_done, copied_from, masked_blocks, masked_flags, masked_start, masked_turn}
use Rattle.layout.proofs.heads.copy.Goals as goal

heads-whole : (from goals : ℕ) → from + 8 + goals * 33 - from ≡ heads_size goals
heads-whole from goals = omega arith

-- the mask that was read is that of the whole block
whole_mask : (goals from : ℕ) (bs : List ℕ) → present (heads_of goals (region from (from + 8 + goals * 33 - from) bs)) ++ replicate (64 - goals) false
    ≡ present (heads_of goals (region from (heads_size goals) bs)) ++ replicate (64 - goals) false
whole_mask goals from bs = ap (λ (n : ℕ). present (heads_of goals (region from n bs)) ++ replicate (64 - goals) false) (heads-whole from goals)

pub loop-i-init : goal.loop-i-init
loop-i-init c = rw (c.into_iter-i-iterator.ensures.into_iter_gives, c.places-i-items.ensures)
    (masked_start _ _ _ _ c.requires _ _ c.write_u64.ensures (search rules) (c.mask-m.ensures ∙ whole_mask c.args.goals c.args.from c.args.s.now))

pub overflow_mul-a : goal.overflow_mul-a
overflow_mul-a c = omega (arith, masked_turn _ _ _ _ c.requires _ _ c.write_u64.ensures _ _ c.loop-i.invariant _ c.in-Some.ensures.steps.0 c.in-Some.ensures.steps.1.0, c.requires.few)

pub overflow_add-a : goal.overflow_add-a
overflow_add-a c = omega (arith, masked_turn _ _ _ _ c.requires _ _ c.write_u64.ensures _ _ c.loop-i.invariant _ c.in-Some.ensures.steps.0 c.in-Some.ensures.steps.1.0, c.requires.few)

pub overflow_add-from : goal.overflow_add-from
overflow_add-from c = omega (arith, masked_turn _ _ _ _ c.requires _ _ c.write_u64.ensures _ _ c.loop-i.invariant _ c.in-Some.ensures.steps.0 c.in-Some.ensures.steps.1.0, c.requires.few, c.requires.source, c.requires.target)

pub overflow_add-to : goal.overflow_add-to
overflow_add-to c = omega (arith, masked_turn _ _ _ _ c.requires _ _ c.write_u64.ensures _ _ c.loop-i.invariant _ c.in-Some.ensures.steps.0 c.in-Some.ensures.steps.1.0, c.requires.few, c.requires.source, c.requires.target)

pub copy_record-requires : goal.copy_record-requires
copy_record-requires c = (omega (arith, masked_turn _ _ _ _ c.requires _ _ c.write_u64.ensures _ _ c.loop-i.invariant _ c.in-Some.ensures.steps.0 c.in-Some.ensures.steps.1.0, c.requires.few, c.requires.source, c.requires.target), omega (arith, masked_turn _ _ _ _ c.requires _ _ c.write_u64.ensures _ _ c.loop-i.invariant _ c.in-Some.ensures.steps.0 c.in-Some.ensures.steps.1.0, c.requires.few, c.requires.source, c.requires.target))

pub loop-i-preserved : goal.loop-i-preserved
loop-i-preserved c =
    let step = c.in-Some.ensures.steps in
    copy_turn _ _ _ _ (masked_blocks _ _ _ _ c.requires _ _ c.write_u64.ensures) _ _ _ c.loop-i.invariant _ step.0 step.1.0
    _ c.copy_record.auto.s c.copy_record.ensures _ step.1.1.0 step.1.1.1

pub returns : goal.returns
returns c =
    copied_from _ _ _ _ c.requires _ _ c.write_u64.ensures _
    (copy_done _ _ _ _ (masked_blocks _ _ _ _ c.requires _ _ c.write_u64.ensures) _ _ _ c.loop-i.invariant c.in-None.ensures.steps.0
    (masked_flags _ _ _ _ c.requires _ _ c.write_u64.ensures (c.mask-m.ensures ∙ whole_mask c.args.goals c.args.from c.args.s.now)))
