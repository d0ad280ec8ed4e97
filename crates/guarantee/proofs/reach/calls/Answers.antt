use mathlib.Core.Path.{refl, ap, subst, ◌∙◌}
use mathlib.Core.List.{List}
use lib.ListN.{length-set}
use Rattle.book.specs.Lines.{lines_in}
use Rattle.soundness.specs.Groups.{StepLine, step_lines}
use Rattle.guarantee.specs.Engine.{step_line, steps_left}
use Rattle.guarantee.proofs.Accepted.{call_masks}
use Rattle.guarantee.proofs.Lines.{Collected, collected_none, collected_more, collected_all, far_step, one_step_lem}
use Rattle.guarantee.proofs.reach.calls.Goals as goal

pub loop-s-init : goal.loop-s-init
loop-s-init c = (
  collected_none (step_lines (lines_in c.args.book.now)) (steps_left c.into_iter-s-iterator.result)
      (ap steps_left c.into_iter-s-iterator.ensures.into_iter_gives ∙ c.of_book-s-items.ensures),
  refl,
)

pub loop-s-preserved-then-s-lt64 : goal.loop-s-preserved-then-s-lt64
loop-s-preserved-then-s-lt64 c = (
  collected_more (step_lines (lines_in c.args.book.now)) (step_line c.in-Some.s) (steps_left c.next.new.self) c.loop-s.masks _
      (subst (λ (ss : List StepLine). Collected (step_lines (lines_in c.args.book.now)) ss c.loop-s.masks)
      c.in-Some.ensures.steps c.loop-s.invariant.0)
      (one_step_lem c.loop-s.masks (step_line c.in-Some.s) c.loop-s.invariant.1 c.if-s-lt64.true c.with.result c.with.ensures),
  length-set c.loop-s.masks c.in-Some.s.caller c.with.result ∙ c.loop-s.invariant.1,
)

pub loop-s-preserved : goal.loop-s-preserved
loop-s-preserved c = (
  collected_more (step_lines (lines_in c.args.book.now)) (step_line c.in-Some.s) (steps_left c.next.new.self) c.loop-s.masks _
      (subst (λ (ss : List StepLine). Collected (step_lines (lines_in c.args.book.now)) ss c.loop-s.masks)
      c.in-Some.ensures.steps c.loop-s.invariant.0)
      (far_step c.loop-s.masks (step_line c.in-Some.s) c.if-s-lt64.false),
  c.loop-s.invariant.1,
)

pub returns : goal.returns
returns c =
    call_masks c.args.book.now c.requires c.loop-s.masks c.loop-s.invariant.1
    (collected_all (step_lines (lines_in c.args.book.now)) _ c.loop-s.masks c.in-None.ensures.steps.0 c.loop-s.invariant.0)
