use Rattle.std.proofs.Common.{arith, ap, ◌∙◌, not}
use Rattle.std.specs.Slice.Iter.{chunks_exact_rest}
use Rattle.book.proofs.Tests.{refused, held}
use Rattle.book.proofs.Lines.{turn_bad, turn_good, turn_end}
use Rattle.book.proofs.line.all_fit.Goals as goal

pub returns-then-not-first_fits : goal.returns-then-not-first_fits
returns-then-not-first_fits c =
    let l = c.loop-t in
    let step = c.in-Some.ensures.steps in
    turn_bad c.in-Some.t.now (chunks_exact_rest c.next.new.self) (step.1.1 ∙ l.invariant.size) c.args.book.now _ step.1.0 l.invariant.fits
    (refused c.first_fits.ensures (ap not c.if-not-first_fits.true))

pub loop-t-preserved : goal.loop-t-preserved
loop-t-preserved c =
    let l = c.loop-t in
    let step = c.in-Some.ensures.steps in
    record {
      size = step.0 ∙ l.invariant.size;
      fits =
          turn_good c.in-Some.t.now (chunks_exact_rest c.next.new.self) (step.1.1 ∙ l.invariant.size) c.args.book.now _ step.1.0 l.invariant.fits
          (held c.first_fits.ensures (ap not c.if-not-first_fits.false));
    }

pub returns : goal.returns
returns c =
    let l = c.loop-t in
    let step = c.in-None.ensures.steps in
    turn_end c.args.book.now (chunks_exact_rest l.t-iterator) (omega (arith, step.1.0, l.invariant.size)) l.invariant.fits
