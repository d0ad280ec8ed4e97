use Rattle.std.proofs.Common.{◌≡◌}
use Rattle.std.specs.Slice.Iter.{chunks_exact_rest, chunks_exact_size}
use Rattle.book.specs.Lines.{all_fit}
use Rattle.book.proofs.line.all_fit.Given as goal

abbrev pub invariant-loop-t : goal.invariant-loop-t
invariant-loop-t l = record {
  size : chunks_exact_size l.t-iterator ≡ 16;
  fits : all_fit (chunks_exact_rest l.t-iterator) ≡ all_fit l.book;
}
