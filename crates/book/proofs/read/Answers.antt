use borrow.Author.Tests.{not-false}
use mathlib.Core.Bool.{Bool, false, not}
use mathlib.Core.Option.{some}
use mathlib.Core.List.{List}
use mathlib.Core.Path.{◌≡◌, ap, ◌∙◌}
use Prim.Native.Nat.{ℕ}
use native.Mathlib.Omega.{arith}
use lib.ListN.{length}
use Rattle.definition.specs.declared.format.Header.{Header}
use Rattle.definition.specs.Reader.{lines_of}
use Rattle.book.specs.Lines.{lines_in, lines_if}
use Rattle.book.proofs.Tests.{held}
use Rattle.book.proofs.Heads.{in_range}
use Rattle.book.proofs.Books.{length_fits, wrong_length, wrong_line, wrong_header, wrong_body, whole_book}
use Rattle.book.proofs.read.Goals as goal
use Rattle.std.proofs.Common.{ap, not}

fitting : (b : Bool) (book : List ℕ) → lines_of book ≡ lines_if b book → not b ≡ false → lines_of book ≡ some (lines_in book)
fitting b book e n = e ∙ ap (λ (x : Bool). lines_if x book) (not-false b n)

pub returns-then-not-length_fits : goal.returns-then-not-length_fits
returns-then-not-length_fits c = let a = c.args in wrong_length a.book.now a.starts.now c.length_fits.result c.length_fits.ensures (ap not c.if-not-length_fits.true)

pub returns-then-not-all_fit : goal.returns-then-not-all_fit
returns-then-not-all_fit c = let a = c.args in
    wrong_line a.book.now a.starts.now (held c.length_fits.ensures (ap not c.if-not-length_fits.false)) c.all_fit.result c.all_fit.ensures (ap not c.if-not-all_fit.true)

pub first-l-requires : goal.first-l-requires
first-l-requires c = let r = length_fits (length c.args.book.now) (held c.length_fits.ensures (ap not c.if-not-length_fits.false)) in omega (arith, r.0)

pub returns-then-not-in_range : goal.returns-then-not-in_range
returns-then-not-in_range c = let a = c.args in
    wrong_header a.book.now a.starts.now (held c.length_fits.ensures (ap not c.if-not-length_fits.false)) (fitting c.all_fit.result a.book.now c.all_fit.ensures (ap not c.if-not-all_fit.false)) c.first-l.result c.first-l.ensures c.in_range.result c.in_range.ensures (ap not c.if-not-in_range.true)

pub read_body-requires : goal.read_body-requires
read_body-requires c = let r = length_fits (length c.args.book.now) (held c.length_fits.ensures (ap not c.if-not-length_fits.false)) in
    let g = in_range c.first-l.result (held c.in_range.ensures (ap not c.if-not-in_range.false)) in
    let e = ap (λ (x : Header). x.goals) c.of_line-h.ensures in
    (omega (arith, r.0), (r.1, omega (arith, g.few_goals, e, c.requires)))

pub returns-then-not-read_body : goal.returns-then-not-read_body
returns-then-not-read_body c = let a = c.args in
    wrong_body a.book.now c.read_body.new.starts (held c.length_fits.ensures (ap not c.if-not-length_fits.false)) (fitting c.all_fit.result a.book.now c.all_fit.ensures (ap not c.if-not-all_fit.false)) c.first-l.result c.first-l.ensures (held c.in_range.ensures (ap not c.if-not-in_range.false)) c.of_line-h.result c.of_line-h.ensures c.read_body.result c.read_body.ensures.0 (ap not c.if-not-read_body.true)

pub returns : goal.returns
returns c = let a = c.args in
    whole_book a.book.now c.read_body.new.starts (held c.length_fits.ensures (ap not c.if-not-length_fits.false)) (fitting c.all_fit.result a.book.now c.all_fit.ensures (ap not c.if-not-all_fit.false)) c.first-l.result c.first-l.ensures (held c.in_range.ensures (ap not c.if-not-in_range.false)) c.of_line-h.result c.of_line-h.ensures c.read_body.result c.read_body.ensures.0 (ap not c.if-not-read_body.false) c.read_body.ensures.1
