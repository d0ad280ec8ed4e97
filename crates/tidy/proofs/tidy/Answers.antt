use Rattle.std.proofs.Common.{◌≡◌, ◌∙◌, ap, sym, ℕ}
use Rattle.std.proofs.lemmas.Result.{err_from_is_err_and}
use Rattle.std.specs.Prelude.{Result, Err}
use Rattle.tidy.specs.declared.Untidied.{Untidied}
use Rattle.tidy.specs.Reply.{replied, tidy}
use Rattle.tidy.proofs.Replies.{is_read, rejected}
use Rattle.tidy.proofs.Theorems.{both}
use Rattle.tidy.proofs.tidy.Goals as goal

pub write_into-requires : goal.write_into-requires
write_into-requires c =
    is_read c.args.book.now c.in_ok-h.h (sym c.in_ok-h.was ∙ c.read.ensures.0)

pub returns-in_err-h : goal.returns-in_err-h
returns-in_err-h c =
    let p = err_from_is_err_and c.from_residual.result c.from_residual.ensures.1 in
    let e : replied c.from_residual.result c.args.out.now ≡ tidy c.args.book.now c.args.out.now =
    ap (λ (x : Result ℕ Untidied). replied x c.args.out.now) (p.1 ∙ ap Err p.2)
    ∙ rejected c.args.book.now c.args.out.now c.read.result _ c.in_err-h.was c.read.ensures.0 in
    let told = both c.args.book.now c.args.out.now e in record { out_after = told.0; promises = told.1 }

pub returns : goal.returns
returns c =
    let told = both c.args.book.now c.args.out.now c.write_into.ensures in record { out_after = told.0; promises = told.1 }
