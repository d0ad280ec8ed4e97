-- What the verdict on a book says of its groups, proved.
use mathlib.Core.Path.{◌≡◌, sym, ap, subst, ◌∙◌}
use mathlib.Core.List.{List}
use Prim.Native.Nat.{ℕ}
use Rattle.definition.specs.declared.paths.PathKind.TheVariants.{Inductive, Coinductive}
use Rattle.definition.specs.declared.format.Line.{Line}
use Rattle.definition.specs.Part.{Book}
use Rattle.definition.specs.Reader.{BookRead, Accepted, lines_of, read_book}
use Rattle.book.specs.Lines.{lines_in}
use Rattle.book.specs.Read.{IsAccepted, book_or, book_in}
use Rattle.soundness.specs.Groups.{step_lines, OneKindEach}
use Rattle.guarantee.specs.declared.Conflict.{Conflict}
use Rattle.guarantee.specs.declared.Verdict.TheVariants.{Given, Broken}
use Rattle.guarantee.specs.Guarantee.{steps_of, guarantee_of, guarantee_of_read}
use Rattle.guarantee.specs.Engine.{in_mask}
use Rattle.guarantee.specs.Meaning.{Conflicting, Meaning}
use Rattle.guarantee.proofs.Accepted.{accepted_lines, caller_in, group_goals, ok, line_step, step_line}
use Rattle.guarantee.proofs.Books.{of_accepted}
use Rattle.guarantee.proofs.Inside.{broken_by, conflict_of, within_inside, mixed_given, given_mixed}

-- the accepted book is the one that the bytes say
module _ (bytes : List ℕ) (b : Book) (e : read_book bytes ≡ Accepted b) where
  same_book : book_in bytes ≡ b
  unfolding book_in
  same_book = ap book_or e

  accepted : IsAccepted bytes
  accepted = e ∙ ap Accepted (sym same_book)

module _ (bytes : List ℕ) (is : IsAccepted bytes) where
  given : guarantee_of bytes ≡ Given → OneKindEach (book_in bytes)
  given g =
      given_mixed (book_in bytes) (ok bytes is) (step_lines (lines_in bytes)) (line_step bytes is) (step_line bytes is)
      (sym (of_accepted bytes is) ∙ g)

  only_given : OneKindEach (book_in bytes) → guarantee_of bytes ≡ Given
  only_given m =
      of_accepted bytes is ∙ mixed_given (book_in bytes) (ok bytes is) (step_lines (lines_in bytes)) (line_step bytes is)
      (step_line bytes is) m

  broken : (c : Conflict) → guarantee_of bytes ≡ Broken c → Conflicting (book_in bytes) (step_lines (lines_in bytes)) c
  broken c g =
      let ss = step_lines (lines_in bytes) in
      let r = broken_by (book_in bytes) ss ss c (sym (of_accepted bytes is) ∙ g) in
      let s = r.0 in
      let p = conflict_of (book_in bytes) ss s c r.2 in
      let t = p.1.0 in
      let i = within_inside (book_in bytes) (ok bytes is) ss (line_step bytes is) (step_line bytes is) s.caller
      Inductive s r.1 p.0 in
      let j = within_inside (book_in bytes) (ok bytes is) ss (line_step bytes is) (step_line bytes is) s.caller
      Coinductive t p.1.1 p.1.2 in
      record {
        s = s;
        t = t;
        s_is = r.1;
        t_is = p.1.1;
        s_line = ap (λ (x : Conflict). x.inductive) p.1.3;
        t_line = ap (λ (x : Conflict). x.coinductive) p.1.3;
        s_kind = i.0;
        t_kind = j.0;
        s_inside = i.1;
        t_inside = j.1;
        group = λ k.
            ap (λ (x : Conflict). in_mask x.group k) (sym p.1.3)
            ∙ group_goals bytes is s.caller k (caller_in bytes is s r.1);
      }

pub meaning : Meaning
meaning =
    record {
      refused = λ bytes r e. ap (λ (x : BookRead). guarantee_of_read x (steps_of (lines_of bytes))) e;
      given = λ bytes b e g. subst OneKindEach (same_book bytes b e) (given bytes (accepted bytes b e) g);
      only_given = λ bytes b e m. only_given bytes (accepted bytes b e) (subst OneKindEach (sym (same_book bytes b e)) m);
      broken = λ bytes b ls c e f g.
          let lines : lines_in bytes ≡ ls = (let h = accepted_lines b bytes e in cc) in
          subst (λ (x : Book). Conflicting x (step_lines ls) c) (same_book bytes b e)
          (subst (λ (x : List Line). Conflicting (book_in bytes) (step_lines x) c) lines
          (broken bytes (accepted bytes b e) c g));
    }
