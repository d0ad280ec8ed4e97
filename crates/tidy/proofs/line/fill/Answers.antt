use mathlib.Core.Path.{◌∙◌, ◌≡◌, ap, refl}
use mathlib.Core.List.{List}
use Prim.Native.Nat.{ℕ}
use lib.ListN.{length, set}
use Rattle.definition.specs.declared.format.Line.{Line}
use Rattle.buffer.proofs.Sized.{sized}
use Rattle.tidy.specs.Write.{write_line}
use Rattle.tidy.specs.Engine.{put_columns}
use Rattle.tidy.proofs.line.fill.Goals as goal

filled : (bs : List ℕ) → length bs ≡ 16 → (l : Line)
    → set (put_columns (put_columns (put_columns (put_columns (put_columns bs 0 l.code) 3 l.first) 6 l.second) 9 l.third) 12 l.fourth) 15 10
    ≡ write_line l
filled bs h l =
    sized 16
    (λ bs. set (put_columns (put_columns (put_columns (put_columns (put_columns bs 0 l.code) 3 l.first) 6 l.second) 9 l.third) 12 l.fourth) 15 10 ≡ write_line l)
    (λ b0 b1 b2 b3 b4 b5 b6 b7 b8 b9 b10 b11 b12 b13 b14 b15. refl) bs h

pub returns : goal.returns
returns c =
    ap (λ s. set s 15 10) (c.put-5.ensures ∙ ap (λ s. put_columns s 12 c.args.l.fourth) (c.put-4.ensures ∙ ap (λ s. put_columns s 9 c.args.l.third) (c.put-3.ensures ∙ ap (λ s. put_columns s 6 c.args.l.second) (c.put-2.ensures ∙ ap (λ s. put_columns s 3 c.args.l.first) c.put.ensures)))) ∙ filled c.args.s.now c.requires c.args.l
