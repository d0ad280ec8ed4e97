use mathlib.Core.Path.{refl, sym, ap, ◌∙◌}
use Prim.Native.Nat.{ℕ}
use mathlib.Core.Bool.{false}
use mathlib.Core.List.{List}
use lib.ListN.{get_or, set}
use lib.Seq.{set-get_or}
use Rattle.bits.specs.Masks.{flags}
use Rattle.buffer.proofs.Tables.{up_at}
use Rattle.definition.specs.declared.usages.HeadUsages.{HeadUsages}
use Rattle.definition.specs.Usages.{no_usages}
use Rattle.layout.specs.Blocks.{usages_of, flag_at, usages_in, candidate_of}
use Rattle.layout.proofs.Blocks.{kept_clear}
use Rattle.layout.proofs.candidate.start.Goals as goal

pub returns-then-has : goal.returns-then-has
unfolding flag_at
returns-then-has c = (refl, ap (λ (n : ℕ). get_or (flags 64 n) c.args.i false) (sym c.read_u64.ensures) ∙ sym c.has.ensures ∙ c.if-has.true)

pub returns : goal.returns
unfolding candidate_of flag_at
returns c =
    let us : List HeadUsages = candidate_of c.args.goals c.args.b.now in
    let absent = up_at no_usages (usages_in c.args.b.now) c.args.goals c.args.i c.requires.1
    ∙ kept_clear usages_of no_usages 32 c.args.b.now c.args.i
    (ap (λ (n : ℕ). get_or (flags 64 n) c.args.i false) (sym c.read_u64.ensures) ∙ sym c.has.ensures ∙ c.if-has.false) in (
      c.put.ensures.0 ∙ ap (set us c.args.i) (c.none.ensures ∙ sym absent) ∙ set-get_or us c.args.i no_usages,
      c.put.ensures.1,
    )
