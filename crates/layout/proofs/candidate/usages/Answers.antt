use mathlib.Core.Path.{sym, ap, ◌∙◌}
use Prim.Native.Nat.{ℕ, ◌+◌, ◌*◌}
use mathlib.Core.Bool.{false}
use Rattle.definition.specs.Usages.{no_usages}
use lib.ListN.{get_or}
use Rattle.bits.specs.Masks.{flags}
use Rattle.buffer.proofs.Tables.{up_at}
use Rattle.layout.specs.Blocks.{usages_of, candidate_of, flag_at, usages_in}
use Rattle.layout.proofs.Blocks.{kept_set, kept_clear}
use Rattle.layout.proofs.Placed.{part_is}
use Rattle.layout.proofs.candidate.usages.Goals as goal

pub returns-then-not-has : goal.returns-then-not-has
unfolding candidate_of flag_at
returns-then-not-has c =
    let s = c in
    c.none.ensures
    ∙ sym (up_at no_usages (usages_in s.args.b.now) s.args.goals s.args.i s.requires.1
    ∙ kept_clear usages_of no_usages 32 s.args.b.now s.args.i
    (ap (λ (m : ℕ). get_or (flags 64 m) s.args.i false) (sym c.read_u64.ensures) ∙ sym c.has.ensures ∙ c.if-not-has.true))

pub returns : goal.returns
unfolding candidate_of flag_at
returns c =
    let s = c in
    c.read_usages.ensures
    ∙ ap usages_of (part_is s.args.b.now c.place.result.start c.place.result.end (8 + s.args.i * 32) 32 c.place.ensures.start c.place.ensures.end)
    ∙ sym (up_at no_usages (usages_in s.args.b.now) s.args.goals s.args.i s.requires.1
    ∙ kept_set usages_of no_usages 32 s.args.b.now s.args.i
    (ap (λ (m : ℕ). get_or (flags 64 m) s.args.i false) (sym c.read_u64.ensures) ∙ sym c.has.ensures ∙ c.if-not-has.false))
