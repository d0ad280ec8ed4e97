use mathlib.Core.Path.{sym, ap, ◌∙◌}
use mathlib.Core.Bool.{false}
use Prim.Native.Nat.{ℕ}
use lib.ListN.{get_or}
use Rattle.bits.specs.Masks.{flags}
use Rattle.layout.specs.Blocks.{flag_at}
use Rattle.layout.proofs.Present.{present_at}
use Rattle.layout.proofs.heads.has.Goals as goal

pub returns : goal.returns
unfolding flag_at
returns c =
    let s = c in
    c.has.ensures
    ∙ ap (λ (m : ℕ). get_or (flags 64 m) s.args.i false) c.read_u64.ensures
    ∙ sym (present_at s.args.goals s.args.b.now s.args.i s.requires.1)
