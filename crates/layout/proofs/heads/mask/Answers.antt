use mathlib.Core.Path.{ap, ◌∙◌}
use mathlib.Core.List.{List, ◌++◌}
use mathlib.Core.Bool.{Bool, false}
use Prim.Native.Nat.{ℕ, ◌-◌}
use lib.ListN.{take, replicate}
use Rattle.bits.specs.Masks.{flags}
use Rattle.layout.proofs.Present.{present_mask}
use Rattle.layout.proofs.heads.mask.Goals as goal

pub returns : goal.returns
returns c =
    let s = c in
    c.below.ensures
    ∙ ap (λ (m : ℕ). take s.args.goals (flags 64 m) ++ replicate (64 - s.args.goals) false) c.read_u64.ensures
    ∙ ap (λ (l : List Bool). l ++ replicate (64 - s.args.goals) false) (present_mask s.args.goals s.args.b.now s.requires.few)
