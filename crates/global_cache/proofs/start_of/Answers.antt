use mathlib.Core.Path.{refl}
use native.Mathlib.Omega.{arith}
use Rattle.global_cache.proofs.Sizes.{place_in, length_few}
use Rattle.global_cache.proofs.start_of.Goals as goal

pub returns : goal.returns
returns c =
    let a = c.args in
    let inside = place_in a.goals a.top a.place c.requires.1 in
    let few = length_few a.goals a.top c.requires.0.few c.requires.0.low in
    (refl, inside, omega arith)
