use mathlib.Core.Path.{◌≡◌, ap, ◌∙◌}
use Prim.Native.Nat.{ℕ, ◌-◌, ◌^◌}
use lib.Bits.{bit_or}
use lib.Dec.{leb}
use Rattle.std.specs.Prelude.{fold}
use borrow.Author.Rules.{rules}
use Rattle.layout.proofs.NestedPaths.{joined_low}
use Rattle.layout.proofs.nested.all_paths.Goals as goal

pub returns : goal.returns
returns c k =
    let joined : c.fold.result ≡ fold bit_or 0 c.args.nested.now = search rules in
    ap (λ (n : ℕ). leb n (2 ^ k - 1)) joined ∙ joined_low k c.args.nested.now
