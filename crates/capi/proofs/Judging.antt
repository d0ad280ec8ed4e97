-- The verdict's numbers, over the first places of what is lent.
use mathlib.Core.Path.{◌≡◌, refl, ap}
use mathlib.Core.List.{List, [], ◌∷◌, ◌++◌}
use Prim.Native.Nat.{ℕ, zero, suc, min}
use native.Mathlib.Omega.{arith}
use lib.ListN.{length, take, drop}
use Rattle.guarantee.specs.declared.Verdict.{Verdict}
use Rattle.guarantee.specs.declared.Verdict.TheVariants.{Refused, Given, Broken}
use Rattle.guarantee.specs.Codes.{verdict_numbers}
use Rattle.capi.specs.Verdicts.{over}

pub over_prefix : (n : ℕ) (ns out : List ℕ) → n ≡ min (length out) (length ns) → take n ns ++ drop n out ≡ over ns out
over_prefix zero [] out e = refl
over_prefix (suc n) [] out e = absurd (omega arith)
over_prefix zero (x ∷ ns) [] e = refl
over_prefix (suc n) (x ∷ ns) [] e = absurd (omega arith)
over_prefix zero (x ∷ ns) (y ∷ out) e = absurd (omega arith)
over_prefix (suc n) (x ∷ ns) (y ∷ out) e = ap (λ (l : List ℕ). x ∷ l) (over_prefix n ns out (omega arith))

pub three : (v : Verdict) → length (verdict_numbers v) ≡ 3
three (Refused r) = refl
three Given = refl
three (Broken c) = refl
