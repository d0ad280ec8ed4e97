-- Laws of lists.
use mathlib.Core.Path.{◌≡◌}
use mathlib.Core.List.{List, ◌∷◌}
use Prim.Native.Nat.{ℕ, ◌-◌}
use native.Mathlib.Omega.{arith}
use lib.ListN.{length, take, drop, length-drop}
use lib.Seq.{take_all}

module _ {A : Type 0} where
  -- a part `[n..]` is all that is left
  pub part_from_lem : (n : ℕ) (l : List A) → take (length l - n) (drop n l) ≡ drop n l
  part_from_lem n l = take_all (length l - n) (drop n l) (omega (arith, length-drop n l))

  -- equal lists have equal first members and equal rests
  pub first_same : {x y : A} {xs ys : List A} → x ∷ xs ≡ y ∷ ys → x ≡ y
  first_same e = cc

  pub rest_same : {x y : A} {xs ys : List A} → x ∷ xs ≡ y ∷ ys → xs ≡ ys
  rest_same e = cc
