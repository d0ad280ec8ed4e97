-- A part [a..e] of a buffer that was lent, and came back with ys in it.
use mathlib.Core.Path.{◌≡◌, ap, ◌∙◌}
use mathlib.Core.List.{List, ◌++◌}
use Prim.Native.Nat.{ℕ, ◌-◌, ◌≤◌}
use native.Mathlib.Omega.{arith}
use lib.ListN.{length, take, drop}
use Rattle.buffer.specs.Regions.{overwrite}
use Rattle.buffer.proofs.Regions.{length_region, length_overwrite, overwrite_part}

abbrev pub part : List ℕ → ℕ → ℕ → List ℕ
part bs a e = take (e - a) (drop a bs)

abbrev pub returned : List ℕ → ℕ → ℕ → List ℕ → List ℕ
returned bs a e ys = take a bs ++ (ys ++ drop (e - a) (drop a bs))

module _ (bs : List ℕ) (a e : ℕ) (ys : List ℕ) (up : a ≤ e) (fits : e ≤ length bs) (kept : length ys ≡ length (part bs a e)) where
  pub part_length : length ys ≡ e - a
  part_length = kept ∙ length_region a (e - a) bs (omega arith)

  pub part_back : returned bs a e ys ≡ overwrite bs a ys
  part_back = overwrite_part bs a e ys part_length

  pub returned_length : length (returned bs a e ys) ≡ length bs
  returned_length = ap length part_back ∙ length_overwrite bs a ys (omega (arith, part_length))
