-- A record of a block, at a range of its bytes.
use mathlib.Core.Path.{◌≡◌, sym, ap, ap₂, ◌∙◌}
use mathlib.Core.List.{List, ◌++◌}
use Prim.Native.Nat.{ℕ, ◌+◌, ◌-◌, ◌≤◌}
use native.Mathlib.Omega.{arith}
use lib.ListN.{length, take, drop}
use Rattle.buffer.specs.Regions.{region, overwrite}
use Rattle.buffer.proofs.Regions.{overwrite_part, length_region}

module _ (bs : List ℕ) (start end a n : ℕ) (from : start ≡ a) (to : end ≡ a + n) where
  wide : end - start ≡ n
  wide = omega arith

  pub part_is : region start (end - start) bs ≡ region a n bs
  part_is = ap₂ (λ (x y : ℕ). region x y bs) from wide

  pub part_long : (ys : List ℕ) → length ys ≡ length (region start (end - start) bs) → a + n ≤ length bs → length ys ≡ n
  part_long ys e room = e ∙ ap length part_is ∙ length_region a n bs room

  pub part_written : (ys : List ℕ) → length ys ≡ n → take start bs ++ (ys ++ drop (end - start) (drop start bs)) ≡ overwrite bs a ys
  part_written ys whole = overwrite_part bs start end ys (whole ∙ sym wide) ∙ ap (λ (x : ℕ). overwrite bs x ys) from
