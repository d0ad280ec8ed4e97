-- How many slots and bytes there are.
use Prim.Native.Nat.{ℕ, ◌+◌, ◌*◌, ◌≤◌, ◌<◌}
use native.Mathlib.Nat.{mul-le-mul}
use native.Mathlib.Omega.{arith}
use Rattle.buffer.proofs.Tables.{apart}

-- goals' slots
pub slots_few : (n top : ℕ) → n ≤ 64 → top ≤ 63 → n * (top + 2) ≤ 4160
slots_few n top a b = mul-le-mul {n₁ = n} {m₁ = top + 2} {n₂ = 64} {m₂ = 65} a (omega arith)

-- slots' bytes
pub bytes_few : (n goals : ℕ) → n ≤ 4160 → goals ≤ 64 → n * (goals + 4) ≤ 282880
bytes_few n goals a b = mul-le-mul {n₁ = n} {m₁ = goals + 4} {n₂ = 4160} {m₂ = 68} a (omega arith)

pub length_few : (goals top : ℕ) → goals ≤ 64 → top ≤ 63 → goals * (top + 2) * (goals + 4) ≤ 282880
length_few goals top a b = bytes_few (goals * (top + 2)) goals (slots_few goals top a b) a

-- a slot lies in the cache
pub place_in : (goals top place : ℕ) → place < goals * (top + 2) → place * (goals + 4) + (goals + 4) ≤ goals * (top + 2) * (goals + 4)
place_in goals top place h = apart place (goals * (top + 2)) (goals + 4) h

-- a goal's slots are among all
pub goal_in : (goals top goal : ℕ) → goal < goals → goal * (top + 2) + (top + 2) ≤ goals * (top + 2)
goal_in goals top goal h = apart goal goals (top + 2) h
