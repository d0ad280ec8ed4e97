-- A goal's slot in the cache's bytes.
use mathlib.Core.Path.{◌≡◌, ap, ◌∙◌}
use mathlib.Core.List.{List}
use Prim.Native.Nat.{ℕ, ◌+◌, ◌*◌, ◌≤◌, ◌<◌}
use native.Mathlib.Omega.{arith}
use lib.ListN.{length}
use Rattle.buffer.proofs.Regions.{length_region}
use Rattle.definition.specs.GlobalCache.{slot_at}
use Rattle.global_cache.specs.Cache.{header_with, CacheBytes}
use Rattle.global_cache.proofs.Sizes.{place_in, goal_in}

-- a slot of a known goal is as long as a slot is
pub slot_length : (goals top goal slot : ℕ) (cache : List ℕ) → CacheBytes goals top cache → goal < goals → slot < top + 2
    → length (slot_at (header_with goals top) cache goal slot) ≡ goals + 4
slot_length goals top goal slot cache g k h =
    let inside = goal_in goals top goal k in
    let room = place_in goals top (goal * (top + 2) + slot) (omega arith) in
    let whole = g.whole in
    length_region ((goal * (top + 2) + slot) * (goals + 4)) (goals + 4) cache (omega arith)

pub slot_room : (goals top goal slot : ℕ) (cache s : List ℕ) → CacheBytes goals top cache → goal < goals → slot < top + 2
    → s ≡ slot_at (header_with goals top) cache goal slot → 4 ≤ length s
slot_room goals top goal slot cache s g k h e =
    let n : length s ≡ goals + 4 = ap length e ∙ slot_length goals top goal slot cache g k h in
    omega arith
