-- One step over the places of a mask.
use Rattle.std.specs.Prelude.{◌≡◌, false, Option, Some, None, ℕ, ◌<◌, set}
use Rattle.bits.specs.Masks.{flags, first_place, place_or}

-- from the places `old`, the lowest of them is taken and `new` are left; nothing is taken where there is none
abbrev pub TakesLowest : ℕ → Option ℕ → ℕ → Type 0
TakesLowest old None new = (old ≡ 0) × (new ≡ old)
TakesLowest old (Some i) new = (0 < old)
    × ((i ≡ place_or 64 (first_place (flags 64 old)))
    × ((flags 64 new ≡ set (flags 64 old) (place_or 64 (first_place (flags 64 old))) false) × (new < old)))
