-- The length and the form of the global cache's bytes.
use Rattle.std.specs.Prelude.{ℕ, zero, suc, ◌*◌, max, Bool, true, ◌&&◌, ◌||◌, List, [], ◌∷◌, eqb, leb, get_or}
use Rattle.definition.specs.declared.format.Header.{Header}
use Rattle.definition.specs.GlobalCache.{slot_size, slots_per_goal, slot_at, slot_depth, slot_passes, slot_nested}

abbrev pub cache_length : Header → ℕ
cache_length h = h.goals * slots_per_goal h * slot_size h

abbrev pub all_at_most : ℕ → List ℕ → Bool
all_at_most n [] = true
all_at_most n (x ∷ xs) = leb x n && all_at_most n xs

-- the required depth in a goal's slot k: any up to T in the success slot, its own number in an overflow slot
abbrev pub depth_fits : Header → ℕ → ℕ → Bool
depth_fits h zero d = leb d h.top
depth_fits h (suc k) d = eqb d k

-- L runs of a part are allowed, and there is always one
abbrev pub most_passes : Header → ℕ
most_passes h = max 1 h.limit

abbrev pub passes_fit : Header → ℕ → Bool
passes_fit h n = leb 1 n && leb n (most_passes h)

-- vacant, which is all zeros, or held
abbrev pub slot_fits : Header → ℕ → List ℕ → Bool
slot_fits h k s =
    all_at_most 0 s
    || (eqb (get_or s 0 0) 1 && leb (get_or s 1 0) 3 && depth_fits h k (slot_depth s) && passes_fit h (slot_passes s)
    && all_at_most 31 (slot_nested s))

-- a goal's slots below slot k
abbrev pub slots_fit : Header → List ℕ → ℕ → ℕ → Bool
slots_fit h cache goal zero = true
slots_fit h cache goal (suc k) = slot_fits h k (slot_at h cache goal k) && slots_fit h cache goal k

-- the slots of the goals below goal g
abbrev pub goals_fit : Header → List ℕ → ℕ → Bool
goals_fit h cache zero = true
goals_fit h cache (suc g) = slots_fit h cache g (slots_per_goal h) && goals_fit h cache g

abbrev pub cache_fits : Header → List ℕ → Bool
cache_fits h cache = goals_fit h cache h.goals
