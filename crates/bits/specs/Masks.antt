-- A mask as flags, the lowest bit first, and the places of the flags that are set.
use Rattle.std.specs.Prelude.{Bool, true, false, List, [], ◌∷◌, ℕ, zero, suc, ◌/◌, ◌%◌}
use Rattle.std.proofs.Math.Option.{Option, none, some}

abbrev pub flag : ℕ → Bool
flag zero = false
flag (suc n) = true

-- the k lowest bits of a number
unfoldable pub flags : ℕ → ℕ → List Bool
flags zero n = []
flags (suc k) n = flag (n % 2) ∷ flags k (n / 2)

-- two lists of flags, place by place
unfoldable pub pairwise : (Bool → Bool → Bool) → List Bool → List Bool → List Bool
pairwise f [] ys = []
pairwise f (x ∷ xs) [] = []
pairwise f (x ∷ xs) (y ∷ ys) = f x y ∷ pairwise f xs ys

abbrev pub and_not : Bool → Bool → Bool
and_not x true = false
and_not x false = x

abbrev pub next_place : Option ℕ → Option ℕ
next_place none = none
next_place (some i) = some (suc i)

-- the first flag that is set
unfoldable pub first_place : List Bool → Option ℕ
first_place [] = none
first_place (true ∷ xs) = some 0
first_place (false ∷ xs) = next_place (first_place xs)

-- the last flag that is set
unfoldable pub last_place : List Bool → Option ℕ
last_place [] = none
last_place (true ∷ xs) = elim (last_place xs) [ none ↦ some 0 | some i ↦ some (suc i) ]
last_place (false ∷ xs) = next_place (last_place xs)

abbrev pub place_or : ℕ → Option ℕ → ℕ
place_or d none = d
place_or d (some i) = i
