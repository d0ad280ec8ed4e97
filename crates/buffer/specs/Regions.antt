-- Parts of a buffer.
use Rattle.std.specs.Prelude.{Bool, true, ◌&&◌, List, [], ◌∷◌, ◌++◌, ℕ, eqb, length, take, drop}

-- the n bytes from a on
abbrev pub region : ℕ → ℕ → List ℕ → List ℕ
region a n bs = take n (drop a bs)

-- the bytes with ys written from a on
abbrev pub overwrite : List ℕ → ℕ → List ℕ → List ℕ
overwrite bs a ys = take a bs ++ (ys ++ drop (length ys) (drop a bs))

abbrev pub all_zero : List ℕ → Bool
all_zero [] = true
all_zero (b ∷ bs) = eqb b 0 && all_zero bs
