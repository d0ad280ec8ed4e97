-- A rule at every entry of a list, by one test that is computed from entry to entry.
use mathlib.Core.Path.{subst, sym}
use mathlib.Core.Bool.{Bool, true, ◌&&◌}
use mathlib.Core.List.{List, [], ◌∷◌}
use Prim.Native.Nat.{ℕ, zero, suc, ◌<◌}
use native.Mathlib.Nat.{le_of_suc-le-suc, not-suc-le-zero}
use lib.Dec.{T}
use lib.ListN.{length, get_or, replicate, length-replicate}
use Rattle.definition.proofs.Tests.{and_left, and_right}

-- the test f passes at each entry and its place
abbrev pub every : (ℕ → ℕ → Bool) → List ℕ → Bool
every f [] = true
every f (x ∷ xs) = f 0 x && every (λ k. f (suc k)) xs

pub at : (f : ℕ → ℕ → Bool) (xs : List ℕ) → T (every f xs) → (k : ℕ) → k < length xs → T (f k (get_or xs k 0))
at f [] t k h = absurd (not-suc-le-zero h)
at f (x ∷ xs) t zero h = and_left (f 0 x) (every (λ k. f (suc k)) xs) t
at f (x ∷ xs) t (suc k) h =
    at (λ k. f (suc k)) xs (and_right (f 0 x) (every (λ k. f (suc k)) xs) t) k (le_of_suc-le-suc h)

-- a test of every number below n
abbrev pub every_below : (ℕ → Bool) → ℕ → Bool
every_below f n = every (λ k x. f k) (replicate n 0)

pub at_number : (f : ℕ → Bool) (n : ℕ) → T (every_below f n) → (k : ℕ) → k < n → T (f k)
at_number f n t k h = at (λ k x. f k) (replicate n 0) t k (subst (λ (m : ℕ). k < m) (sym (length-replicate n 0)) h)
