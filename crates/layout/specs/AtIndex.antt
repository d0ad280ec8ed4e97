-- What is done at one index of a block: to usages, and to heads.
use Rattle.std.specs.Prelude.{◌≡◌, ℕ, zero, suc, ◌<◌, Bool, true, false, List, [], ◌∷◌, get_or, set}
use Rattle.std.proofs.Math.Option.{none}
use Rattle.definition.specs.declared.paths.PathKind.{PathKind}
use Rattle.definition.specs.declared.usages.HeadUsages.{HeadUsages}
use Rattle.definition.specs.Usages.{no_usages, add_usage, add_usages, add_usages_from_nested}
use Rattle.definition.specs.Heads.{CycleHeads, ignore_at_head}
use Rattle.bits.specs.Masks.{flags}

-- the usages whose flag is set
abbrev pub keep : List Bool → List HeadUsages → List HeadUsages
keep [] us = []
keep (x ∷ xs) [] = []
keep (true ∷ xs) (u ∷ us) = u ∷ keep xs us
keep (false ∷ xs) (u ∷ us) = no_usages ∷ keep xs us

-- a mask that names every index that has usages, and indices only
pub record Names (goals m : ℕ) (us : List HeadUsages) : Type 0 where
  pub all : keep (flags 64 m) us ≡ us
  pub below : (i : ℕ) → get_or (flags 64 m) i false ≡ true → i < goals

-- one usage more of a kind, where n is not 0
abbrev pub used_if : ℕ → HeadUsages → PathKind → HeadUsages
used_if zero u kind = u
used_if (suc n) u kind = add_usage u kind

-- usages are added at index i
abbrev pub add_at : ℕ → HeadUsages → List HeadUsages → List HeadUsages
add_at i u us = set us i (add_usages (get_or us i no_usages) u)

-- those of a nested goal are
abbrev pub add_from_nested_at : List HeadUsages → ℕ → HeadUsages → List HeadUsages
add_from_nested_at us i u = set us i (add_usages_from_nested (get_or us i no_usages) u)

-- usages are taken from the head at index i
abbrev pub ignore_at : ℕ → HeadUsages → CycleHeads → CycleHeads
ignore_at i u hs = set hs i (ignore_at_head (get_or hs i none) u)
