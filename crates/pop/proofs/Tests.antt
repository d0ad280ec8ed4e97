-- The four kinds of paths, one after the other.
use mathlib.Core.Path.{◌≡◌, refl, ap, ◌∙◌}
use mathlib.Core.Bool.{Bool, true, false, not, ◌&&◌, ◌||◌}
use Rattle.std.specs.List.{list_all}
use mathlib.Core.List.{List, [], ◌∷◌}
use Prim.Native.Nat.{ℕ}
use lib.Dec.{leb}
use Rattle.definition.specs.declared.paths.PathKind.{PathKind}
use Rattle.definition.specs.Paths.{kind_number, extend, contains_path, contained_in}
use Rattle.pop.specs.Popped.{bound_keeps}

-- ---- one kind of those in p
abbrev first : ℕ → PathKind → List PathKind → Bool → List PathKind
first p k ks t = elim t [ true ↦ k ∷ contained_in p ks | false ↦ contained_in p ks ]

-- a test of each of the kinds
pub keeps_each : (p bound : ℕ) (path : PathKind) (ks : List PathKind)
    → list_all (λ (k : PathKind). not (contains_path p k) || leb (kind_number (extend k path)) bound) ks ≡ bound_keeps bound path (contained_in p ks)
keeps_each p bound path [] = refl
keeps_each p bound path (k ∷ ks) =
    ap (λ (x : Bool). (not (contains_path p k) || leb (kind_number (extend k path)) bound) && x) (keeps_each p bound path ks)
    ∙ by (contains_path p k)
  where
    by : (t : Bool) → ((not t || leb (kind_number (extend k path)) bound) && bound_keeps bound path (contained_in p ks)) ≡ bound_keeps bound path (first p k ks t)
    by true = refl
    by false = refl
