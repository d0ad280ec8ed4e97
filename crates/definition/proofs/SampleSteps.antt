-- Steps are counted by their kinds: a wrong version of specs/Steps.antt makes this false.
use mathlib.Core.Path.{◌≡◌, refl}
use mathlib.Core.List.{[], ◌∷◌}
use Rattle.definition.specs.declared.paths.PathKind.TheVariants.{Inductive, Unknown, Coinductive, ForcedAmbiguity}
use Rattle.definition.specs.Steps.{count_steps}

counted : count_steps (Unknown ∷ Inductive ∷ Unknown ∷ ForcedAmbiguity ∷ Coinductive ∷ Unknown ∷ Coinductive ∷ [])
    ≡ record { inductive = 1; unknown = 3; coinductive = 2; forced = 1 }
counted = refl
