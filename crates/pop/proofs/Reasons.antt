-- `reason_of`, by the numbers of the endings' variants.
use mathlib.Core.Path.{◌≡◌, refl}
use mathlib.Core.List.{[], ◌∷◌}
use types.Run.{OneOf, miss}
use denote.Enum.Declared.{tag_of}
use Rattle.definition.specs.declared.answers.Answer.TheVariants.{Overflow}
use Rattle.definition.specs.declared.endings.RebaseReason.TheVariants.{Ambiguity}
use Rattle.definition.specs.declared.endings.Ending.{Ending}
use Rattle.definition.specs.declared.endings.Ending.TheVariants as ending
use Rattle.definition.specs.contracts.endings.Ending.{the_type}
use Rattle.pop.specs.Rebased.{reason_of}

pub reason_else : (e : Ending) → OneOf (0 ∷ 4 ∷ 5 ∷ []) (tag_of the_type e) → Ambiguity Overflow ≡ reason_of e
reason_else ending.Nothing k = refl
reason_else (ending.Fixpoint fixpoint) k = absurd (miss (0 ∷ 4 ∷ 5 ∷ []) 1 tt k)
reason_else ending.NoUsages k = absurd (miss (0 ∷ 4 ∷ 5 ∷ []) 2 tt k)
reason_else (ending.Ambiguity kind) k = absurd (miss (0 ∷ 4 ∷ 5 ∷ []) 3 tt k)
reason_else ending.Overflow k = refl
reason_else ending.Rerun k = refl
