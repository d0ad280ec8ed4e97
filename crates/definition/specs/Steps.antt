-- Document 02, item 6: how many steps of each kind there are.
use Rattle.std.specs.Prelude.{ℕ, suc, List, [], ◌∷◌}
use Rattle.definition.specs.declared.paths.PathKind.{PathKind}
use Rattle.definition.specs.declared.paths.PathKind.TheVariants.{Inductive, Unknown, Coinductive, ForcedAmbiguity}

pub record StepCounts : Type 0 where
  pub inductive : ℕ
  pub unknown : ℕ
  pub coinductive : ℕ
  pub forced : ℕ

abbrev pub no_steps : StepCounts
no_steps = record { inductive = 0; unknown = 0; coinductive = 0; forced = 0 }

-- one more of a kind
abbrev pub count_step : PathKind → StepCounts → StepCounts
count_step Inductive c =
    record { inductive = suc c.inductive; unknown = c.unknown; coinductive = c.coinductive; forced = c.forced }
count_step Unknown c =
    record { inductive = c.inductive; unknown = suc c.unknown; coinductive = c.coinductive; forced = c.forced }
count_step Coinductive c =
    record { inductive = c.inductive; unknown = c.unknown; coinductive = suc c.coinductive; forced = c.forced }
count_step ForcedAmbiguity c =
    record { inductive = c.inductive; unknown = c.unknown; coinductive = c.coinductive; forced = suc c.forced }

abbrev pub count_steps : List PathKind → StepCounts
count_steps [] = no_steps
count_steps (k ∷ ks) = count_step k (count_steps ks)
