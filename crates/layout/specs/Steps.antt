-- Counts of steps as one number: 16 bits for each kind, the latest kind highest.
use Rattle.std.specs.Prelude.{ℕ, zero, suc, ◌+◌, ◌*◌, ◌/◌, ◌%◌, ◌<◌}
use Rattle.definition.specs.declared.paths.PathKind.{PathKind}
use Rattle.definition.specs.declared.paths.PathKind.TheVariants.{Inductive, Unknown, Coinductive, ForcedAmbiguity}
use Rattle.definition.specs.Steps.{StepCounts}

unfoldable pub packed : StepCounts → ℕ
packed c = c.inductive + 65536 * (c.unknown + 65536 * (c.coinductive + 65536 * c.forced))

-- one step of a kind
abbrev pub weight_of : PathKind → ℕ
weight_of Inductive = 1
weight_of Unknown = 65536
weight_of Coinductive = 4294967296
weight_of ForcedAmbiguity = 281474976710656

-- the counts that a number holds
unfoldable pub unpacked : ℕ → StepCounts
unpacked n =
    record {
      inductive = n % 65536;
      unknown = n / 65536 % 65536;
      coinductive = n / 65536 / 65536 % 65536;
      forced = n / 65536 / 65536 / 65536;
    }

-- all kinds together
abbrev pub total : StepCounts → ℕ
total c = c.inductive + c.unknown + c.coinductive + c.forced

-- there is room for one more in the 16 bits of each
abbrev pub Few : StepCounts → Type 0
Few c = total c < 65535

-- the latest kind of which there is a step, inductive where there is none
abbrev pub latest_of : ℕ → ℕ → ℕ → PathKind
latest_of (suc forced) coinductive unknown = ForcedAmbiguity
latest_of zero (suc coinductive) unknown = Coinductive
latest_of zero zero (suc unknown) = Unknown
latest_of zero zero zero = Inductive

abbrev pub latest_kind : StepCounts → PathKind
latest_kind c = latest_of c.forced c.coinductive c.unknown
