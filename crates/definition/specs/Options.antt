-- The code's optional value as the definition's.
use Rattle.std.specs.Prelude.{Option as Maybe, Some, None}
use Rattle.std.proofs.Math.Option.{Option, none, some}

abbrev pub maybe_of : {A : Type 0} → Maybe A → Option A
maybe_of None = none
maybe_of (Some x) = some x
