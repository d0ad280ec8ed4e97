-- What the results of the functions on frames stand for.
use Rattle.std.specs.Prelude.{◌≡◌, Bool, true, false, List, ℕ, ◌<◌}
use Rattle.std.specs.Prelude.{Option as Maybe, Some, None}
use Rattle.std.proofs.Math.Option.{Option, none, some}
use Rattle.definition.specs.declared.format.Header.{Header}
use Rattle.definition.specs.Options.{maybe_of}
use Rattle.definition.specs.Stack as definition
use Rattle.definition.specs.Lookup.{allowed_depth_for_nested}
use Rattle.layout.specs.Work.{stack_of}
use Rattle.stack.specs.declared.OnStack.{OnStack}

abbrev pub is_some : {A : Type 0} → Option A → Bool
is_some none = false
is_some (some x) = true

-- a frame that was found, in the definition's words
abbrev pub on_stack_of : OnStack → definition.OnStack
on_stack_of o = record { index = o.index; provisional_result = maybe_of o.provisional_result }

abbrev pub found_of : Maybe OnStack → Option definition.OnStack
found_of None = none
found_of (Some o) = some (on_stack_of o)

-- what `find` answers; an index is below the height
pub record Found (goals height : ℕ) (graph : List ℕ) (goal : ℕ) (r : Maybe OnStack) : Type 0 where
  pub is : found_of r ≡ definition.stack_find (stack_of goals height graph) goal
  pub below : (o : OnStack) → r ≡ Some o → o.index < height

-- the depth for a nested goal; one that is allowed fits a byte
pub record NestedDepth (root divisor : ℕ) (s : definition.Stack) (lower : Bool) (r : Maybe ℕ) : Type 0 where
  pub is : (h : Header) → h.divisor ≡ divisor → maybe_of r ≡ allowed_depth_for_nested h root s lower
  pub small : (d : ℕ) → r ≡ Some d → d < 256
