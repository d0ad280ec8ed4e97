-- `NestedGoals` of mod.rs: at place g of the list, the paths to goal g, 0 where it is absent. These are the last bytes of a slot.
use Rattle.std.specs.Prelude.{ℕ, Bool, true, not, ◌&&◌, List, [], ◌∷◌, eqb, get_or, set, replicate}
use Rattle.std.specs.Int.Bits.{bit_or}
use Rattle.definition.specs.declared.paths.PathKind.{PathKind}
use Rattle.definition.specs.Paths.{extend_with}

abbrev pub NestedGoals : Type 0
NestedGoals = List ℕ

abbrev pub no_nested_goals : ℕ → NestedGoals
no_nested_goals goals = replicate goals 0

abbrev pub nested_empty : NestedGoals → Bool
nested_empty [] = true
nested_empty (p ∷ ps) = eqb p 0 && nested_empty ps

abbrev pub nested_contains : NestedGoals → ℕ → Bool
nested_contains ns g = not (eqb (get_or ns g 0) 0)

abbrev pub insert_nested : NestedGoals → ℕ → ℕ → NestedGoals
insert_nested ns g p = set ns g (bit_or (get_or ns g 0) p)

abbrev pub extend_from_child : NestedGoals → PathKind → NestedGoals → NestedGoals
extend_from_child [] k cs = []
extend_from_child (p ∷ ps) k [] = p ∷ ps
extend_from_child (p ∷ ps) k (c ∷ cs) = bit_or p (extend_with c k) ∷ extend_from_child ps k cs
