-- A book that was read: its header, and for each goal a part, which is a tree.
use Rattle.std.specs.Prelude.{ℕ, zero, suc, Bool, List, [], ◌∷◌}
use Rattle.std.proofs.Math.Option.{Option, none, some}
use Rattle.definition.specs.declared.paths.PathKind.{PathKind}
use Rattle.definition.specs.declared.format.Header.{Header}

pub data Op : Type 0 where
  All Any Pick : Op

mutual
  pub data Part : Type 0 where
    -- a goal, the kind of the step, and whether it lowers the available depth
    Call : ℕ → PathKind → Bool → Part
    Node : Op → Parts → Part
    UndecidedLine : Part

  pub data Parts : Type 0 where
    End : Parts
    Then : Part → Parts → Parts

pub record Book : Type 0 where
  pub header : Header
  pub parts : List Part

-- the part of a goal
abbrev pub part_at : List Part → ℕ → Option Part
part_at [] goal = none
part_at (p ∷ ps) zero = some p
part_at (p ∷ ps) (suc goal) = part_at ps goal
