-- What the code of a line says.
use Rattle.std.specs.Prelude.{ℕ, zero, suc, Bool, true, false}
use Rattle.definition.specs.declared.format.Line.{Line}
use Rattle.definition.specs.Part as part
use Rattle.book.specs.declared.code.Op.{Op}
use Rattle.book.specs.declared.code.Op.TheVariants.{All, Any}
use Rattle.book.specs.declared.code.Code.{Code}
use Rattle.book.specs.declared.code.Code.TheVariants.{Goal, Call, Group, Pick, Undecided, Unknown}

-- the definition's name
abbrev pub op_of : Op → part.Op
op_of All = part.All
op_of Any = part.Any

abbrev pub code_of : ℕ → Code
code_of zero = Unknown
code_of (suc zero) = Goal
code_of (suc (suc zero)) = Call
code_of (suc (suc (suc zero))) = Group All
code_of (suc (suc (suc (suc zero)))) = Group Any
code_of (suc (suc (suc (suc (suc zero))))) = Pick
code_of (suc (suc (suc (suc (suc (suc zero)))))) = Undecided
code_of (suc (suc (suc (suc (suc (suc (suc n))))))) = Unknown

-- all or any
abbrev pub is_group : Code → Bool
is_group Goal = false
is_group Call = false
is_group (Group op) = true
is_group Pick = false
is_group Undecided = false
is_group Unknown = false

-- all, any or pick
abbrev pub is_node : Code → Bool
is_node Goal = false
is_node Call = false
is_node (Group op) = true
is_node Pick = true
is_node Undecided = false
is_node Unknown = false

-- how many parts stand below a part's first line: n, where it starts a group or a pick
abbrev pub count_below : Code → ℕ → ℕ
count_below Goal n = 0
count_below Call n = 0
count_below (Group op) n = n
count_below Pick n = n
count_below Undecided n = 0
count_below Unknown n = 0

abbrev pub parts_below : Line → ℕ
parts_below l = count_below (code_of l.code) l.first
