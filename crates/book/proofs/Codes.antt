-- A part by what its line's code says.
use mathlib.Core.Path.{◌≡◌, refl}
use mathlib.Core.Bool.{Bool, true, false}
use mathlib.Core.Option.{Option, none}
use mathlib.Core.List.{List}
use Prim.Native.Nat.{ℕ, zero, suc, ◌≤◌}
use native.Mathlib.Omega.{arith}
use lib.Dec.{eqb}
use borrow.Author.Tests.{ne_eqb}
use Rattle.definition.specs.declared.format.Line.{Line}
use Rattle.definition.specs.Reader.{TakenPart, read_call, read_undecided, read_node, read_pick, read_by_code}
use Rattle.book.specs.declared.code.Op.TheVariants as kinds
use Rattle.book.specs.declared.code.Code.{Code}
use Rattle.book.specs.declared.code.Code.TheVariants as codes
use Rattle.book.specs.Codes.{code_of, op_of, is_node, count_below}

abbrev pub is_goal : Code → Bool
is_goal codes.Goal = true
is_goal codes.Call = false
is_goal (codes.Group op) = false
is_goal codes.Pick = false
is_goal codes.Undecided = false
is_goal codes.Unknown = false

pub no_goal : (code : Code) → (code ≡ codes.Goal → ⊥) → is_goal code ≡ false
no_goal codes.Goal h = absurd (h refl)
no_goal codes.Call h = refl
no_goal (codes.Group op) h = refl
no_goal codes.Pick h = refl
no_goal codes.Undecided h = refl
no_goal codes.Unknown h = refl

module _ (goals : ℕ) (p : Bool) (inner : Bool → List Line → Option TakenPart) (l : Line) (ls : List Line) where
  abbrev pub read_as : Code → Option TakenPart
  read_as codes.Goal = none
  read_as codes.Call = read_call goals l ls
  read_as (codes.Group op) = read_node (op_of op) (inner p) l ls
  read_as codes.Pick = read_pick p (inner true) l ls
  read_as codes.Undecided = read_undecided l ls
  read_as codes.Unknown = none

  pub read_as_lem : (n : ℕ) → read_by_code goals n p inner l ls ≡ read_as (code_of n)
  read_as_lem zero = refl
  read_as_lem (suc zero) = refl
  read_as_lem (suc (suc zero)) = refl
  read_as_lem (suc (suc (suc zero))) = refl
  read_as_lem (suc (suc (suc (suc zero)))) = refl
  read_as_lem (suc (suc (suc (suc (suc zero))))) = refl
  read_as_lem (suc (suc (suc (suc (suc (suc zero)))))) = refl
  read_as_lem (suc (suc (suc (suc (suc (suc (suc n))))))) = refl

-- a goal's line has the code 1, and no other line
pub goal_number : (n : ℕ) → eqb n 1 ≡ is_goal (code_of n)
goal_number zero = refl
goal_number (suc zero) = refl
goal_number (suc (suc zero)) = refl
goal_number (suc (suc (suc zero))) = refl
goal_number (suc (suc (suc (suc zero)))) = refl
goal_number (suc (suc (suc (suc (suc zero))))) = refl
goal_number (suc (suc (suc (suc (suc (suc zero)))))) = refl
goal_number (suc (suc (suc (suc (suc (suc (suc n))))))) =
    ne_eqb (suc (suc (suc (suc (suc (suc (suc n))))))) 1 (λ e. omega arith)

-- a known code's number
abbrev pub code_number : Code → ℕ
code_number codes.Goal = 1
code_number codes.Call = 2
code_number (codes.Group kinds.All) = 3
code_number (codes.Group kinds.Any) = 4
code_number codes.Pick = 5
code_number codes.Undecided = 6
code_number codes.Unknown = 0

pub code_number_lem : (n : ℕ) → (code_of n ≡ codes.Unknown → ⊥) → code_number (code_of n) ≡ n
code_number_lem zero h = refl
code_number_lem (suc zero) h = refl
code_number_lem (suc (suc zero)) h = refl
code_number_lem (suc (suc (suc zero))) h = refl
code_number_lem (suc (suc (suc (suc zero)))) h = refl
code_number_lem (suc (suc (suc (suc (suc zero))))) h = refl
code_number_lem (suc (suc (suc (suc (suc (suc zero)))))) h = refl
code_number_lem (suc (suc (suc (suc (suc (suc (suc n))))))) h = absurd (h refl)

-- a known code has one digit
pub known_digit : (n : ℕ) → (code_of n ≡ codes.Unknown → ⊥) → n ≤ 6
known_digit zero h = omega arith
known_digit (suc zero) h = omega arith
known_digit (suc (suc zero)) h = omega arith
known_digit (suc (suc (suc zero))) h = omega arith
known_digit (suc (suc (suc (suc zero)))) h = omega arith
known_digit (suc (suc (suc (suc (suc zero))))) h = omega arith
known_digit (suc (suc (suc (suc (suc (suc zero)))))) h = omega arith
known_digit (suc (suc (suc (suc (suc (suc (suc n))))))) h = absurd (h refl)

-- parts stand below a group and a pick, and below no other line
pub some_below : (code : Code) (n : ℕ) → is_node code ≡ true → count_below code n ≡ n
some_below codes.Goal n e = cc
some_below codes.Call n e = cc
some_below (codes.Group op) n e = refl
some_below codes.Pick n e = refl
some_below codes.Undecided n e = cc
some_below codes.Unknown n e = cc

pub none_below : (code : Code) (n : ℕ) → is_node code ≡ false → count_below code n ≡ 0
none_below codes.Goal n e = refl
none_below codes.Call n e = refl
none_below (codes.Group op) n e = cc
none_below codes.Pick n e = cc
none_below codes.Undecided n e = refl
none_below codes.Unknown n e = refl
