-- A book's bytes, read: one of the refusals 1 to 4, or the book.
use Rattle.std.specs.Prelude.{ℕ, zero, suc, ◌/◌, ◌%◌, Bool, true, false, ◌&&◌, List, [], ◌∷◌, eqb, leb, ltb, length}
use Rattle.std.proofs.Math.Option.{Option, none, some}
use Rattle.definition.specs.declared.format.Line.{Line}
use Rattle.definition.specs.declared.format.Header.{Header}
use Rattle.definition.specs.declared.replies.Refusal.{Refusal}
use Rattle.definition.specs.declared.replies.Refusal.TheVariants.{BookLength, BookLine, BookHeader, BookBody, Unreachable}
use Rattle.definition.specs.Paths.{kind_of}
use Rattle.definition.specs.Part.{Op, All, Any, Pick, Part, Parts, Call, Node, UndecidedLine, End, Then, Book}
use Rattle.definition.specs.Line.{read_lines}

-- what is read off the front of the lines, and the lines after it
pub record TakenPart : Type 0 where
  pub part : Part
  pub rest : List Line

pub record TakenParts : Type 0 where
  pub parts : Parts
  pub rest : List Line

pub record TakenGoals : Type 0 where
  pub parts : List Part
  pub rest : List Line

-- ---- a part
abbrev pub read_call : ℕ → Line → List Line → Option TakenPart
read_call goals l rest =
    elim (ltb l.first goals && leb l.second 3 && leb l.third 1 && eqb l.fourth 0) [
      | true ↦ some (record { part = Call l.first (kind_of l.second) (eqb l.third 1); rest = rest })
      | false ↦ none
    ]

abbrev pub read_undecided : Line → List Line → Option TakenPart
read_undecided l rest =
    elim (eqb l.first 0 && eqb l.second 0 && eqb l.third 0 && eqb l.fourth 0) [
      | true ↦ some (record { part = UndecidedLine; rest = rest })
      | false ↦ none
    ]

-- only the code and the first number are used
abbrev pub uses_first : Line → Bool
uses_first l = eqb l.second 0 && eqb l.third 0 && eqb l.fourth 0

-- n parts, each read by `read`
abbrev pub read_parts : (List Line → Option TakenPart) → ℕ → List Line → Option TakenParts
read_parts read zero ls = some (record { parts = End; rest = ls })
read_parts read (suc n) ls =
    elim (read ls) [
      | none ↦ none
      | some p ↦
          elim (read_parts read n p.rest) [
            | none ↦ none
            | some ps ↦ some (record { parts = Then p.part ps.parts; rest = ps.rest })
          ]
    ]

abbrev pub node_of : Op → Option TakenParts → Option TakenPart
node_of op none = none
node_of op (some ps) = some (record { part = Node op ps.parts; rest = ps.rest })

abbrev pub read_node : Op → (List Line → Option TakenPart) → Line → List Line → Option TakenPart
read_node op read l rest = elim (uses_first l) [ true ↦ node_of op (read_parts read l.first rest) | false ↦ none ]

-- a pick never stands inside a pick
abbrev pub read_pick : Bool → (List Line → Option TakenPart) → Line → List Line → Option TakenPart
read_pick in_pick read l rest = elim in_pick [ true ↦ none | false ↦ read_node Pick read l rest ]

-- a part by its line's code; `inner` reads a part below it, told whether that stands inside a pick
abbrev pub read_by_code : ℕ → ℕ → Bool → (Bool → List Line → Option TakenPart) → Line → List Line → Option TakenPart
read_by_code goals zero in_pick inner l rest = none
read_by_code goals (suc zero) in_pick inner l rest = none
read_by_code goals (suc (suc zero)) in_pick inner l rest = read_call goals l rest
read_by_code goals (suc (suc (suc zero))) in_pick inner l rest = read_node All (inner in_pick) l rest
read_by_code goals (suc (suc (suc (suc zero)))) in_pick inner l rest = read_node Any (inner in_pick) l rest
read_by_code goals (suc (suc (suc (suc (suc zero))))) in_pick inner l rest = read_pick in_pick (inner true) l rest
read_by_code goals (suc (suc (suc (suc (suc (suc zero)))))) in_pick inner l rest = read_undecided l rest
read_by_code goals (suc (suc (suc (suc (suc (suc (suc n))))))) in_pick inner l rest = none

abbrev pub read_first : ℕ → Bool → (Bool → List Line → Option TakenPart) → List Line → Option TakenPart
read_first goals in_pick inner [] = none
read_first goals in_pick inner (l ∷ rest) = read_by_code goals l.code in_pick inner l rest

-- a part that nests at most `depth` deep
abbrev pub read_part : ℕ → ℕ → Bool → List Line → Option TakenPart
read_part goals zero in_pick ls = none
read_part goals (suc depth) in_pick ls = read_first goals in_pick (read_part goals depth) ls

abbrev pub nesting_limit : ℕ
nesting_limit = 8

-- ---- the goals in order, each with its part
abbrev pub is_goal_line : ℕ → Line → Bool
is_goal_line g l = eqb l.code 1 && eqb l.first g && uses_first l

abbrev pub read_goal : ℕ → ℕ → List Line → Option TakenPart
read_goal goals g [] = none
read_goal goals g (l ∷ rest) = elim (is_goal_line g l) [ true ↦ read_part goals nesting_limit false rest | false ↦ none ]

-- n goals from goal g on
abbrev pub read_goals : ℕ → ℕ → ℕ → List Line → Option TakenGoals
read_goals goals g zero ls = some (record { parts = []; rest = ls })
read_goals goals g (suc n) ls =
    elim (read_goal goals g ls) [
      | none ↦ none
      | some p ↦
          elim (read_goals goals (suc g) n p.rest) [
            | none ↦ none
            | some ps ↦ some (record { parts = p.part ∷ ps.parts; rest = ps.rest })
          ]
    ]

-- ---- the book
pub data BookRead : Type 0 where
  Accepted : Book → BookRead
  Rejected : Refusal → BookRead

-- nothing stands after the last part
abbrev pub end_of_body : Header → TakenGoals → List Line → BookRead
end_of_body h ps (l ∷ ls) = Rejected BookBody
end_of_body h ps [] = Accepted (record { header = h; parts = ps.parts })

abbrev pub read_body : Header → List Line → BookRead
read_body h ls =
    elim (read_goals h.goals 0 h.goals ls) [ none ↦ Rejected BookBody | some ps ↦ end_of_body h ps ps.rest ]

abbrev pub header_in_range : Line → Bool
header_in_range l =
    leb l.code 1 && leb 1 l.first && leb l.first 64 && leb l.second 63 && leb l.third 99
    && leb 1 l.fourth && leb l.fourth 99

abbrev pub header_of : Line → Header
header_of l =
    record { provisional = eqb l.code 1; goals = l.first; top = l.second; limit = l.third; divisor = l.fourth }

-- a book of the right length has lines
abbrev pub read_header : List Line → BookRead
read_header [] = Rejected Unreachable
read_header (l ∷ ls) = elim (header_in_range l) [ true ↦ read_body (header_of l) ls | false ↦ Rejected BookHeader ]

abbrev pub length_in_range : ℕ → Bool
length_in_range n = eqb (n % 16) 0 && leb 48 n && leb n 16000

abbrev pub lines_of : List ℕ → Option (List Line)
lines_of bytes = read_lines (length bytes / 16) bytes

abbrev pub read_book : List ℕ → BookRead
read_book bytes =
    elim (length_in_range (length bytes)) [
      | false ↦ Rejected BookLength
      | true ↦ elim (lines_of bytes) [ none ↦ Rejected BookLine | some ls ↦ read_header ls ]
    ]
