-- Books of one goal with their bytes and lines, and queries: what the samples speak of.
use mathlib.Core.Bool.{true}
use mathlib.Core.List.{List, [], ◌++◌, ◌∷◌}
use Prim.Native.Nat.{◌+◌, ℕ}
use lib.ListN.{replicate}
use Rattle.definition.specs.Part.{Any, Book, Call, End, Node, Then}
use Rattle.definition.specs.Query.{work_length}
use Rattle.definition.specs.declared.format.Header.{Header}
use Rattle.definition.specs.declared.format.Line.{Line}
use Rattle.definition.specs.declared.paths.PathKind.{PathKind}
use Rattle.definition.specs.declared.paths.PathKind.TheVariants.{Coinductive, Inductive}
use Rattle.soundness.specs.Statement.{Query}

-- a line of five digits
abbrev field : ℕ → List ℕ
field d = 32 ∷ 32 ∷ (48 + d) ∷ []

abbrev digits : ℕ → ℕ → ℕ → ℕ → ℕ → List ℕ
digits a b c d e = field a ++ (field b ++ (field c ++ (field d ++ (field e ++ (10 ∷ [])))))

abbrev pub line : ℕ → ℕ → ℕ → ℕ → ℕ → Line
line a b c d e = record { code = a; first = b; second = c; third = d; fourth = e }

-- L 1, V 1, cache on
abbrev pub header : ℕ → ℕ → Header
header goals top = record { provisional = true; goals = goals; top = top; limit = 1; divisor = 1 }

-- ---- one goal, T 5; its part is a call of itself
abbrev pub bytes : ℕ → List ℕ
bytes kind = digits 1 1 5 1 1 ++ (digits 1 0 0 0 0 ++ digits 2 0 kind 1 0)

abbrev pub book : PathKind → Book
book kind = record { header = header 1 5; parts = Call 0 kind true ∷ [] }

abbrev pub lines : ℕ → List Line
lines kind = line 1 1 5 1 1 ∷ line 1 0 0 0 0 ∷ line 2 0 kind 1 0 ∷ []

-- ---- one goal, T 5; its part is an empty all
abbrev pub empty_all : List ℕ
empty_all = digits 1 1 5 1 1 ++ (digits 1 0 0 0 0 ++ digits 3 0 0 0 0)

-- ---- two goals, each a group, T 5, L 2: goal 0 calls itself by an inductive step, goal 1 itself by a coinductive
-- one, and goal 0
abbrev pub mixed_bytes : List ℕ
mixed_bytes =
    digits 1 2 5 2 1
    ++ (digits 1 0 0 0 0 ++
    (digits 2 0 0 1 0 ++ (digits 1 1 0 0 0 ++ (digits 4 2 0 0 0 ++ (digits 2 0 0 1 0 ++ digits 2 1 2 1 0)))))

abbrev pub mixed_lines : List Line
mixed_lines =
    line 1 2 5 2 1 ∷ line 1 0 0 0 0 ∷ line 2 0 0 1 0 ∷ line 1 1 0 0 0 ∷ line 4 2 0 0 0 ∷ line 2 0 0 1 0 ∷ line 2 1 2 1 0
    ∷ []

abbrev pub mixed_book : Book
mixed_book =
    record {
      header = record { provisional = true; goals = 2; top = 5; limit = 2; divisor = 1 };
      parts = Call 0 Inductive true ∷ Node Any (Then (Call 0 Inductive true) (Then (Call 1 Coinductive true) End)) ∷ [];
    }

abbrev pub mixed_queries : List Query
mixed_queries =
    record { goal = 1; depth = 5; work = replicate (work_length 2) 7 } ∷ record
    { goal = 0; depth = 5; work = replicate (work_length 2) 7 } ∷ []

-- ---- one goal, T 5, L 2, that calls itself by a step of either kind
abbrev pub torn_bytes : List ℕ
torn_bytes = digits 1 1 5 2 1 ++ (digits 1 0 0 0 0 ++ (digits 4 2 0 0 0 ++ (digits 2 0 0 1 0 ++ digits 2 0 2 1 0)))

abbrev pub torn_book : Book
torn_book =
    record {
      header = record { provisional = true; goals = 1; top = 5; limit = 2; divisor = 1 };
      parts = Node Any (Then (Call 0 Inductive true) (Then (Call 0 Coinductive true) End)) ∷ [];
    }

-- ---- queries of goal 0
abbrev pub workspace : List ℕ
workspace = replicate (work_length 1) 7

abbrev pub at_depth : ℕ → Query
at_depth depth = record { goal = 0; depth = depth; work = workspace }

-- a query at depth 1, one that is refused, and the first again at depth 5
abbrev pub queries : List Query
queries = at_depth 1 ∷ record { goal = 3; depth = 1; work = [] } ∷ at_depth 5 ∷ []
