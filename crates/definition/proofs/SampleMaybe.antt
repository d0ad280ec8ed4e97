-- Document 02, item 4, on small books: which of 2 and 3 is seen. A book has one goal and is asked at depth 0, where its
-- call of itself overflows.
use Prim.Native.Nat.{ℕ, ◌<◌}
use mathlib.Core.List.{List, [], ◌∷◌}
use lib.ListN.{get_or}
use Rattle.definition.specs.Answers.{combine}
use Rattle.definition.specs.Usages.{counter_limit}
use Rattle.definition.proofs.Example.{line, Example, Right, no_example, each_right}
use Rattle.definition.proofs.Document.{row, call, yes}

abbrev all : ℕ → List ℕ
all n = line 3 n 0 0 0

abbrev any : ℕ → List ℕ
any n = line 4 n 0 0 0

abbrev pick : ℕ → List ℕ
pick n = line 5 n 0 0 0

abbrev never : List ℕ
never = any 0

abbrev undecided : List ℕ
undecided = line 6 0 0 0 0

abbrev overflow : List ℕ
overflow = call 0 1

abbrev pub table : List Example
table =
    -- both were met, in either order
    row (all 2 ∷ undecided ∷ overflow ∷ []) 1 0 2
    ∷ row (all 2 ∷ overflow ∷ undecided ∷ []) 1 0 2
    ∷ row (any 2 ∷ undecided ∷ overflow ∷ []) 1 0 2
    ∷ row (any 2 ∷ overflow ∷ undecided ∷ []) 1 0 2
    ∷ row (pick 2 ∷ undecided ∷ overflow ∷ []) 1 0 2
    ∷ row (pick 2 ∷ overflow ∷ undecided ∷ []) 1 0 2
    -- and what does not decide beside them
    ∷ row (all 3 ∷ yes ∷ undecided ∷ overflow ∷ []) 1 0 2
    ∷ row (any 3 ∷ never ∷ overflow ∷ undecided ∷ []) 1 0 2
    ∷ row (pick 3 ∷ overflow ∷ never ∷ undecided ∷ []) 1 0 2
    -- what decides, decides
    ∷ row (all 3 ∷ undecided ∷ overflow ∷ never ∷ []) 1 0 0
    ∷ row (any 3 ∷ undecided ∷ overflow ∷ yes ∷ []) 1 0 1
    ∷ row (pick 3 ∷ yes ∷ undecided ∷ overflow ∷ []) 1 0 1
    -- one of them alone
    ∷ row (all 3 ∷ overflow ∷ yes ∷ overflow ∷ []) 1 0 3
    ∷ row (any 2 ∷ undecided ∷ undecided ∷ []) 1 0 2
    ∷ row (pick 2 ∷ never ∷ overflow ∷ []) 1 0 3
    -- a list meets the answers of its own parts, of those that were evaluated
    ∷ row (all 2 ∷ any 2 ∷ undecided ∷ yes ∷ overflow ∷ []) 1 0 3
    ∷ row (any 2 ∷ all 2 ∷ undecided ∷ never ∷ overflow ∷ []) 1 0 3
    ∷ row (all 2 ∷ any 2 ∷ yes ∷ undecided ∷ overflow ∷ []) 1 0 3
    ∷ row (pick 2 ∷ all 2 ∷ overflow ∷ undecided ∷ overflow ∷ []) 1 0 2
    -- the step limit is 3, though its run met a 2
    ∷ row (any 3 ∷ undecided ∷ overflow ∷ yes ∷ []) 1 1 3
    ∷ []

pub maybes : (k : ℕ) → k < 20 → Right (get_or table k no_example)
unfolding counter_limit combine
maybes = each_right table tt
