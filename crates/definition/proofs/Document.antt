-- The examples of document 01.
use Prim.Native.Nat.{ℕ, ◌<◌}
use mathlib.Core.Path.{◌≡◌, refl}
use mathlib.Core.List.{List, [], ◌∷◌}
use lib.ListN.{replicate, take, get_or}
use Rattle.definition.specs.declared.replies.Refusal.TheVariants.{ProvisionalCacheFull, CacheConflict}
use Rattle.std.specs.Prelude.{Err}
use Rattle.definition.specs.Answers.{combine}
use Rattle.definition.specs.Usages.{counter_limit}
use Rattle.definition.specs.Query.{query, work_length}
use Rattle.definition.proofs.Example.{line, book, Example, Right, reply_to, no_example, each_right, work_for}

-- ---- the table: books of one goal, T 5, V 1, cache on
abbrev pub row : List (List ℕ) → ℕ → ℕ → ℕ → Example
row part limit depth answer =
    record {
      bytes = book (line 1 1 5 limit 1 ∷ line 1 0 0 0 0 ∷ part);
      goals = 1;
      cache_length = 35;
      goal = 0;
      depth = depth;
      answer = answer;
      refusal = 0;
    }

-- a call of goal 0
abbrev pub call : ℕ → ℕ → List ℕ
call kind lower = line 2 0 kind lower 0

-- an all of none
abbrev pub yes : List ℕ
yes = line 3 0 0 0 0

abbrev pub table : List Example
table =
    row (line 4 0 0 0 0 ∷ []) 1 0 0
    ∷ row (yes ∷ []) 1 0 1
    ∷ row (line 6 0 0 0 0 ∷ []) 1 0 2
    ∷ row (call 0 1 ∷ []) 1 1 0
    ∷ row (call 1 1 ∷ []) 1 1 2
    ∷ row (call 2 1 ∷ []) 1 1 1
    ∷ row (call 3 1 ∷ []) 1 1 3
    ∷ row (call 0 1 ∷ []) 1 0 3
    ∷ row (call 0 0 ∷ []) 1 0 0
    ∷ row (line 4 2 0 0 0 ∷ call 0 1 ∷ yes ∷ []) 1 1 3
    ∷ row (line 4 2 0 0 0 ∷ call 0 1 ∷ yes ∷ []) 2 1 1
    ∷ row (line 5 2 0 0 0 ∷ call 0 1 ∷ yes ∷ []) 1 1 1
    ∷ []

-- the twelve examples
pub examples : (k : ℕ) → k < 12 → Right (get_or table k no_example)
unfolding counter_limit combine
examples = each_right table tt

-- after line four the success slot is 1, 0, 1, 1, 3
pub slot_after_four : take 5 (reply_to (get_or table 3 no_example)).cache ≡ 1 ∷ 0 ∷ 1 ∷ 1 ∷ 3 ∷ []
unfolding counter_limit combine
slot_after_four = refl

-- refusal 10: goal 0 a pick of eight calls; the seventh entry is one too many
abbrev pub book10 : List ℕ
book10 =
    book (line 1 3 2 1 1 ∷ line 1 0 0 0 0 ∷ line 5 8 0 0 0
    ∷ line 2 1 0 1 0 ∷ line 2 2 0 1 0 ∷ line 2 1 1 1 0 ∷ line 2 2 1 1 0 ∷ line 2 1 2 1 0 ∷ line 2 2 2 1 0 ∷ line 2 1 3 1 0 ∷ line 2 2 3 1 0
    ∷ line 1 1 0 0 0 ∷ line 2 0 0 1 0 ∷ line 1 2 0 0 0 ∷ line 2 0 0 1 0 ∷ [])

pub refusal_10 : query book10 (replicate 84 0) (work_for 3) 0 2
    ≡ record { response = Err ProvisionalCacheFull; cache = replicate 84 0; work = replicate (work_length 3) 0 }
unfolding counter_limit combine
refusal_10 = refl

-- refusal 11: a cache written by hand says Yes, required depth 5, for an empty any, asked at depth 3
pub refusal_11 : query (get_or table 0 no_example).bytes (1 ∷ 1 ∷ 5 ∷ 1 ∷ 0 ∷ replicate 30 0) (work_for 1) 0 3
    ≡ record { response = Err CacheConflict; cache = replicate 35 0; work = replicate (work_length 1) 0 }
unfolding counter_limit combine
refusal_11 = refl
