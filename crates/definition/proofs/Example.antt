-- Books written as lines of numbers, queries on them, and what examples prove.
use Prim.Native.Nat.{ℕ, zero, suc, ◌+◌, ◌/◌, ◌%◌, ◌<◌}
use native.Mathlib.Nat.{not-suc-le-zero, le_of_suc-le-suc}
use mathlib.Core.Path.{◌≡◌}
use mathlib.Core.Bool.{Bool, true, false, ◌&&◌}
use mathlib.Core.List.{List, [], ◌∷◌, ◌++◌}
use lib.Dec.{eqb, T, eqb→eq}
use lib.ListN.{length, replicate, get_or, take}
use Rattle.definition.specs.Answers.{response_answer, response_refusal}
use Rattle.definition.specs.Query.{Reply, query, work_length}
use Rattle.definition.proofs.Tests.{and_left, and_right}

-- ---- a book's bytes

-- a digit, or a space where no digit stands before it
abbrev pub leading : ℕ → ℕ → ℕ
leading before zero = elim (eqb before 0) [ true ↦ 32 | false ↦ 48 ]
leading before (suc d) = 49 + d

abbrev pub field : ℕ → List ℕ
field n = leading 0 (n / 100) ∷ leading (n / 100) (n / 10 % 10) ∷ (48 + n % 10) ∷ []

abbrev pub line : ℕ → ℕ → ℕ → ℕ → ℕ → List ℕ
line a b c d e = field a ++ (field b ++ (field c ++ (field d ++ (field e ++ (10 ∷ [])))))

abbrev pub book : List (List ℕ) → List ℕ
book [] = []
book (l ∷ ls) = l ++ book ls

-- n bytes as one number, the first byte lowest
abbrev pub bytes : ℕ → ℕ → List ℕ
bytes zero x = []
bytes (suc n) x = x % 256 ∷ bytes n (x / 256)

-- ---- queries in a row on one book, and the original's replies

-- the workspace is given full of 7; `workSeen` of its bytes are compared afterwards, and must be `workByte`
pub record Expected : Type 0 where
  pub goal : ℕ
  pub depth : ℕ
  pub work_length : ℕ
  pub answer : ℕ
  pub refusal : ℕ
  pub work_byte : ℕ
  pub work_seen : ℕ
  pub cache : List ℕ

abbrev pub same : List ℕ → List ℕ → Bool
same [] [] = true
same [] (y ∷ ys) = false
same (x ∷ xs) [] = false
same (x ∷ xs) (y ∷ ys) = eqb x y && same xs ys

abbrev pub replied : Reply → Expected → Bool
replied r e =
    eqb (response_answer r.response) e.answer && eqb (response_refusal r.response) e.refusal
    && same r.cache e.cache && same (take e.work_seen r.work) (replicate e.work_seen e.work_byte)

-- each query has the cache that the one before left
abbrev pub agrees : List ℕ → List ℕ → List Expected → Bool
agrees bs cache [] = true
agrees bs cache (e ∷ es) =
    replied (query bs cache (replicate e.work_length 7) e.goal e.depth) e && agrees bs e.cache es

-- ---- a query on a cache of zeros: what it must come to
pub record Example : Type 0 where
  pub bytes : List ℕ
  pub goals : ℕ
  pub cache_length : ℕ
  pub goal : ℕ
  pub depth : ℕ
  pub answer : ℕ
  pub refusal : ℕ

-- the workspace holds anything
abbrev pub work_for : ℕ → List ℕ
work_for goals = replicate (work_length goals) 7

abbrev pub reply_to : Example → Reply
reply_to e = query e.bytes (replicate e.cache_length 0) (work_for e.goals) e.goal e.depth

pub record Right (e : Example) : Type 0 where
  pub answered : response_answer (reply_to e).response ≡ e.answer
  pub refused : response_refusal (reply_to e).response ≡ e.refusal

-- ---- from one computed test over a table to each of its examples
abbrev pub right : Example → Bool
right e = eqb (response_answer (reply_to e).response) e.answer && eqb (response_refusal (reply_to e).response) e.refusal

abbrev pub all_right : List Example → Bool
all_right [] = true
all_right (e ∷ es) = right e && all_right es

is_right : (e : Example) → T (right e) → Right e
is_right e t =
    record {
      answered = eqb→eq _ _ (and_left (eqb (response_answer (reply_to e).response) e.answer) (eqb (response_refusal (reply_to e).response) e.refusal) t);
      refused = eqb→eq _ _ (and_right (eqb (response_answer (reply_to e).response) e.answer) (eqb (response_refusal (reply_to e).response) e.refusal) t);
    }

abbrev pub no_example : Example
no_example = record { bytes = []; goals = 0; cache_length = 0; goal = 0; depth = 0; answer = 0; refusal = 1 }

pub each_right : (es : List Example) → T (all_right es) → (k : ℕ) → k < length es → Right (get_or es k no_example)
each_right [] t k h = absurd (not-suc-le-zero h)
each_right (e ∷ es) t zero h = is_right e (and_left (right e) (all_right es) t)
each_right (e ∷ es) t (suc k) h = each_right es (and_right (right e) (all_right es) t) k (le_of_suc-le-suc h)
