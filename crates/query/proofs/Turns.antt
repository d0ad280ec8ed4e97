-- A list of queries, turn by turn; and its codes are right.
use mathlib.Core.Path.{◌≡◌, refl, sym, ap, ◌∙◌, subst}
use mathlib.Core.Bool.{Bool}
use mathlib.Core.List.{List, [], ◌∷◌, ◌++◌}
use Prim.Native.Nat.{ℕ, zero, suc, ◌+◌, ◌*◌, ◌-◌, ◌≤◌, ◌<◌}
use native.Mathlib.Numerals.{add-one}
use native.Mathlib.Omega.{arith}
use lib.ListN.{length, get_or, set, take, drop, take-append-drop, drop_of_length-le}
use Rattle.definition.specs.declared.answers.Answer.TheVariants.{No, Yes, Undecided, Overflow}
use Rattle.definition.specs.Answers.{Response}
use Rattle.std.specs.Prelude.{Ok, Err}
use Rattle.definition.specs.Query.{Reply, query, zeros}
use Rattle.soundness.specs.Sets.{Goals}
use Rattle.soundness.specs.Statement.{Query, RightReply, reply_to}
use Rattle.definition.proofs.Lists.{part_from_lem}
use Rattle.query.specs.Replies.{replied, response_code}
use Rattle.query.specs.Carried.{Carried}
use Rattle.query.specs.Lists.{Replies, replied_all, with_code, ask_each, ask_all, EachAsked, CodesOfTable, RightCode, EveryCodeRight}
use Rattle.query.specs.Table.{CodeOfTable}
use Rattle.query.proofs.Carries.{new_cache, of_set_each, of_set_map, right_query, right_reply}
use Rattle.query.proofs.Table.{some_refusal, query_table, code_table}

-- codes that were written before
abbrev pub with_codes : List ℕ → Replies → Replies
with_codes xs r = replied_all (xs ++ r.codes) r.cache r.work

-- what is asked from question `left` and code i on makes the whole
abbrev pub Rest : List ℕ → List ℕ → List ℕ → List ℕ → List ℕ → ℕ → Replies → Type 0
Rest bytes cache work left codes i whole =
    with_codes (take i codes) (ask_each bytes cache work left (drop i codes)) ≡ whole

module _ (bytes : List ℕ) where
  -- ---- no more questions, or no more room
  all_stay : (cache work left codes : List ℕ) (i : ℕ)
      → ask_each bytes cache work left (drop i codes) ≡ replied_all (drop i codes) cache work
      → with_codes (take i codes) (ask_each bytes cache work left (drop i codes)) ≡ replied_all codes cache work
  all_stay cache work left codes i e =
      ap (with_codes (take i codes)) e ∙ ap (λ (xs : List ℕ). replied_all xs cache work) (take-append-drop i codes)

  none_left : (cache work left : List ℕ) → length left < 2 → (codes : List ℕ)
      → ask_each bytes cache work left codes ≡ replied_all codes cache work
  none_left cache work left h [] = refl
  none_left cache work [] h (c ∷ cs) = refl
  none_left cache work (g ∷ []) h (c ∷ cs) = refl
  none_left cache work (g ∷ d ∷ qs) h (c ∷ cs) = absurd (omega arith)

  no_room : (cache work left codes : List ℕ) → codes ≡ []
      → ask_each bytes cache work left codes ≡ replied_all codes cache work
  no_room cache work left [] e = refl
  no_room cache work left (c ∷ cs) e = let z : ◌≡◌ {A = ℕ} 0 1 = cc in absurd (omega arith)

  pub few_questions : (cache work left codes : List ℕ) (i : ℕ) (whole : Replies) → length left < 2
      → Rest bytes cache work left codes i whole → replied_all codes cache work ≡ whole
  few_questions cache work left codes i whole h e =
      sym (all_stay cache work left codes i (none_left cache work left h (drop i codes))) ∙ e

  pub few_codes : (cache work left codes : List ℕ) (i : ℕ) (whole : Replies) → length codes ≤ i
      → Rest bytes cache work left codes i whole → replied_all codes cache work ≡ whole
  few_codes cache work left codes i whole h e =
      sym (all_stay cache work left codes i (no_room cache work left (drop i codes) (drop_of_length-le codes h))) ∙ e

  -- ---- one question
  turn : (cache work : List ℕ) (goal depth : ℕ) (rest codes : List ℕ) (i : ℕ) → i < length codes → (r : Reply)
      → r ≡ query bytes cache work goal depth
      → with_codes (take (suc i) (set codes i (response_code r.response))) (ask_each bytes r.cache r.work rest (drop (suc i) (set codes i (response_code r.response))))
      ≡ with_codes (take i codes) (ask_each bytes cache work (goal ∷ depth ∷ rest) (drop i codes))
  turn cache work goal depth rest [] i h r e = absurd (omega arith)
  turn cache work goal depth rest (c ∷ cs) zero h r e =
      ap (λ (x : Reply). with_code (response_code x.response) (ask_each bytes x.cache x.work rest cs)) e
  turn cache work goal depth rest (c ∷ cs) (suc i) h r e =
      ap (with_code c) (turn cache work goal depth rest cs i (omega arith) r e)

  two : (cache work left codes : List ℕ) (i : ℕ) → 2 ≤ length left → i < length codes → (r : Reply)
      → r ≡ query bytes cache work (get_or left 0 0) (get_or left 1 0)
      → with_codes (take (suc i) (set codes i (response_code r.response))) (ask_each bytes r.cache r.work (drop 2 left) (drop (suc i) (set codes i (response_code r.response))))
      ≡ with_codes (take i codes) (ask_each bytes cache work left (drop i codes))
  two cache work [] codes i l h r e = absurd (omega arith)
  two cache work (g ∷ []) codes i l h r e = absurd (omega arith)
  two cache work (g ∷ d ∷ rest) codes i l h r e = turn cache work g d rest codes i h r e

  pub one_more : (cache work left codes : List ℕ) (i : ℕ) (whole : Replies) → 2 ≤ length left → i < length codes
      → Rest bytes cache work left codes i whole
      → (r : Response) (cache' work' : List ℕ)
      → replied r cache' work' ≡ query bytes cache work (get_or left 0 0) (get_or left 1 0) → (x : ℕ) → x ≡ response_code r
      → Rest bytes cache' work' (take (length left - 2) (drop 2 left)) (set codes i x) (i + 1) whole
  one_more cache work left codes i whole l h all r cache' work' e x k =
      subst (λ (n : ℕ). Rest bytes cache' work' (take (length left - 2) (drop 2 left)) (set codes i x) n whole)
      (sym (add-one i))
      (subst (λ (t : List ℕ). Rest bytes cache' work' t (set codes i x) (suc i) whole) (sym (part_from_lem 2 left))
      (subst (λ (y : ℕ). Rest bytes cache' work' (drop 2 left) (set codes i y) (suc i) whole) (sym k)
      (two cache work left codes i l h (replied r cache' work') e ∙ all)))

-- ---- the codes are right
says_yes : (r : Response) → response_code r ≡ 1 → r ≡ Ok Yes
says_yes (Ok No) e = absurd (omega arith)
says_yes (Ok Yes) e = refl
says_yes (Ok Undecided) e = absurd (omega arith)
says_yes (Ok Overflow) e = absurd (omega arith)
says_yes (Err r) e = absurd (omega (arith, some_refusal r))

says_no : (r : Response) → response_code r ≡ 0 → r ≡ Ok No
says_no (Ok No) e = refl
says_no (Ok Yes) e = absurd (omega arith)
says_no (Ok Undecided) e = absurd (omega arith)
says_no (Ok Overflow) e = absurd (omega arith)
says_no (Err r) e = absurd (omega (arith, some_refusal r))

pub right_code : (set : Bool → Goals) (goal : ℕ) (reply : Reply) → RightReply set goal reply
    → RightCode set goal (response_code reply.response)
right_code set goal reply r =
    record {
      when_yes = λ e. r.when_yes (says_yes reply.response e);
      when_no = λ e. r.when_no
          (says_no reply.response e);
    }

-- ---- every question that is asked
-- where C holds of the cache, P holds of the goal and the code, and C of the cache afterwards
module _ (bytes : List ℕ) (C : List ℕ → Type 0) (P : ℕ → ℕ → Type 0)
    (stays : (cache work : List ℕ) (goal depth : ℕ) → C cache → C (query bytes cache work goal depth).cache)
    (holds : (cache work : List ℕ) (goal depth : ℕ) → C cache
    → P goal (response_code (query bytes cache work goal depth).response)) where
  each_asked : (cache work questions codes : List ℕ) → C cache
      → EachAsked questions (ask_each bytes cache work questions codes).codes P
  each_asked cache work questions [] c i h l = absurd (omega arith)
  each_asked cache work [] (x ∷ xs) c i h l = absurd (omega arith)
  each_asked cache work (g ∷ []) (x ∷ xs) c i h l = absurd (omega arith)
  each_asked cache work (g ∷ d ∷ qs) (x ∷ xs) c zero h l = holds cache work g d c
  each_asked cache work (g ∷ d ∷ qs) (x ∷ xs) c (suc i) h l =
      let t : 2 * suc i ≡ suc (suc (2 * i)) = omega arith in
      let r = query bytes cache work g d in
      subst (λ (n : ℕ). P (get_or (g ∷ d ∷ qs) n 0) (get_or (ask_each bytes r.cache r.work qs xs).codes i 0)) (sym t)
      (each_asked r.cache r.work qs xs (stays cache work g d c) i (omega arith) (omega arith))

-- from a new cache
module _ (bytes cache work questions codes : List ℕ) where
  abbrev written : List ℕ
  written = (ask_all bytes cache work questions codes).codes

  -- a query with a cache that was carried, and that its reply is right
  abbrev Asked : Type 0
  Asked = (q : Query) × (cache : List ℕ) × Carried bytes cache

  abbrev Right : Asked → (Bool → Goals) → Type 0
  Right (q, cache, c) set = RightReply set q.goal (reply_to bytes cache q)

  all_right : (set : Bool → Goals) → ((a : Asked) → Right a set) → EachAsked questions written (RightCode set)
  all_right set right =
      each_asked bytes (Carried bytes) (RightCode set)
      (λ cache work goal depth c. (right_query bytes cache work goal depth _ refl c).carried)
      (λ cache work goal depth c. right_code set goal (query bytes cache work goal depth)
      (right (record { goal = goal; depth = depth; work = work }, cache, c)))
      (zeros cache) work questions codes (new_cache bytes cache)

  every_code : EveryCodeRight bytes questions written
  every_code =
      of_set_map bytes (λ set. (a : Asked) → Right a set) (λ set. EachAsked questions written (RightCode set)) all_right
      (of_set_each bytes Right (λ a. (right_reply bytes a.0 a.1 a.2).right))

  codes_table : CodesOfTable questions written
  codes_table =
      each_asked bytes (λ cache. Unit {0}) (λ goal code. CodeOfTable code) (λ cache work goal depth c. tt)
      (λ cache work goal depth c.
      let r = query bytes cache work goal depth in code_table r.response (query_table bytes cache work goal depth r refl))
      (zeros cache) work questions codes tt

-- `query_list`, whose cache was filled with zeros
pub list_ends : (bytes cache work questions codes codes' cache' work' new : List ℕ) → new ≡ zeros cache
    → replied_all codes' cache' work' ≡ ask_each bytes new work questions codes
    → (replied_all codes' cache' work' ≡ ask_all bytes cache work questions codes)
    × (EveryCodeRight bytes questions codes' × CodesOfTable questions codes')
list_ends bytes cache work questions codes codes' cache' work' new z e =
    let f : replied_all codes' cache' work' ≡ ask_all bytes cache work questions codes
    = e ∙ ap (λ (x : List ℕ). ask_each bytes x work questions codes) z in
    let same : (ask_all bytes cache work questions codes).codes ≡ codes' = ap (λ (r : Replies). r.codes) (sym f) in
    let right = subst (EveryCodeRight bytes questions) same (every_code bytes cache work questions codes) in
    (f, (right, subst (CodesOfTable questions) same (codes_table bytes cache work questions codes)))
