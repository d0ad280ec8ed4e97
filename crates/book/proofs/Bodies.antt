-- The goals of a book's body, one after the other, and the places of their parts.
use mathlib.Core.Path.{◌≡◌, refl, sym, ap, ◌∙◌, subst}
use mathlib.Core.Bool.{Bool, true, false}
use mathlib.Core.Option.{Option, none, some}
use mathlib.Core.List.{List, [], ◌∷◌, ◌++◌, append_assoc}
use Prim.Native.Nat.{ℕ, zero, suc, ◌+◌, ◌-◌, ◌≤◌, ◌<◌}
use native.Mathlib.Omega.{arith}
use native.Mathlib.Numerals.{add-one}
use native.Mathlib.Decide.{ℕ_discrete, dec_lt}
use lib.ListN.{length, get_or, take, drop, set, length-drop, length-append}
use lib.Seq.{drop-drop, get_or-set_same, get_or-set_other}
use lib.Dec.{ltb}
use borrow.Author.Tests.{lt-ltb, le-ltb}
use Rattle.definition.specs.declared.format.Line.{Line}
use Rattle.definition.specs.Part.{Part, part_at}
use Rattle.definition.specs.Reader.{TakenPart, TakenGoals, read_part, is_goal_line, read_goal, read_goals}
use Rattle.definition.proofs.Lists.{part_from_lem}
use Rattle.book.specs.Lines.{line_in, lines_in}
use Rattle.book.specs.Grammar.{after_part, after_bytes}
use Rattle.book.specs.Parts.{part_read, part_in, Reads}
use Rattle.book.specs.Read.{Started, no_line, whole_body, StartedBy}
use Rattle.book.proofs.Lines.{lines_cons, lines_none}
use Rattle.std.specs.Prelude.{Some, None}
use Rattle.std.specs.Prelude as prelude
use Rattle.book.proofs.Sizes.{goal_short, if_goal, goal_line}
use Rattle.book.proofs.Views.{never, of_some}
use Rattle.book.proofs.Walk.{part_is, reads}

-- ---- goals that follow others
abbrev pub with_front : List Part → Option TakenGoals → Option TakenGoals
with_front ps none = none
with_front ps (some t) = some (record { parts = ps ++ t.parts; rest = t.rest })

front_none : (x : Option TakenGoals) → with_front [] x ≡ x
front_none none = refl
front_none (some t) = refl

front_front : (ps qs : List Part) (x : Option TakenGoals) → with_front (ps ++ qs) x ≡ with_front ps (with_front qs x)
front_front ps qs none = refl
front_front ps qs (some t) = ap (λ (l : List Part). some (record { parts = l; rest = t.rest })) (append_assoc ps qs t.parts)

-- ---- n goals are one goal and the others
pub record NextGoal (goals g n : ℕ) (ls : List Line) (t : TakenGoals) : Type 0 where
  pub one : TakenPart
  pub others : TakenGoals
  pub one_is : read_goal goals g ls ≡ some one
  pub others_are : read_goals goals (suc g) n one.rest ≡ some others
  pub all_are : record { parts = one.part ∷ others.parts; rest = others.rest } ≡ t

module _ (goals g n : ℕ) (ls : List Line) where
  abbrev before : TakenPart → Option TakenGoals → Option TakenGoals
  before p x = elim x [ none ↦ none | some ps ↦ some (record { parts = p.part ∷ ps.parts; rest = ps.rest }) ]

  abbrev one_and : Option TakenPart → Option TakenGoals
  one_and x = elim x [ none ↦ none | some p ↦ before p (read_goals goals (suc g) n p.rest) ]

  before_front : (p : TakenPart) (x : Option TakenGoals) → before p x ≡ with_front (p.part ∷ []) x
  before_front p none = refl
  before_front p (some t) = refl

  goals_some : (p : TakenPart) → read_goal goals g ls ≡ some p → read_goals goals g (suc n) ls ≡ with_front (p.part ∷ []) (read_goals goals (suc g) n p.rest)
  goals_some p e = ap one_and e ∙ before_front p (read_goals goals (suc g) n p.rest)

  goals_none : read_goal goals g ls ≡ none → read_goals goals g (suc n) ls ≡ none
  goals_none e = ap one_and e

  pub next_goal : (t : TakenGoals) → read_goals goals g (suc n) ls ≡ some t → NextGoal goals g n ls t
  next_goal t e = go (read_goal goals g ls) refl e
    where
      with_others : (p : TakenPart) → read_goal goals g ls ≡ some p → (x : Option TakenGoals) → read_goals goals (suc g) n p.rest ≡ x → before p x ≡ some t → NextGoal goals g n ls t
      with_others p a none b q = never q
      with_others p a (some ps) b q = record { one = p; others = ps; one_is = a; others_are = b; all_are = of_some q }

      go : (x : Option TakenPart) → read_goal goals g ls ≡ x → one_and x ≡ some t → NextGoal goals g n ls t
      go none a q = never q
      go (some p) a q = with_others p a (read_goals goals (suc g) n p.rest) refl q

-- ---- a goal that was read
record Goal (goals g : ℕ) (s : List ℕ) (rest : List Line) : Type 0 where
  taken : TakenPart
  is : read_goal goals g (lines_in s) ≡ some taken
  after : taken.rest ≡ rest

goal_of_lem : (goals g : ℕ) (s : List ℕ) (rest : List Line) → after_part (read_goal goals g (lines_in s)) ≡ some rest → Goal goals g s rest
goal_of_lem goals g s rest e = go (read_goal goals g (lines_in s)) refl e
  where
    go : (x : Option TakenPart) → read_goal goals g (lines_in s) ≡ x → after_part x ≡ some rest → Goal goals g s rest
    go none p q = never q
    go (some t) p q = record { taken = t; is = p; after = of_some q }

no_goal : (x : Option TakenPart) → none ≡ after_part x → x ≡ none
no_goal none e = refl
no_goal (some t) e = never e

-- its part is read after its line
module _ (goals g : ℕ) (s : List ℕ) (t : TakenPart) (e : read_goal goals g (lines_in s) ≡ some t) where
  pub goal_room : 16 ≤ length s
  goal_room = elim (dec_lt (length s) 16) [ yes h ↦ never (goal_short goals g s h ∙ ap after_part e) | no h ↦ omega arith ]

  pub goal_part : part_read goals false (drop 16 s) ≡ some t
  unfolding part_read
  goal_part = go (is_goal_line g (line_in s)) (sym (goal_line goals g s goal_room) ∙ e)
    where
      go : (b : Bool) → if_goal goals g s goal_room b ≡ some t → read_part goals 8 false (lines_in (drop 16 s)) ≡ some t
      go true q = q
      go false q = never q

-- ---- the parts at the places in `starts`
pub start_parts : ℕ → List ℕ → List ℕ → ℕ → List Part
start_parts goals book starts zero = []
start_parts goals book starts (suc g) = start_parts goals book starts g ++ (part_in goals false (drop (get_or starts g 0) book) ∷ [])

start_length : (goals : ℕ) (book starts : List ℕ) (g : ℕ) → length (start_parts goals book starts g) ≡ g
unfolding start_parts
start_length goals book starts zero = refl
start_length goals book starts (suc g) = length-append (start_parts goals book starts g) _ ∙ ap (λ (n : ℕ). n + 1) (start_length goals book starts g) ∙ add-one g

start_set : (goals : ℕ) (book starts : List ℕ) (i v g : ℕ) → g ≤ i → start_parts goals book (set starts i v) g ≡ start_parts goals book starts g
unfolding start_parts
start_set goals book starts i v zero h = refl
start_set goals book starts i v (suc g) h =
    let ne : g ≡ i → ⊥ = λ e. omega arith in
    λ k. start_set goals book starts i v g (omega arith) k ++ (part_in goals false (drop (get_or-set_other starts i g v 0 ne k) book) ∷ [])

at_front : (xs ys : List Part) (i : ℕ) (p : Part) → part_at xs i ≡ some p → part_at (xs ++ ys) i ≡ some p
at_front [] ys i p e = never e
at_front (x ∷ xs) ys zero p e = e
at_front (x ∷ xs) ys (suc i) p e = at_front xs ys i p e

at_seam : (xs : List Part) (p : Part) (ys : List Part) → part_at (xs ++ (p ∷ ys)) (length xs) ≡ some p
at_seam [] p ys = refl
at_seam (x ∷ xs) p ys = at_seam xs p ys

start_at : (goals : ℕ) (book starts : List ℕ) (n i : ℕ) → i < n → part_at (start_parts goals book starts n) i ≡ some (part_in goals false (drop (get_or starts i 0) book))
unfolding start_parts
start_at goals book starts zero i h = absurd (omega arith)
start_at goals book starts (suc n) i h =
    elim (ℕ_discrete i n) [
      | yes e ↦
          ap (part_at (start_parts goals book starts n ++ (part_in goals false (drop (get_or starts n 0) book) ∷ []))) (e ∙ sym (start_length goals book starts n))
          ∙ at_seam (start_parts goals book starts n) _ []
          ∙ ap (λ (k : ℕ). some (part_in goals false (drop (get_or starts k 0) book))) (sym e)
      | no ne ↦ at_front (start_parts goals book starts n) _ i _ (start_at goals book starts n i (omega arith))
    ]

-- ---- after g goals
pub record Body (goals : ℕ) (book starts : List ℕ) (at g : ℕ) : Type 0 where
  pub within : at ≤ length book
  pub count : g ≤ goals
  pub places : (i : ℕ) → i < g → (get_or starts i 0 ≤ length book) × Reads goals false (drop (get_or starts i 0) book)
  pub whole : with_front (start_parts goals book starts g) (read_goals goals g (goals - g) (lines_in (drop at book))) ≡ read_goals goals 0 goals (lines_in (drop 16 book))

pub body_starts : (goals : ℕ) (book starts : List ℕ) → 16 ≤ length book → Body goals book starts 16 0
unfolding start_parts
body_starts goals book starts h =
    let e : goals - 0 ≡ goals = omega arith in
    record {
      within = h;
      count = omega arith;
      places = λ i l. absurd (omega arith);
      whole = front_none _ ∙ ap (λ (n : ℕ). read_goals goals 0 n (lines_in (drop 16 book))) e;
    }

module _ (goals : ℕ) (book starts : List ℕ) (at g : ℕ) (b : Body goals book starts at g) where
  module _ (lt : g < goals) (r : prelude.Option ℕ) (said : after_bytes r (take (length book - at) (drop at book)) ≡ after_part (read_goal goals g (lines_in (take (length book - at) (drop at book))))) where
    left : goals - g ≡ suc (goals - (g + 1))
    left = omega arith

    said' : after_bytes r (drop at book) ≡ after_part (read_goal goals g (lines_in (drop at book)))
    said' = rw part_from_lem at said

    body_none : r ≡ None → read_goals goals 0 goals (lines_in (drop 16 book)) ≡ none
    body_none z =
        sym b.whole
        ∙ ap (with_front (start_parts goals book starts g)) (
        ap (λ (n : ℕ). read_goals goals g n (lines_in (drop at book))) left
        ∙ goals_none goals g (goals - (g + 1)) (lines_in (drop at book)) (no_goal (read_goal goals g (lines_in (drop at book))) (ap (λ (n : prelude.Option ℕ). after_bytes n (drop at book)) (sym z) ∙ said'))
        )

    pub body_bad : (now : List ℕ) → r ≡ None → (false ≡ whole_body (read_goals goals 0 goals (lines_in (drop 16 book)))) × StartedBy (read_goals goals 0 goals (lines_in (drop 16 book))) goals book now
    body_bad now z =
        (ap whole_body (sym (body_none z)), subst (λ (x : Option TakenGoals). StartedBy x goals book now) (sym (body_none z)) tt)

    module _ (n : ℕ) (is : r ≡ Some n) (room : n ≤ length (take (length book - at) (drop at book))) where
      goal : Goal goals g (drop at book) (lines_in (drop (at + n) book))
      goal = goal_of_lem goals g (drop at book) (lines_in (drop (at + n) book)) (sym said' ∙ ap (λ (m : prelude.Option ℕ). after_bytes m (drop at book)) is ∙ ap (λ (s : List ℕ). some (lines_in s)) (drop-drop n at book))

      pub line_room : at + 16 ≤ length book
      line_room = let a = rw length-drop at (goal_room goals g (drop at book) goal.taken goal.is) in let w = b.within in omega arith

      part_read_lem : part_read goals false (drop (at + 16) book) ≡ some goal.taken
      part_read_lem = ap (part_read goals false) (sym (drop-drop 16 at book)) ∙ goal_part goals g (drop at book) goal.taken goal.is

      module _ (slot : g < length starts) where
        abbrev next : List ℕ
        next = set starts g (at + 16)

        placed : get_or next g 0 ≡ at + 16
        placed = get_or-set_same starts g (at + 16) 0 slot

        next_place : (i : ℕ) → i < g + 1 → (get_or next i 0 ≤ length book) × Reads goals false (drop (get_or next i 0) book)
        next_place i h =
            elim (ℕ_discrete i g) [
              | yes e ↦ subst (λ (p : ℕ). (p ≤ length book) × Reads goals false (drop p book)) (sym (ap (λ (k : ℕ). get_or next k 0) e ∙ placed)) (line_room, reads goals false (drop (at + 16) book) goal.taken part_read_lem)
              | no n ↦ subst (λ (p : ℕ). (p ≤ length book) × Reads goals false (drop p book)) (sym (get_or-set_other starts g i (at + 16) 0 n)) (b.places i (omega arith))
            ]

        next_parts : start_parts goals book next (g + 1) ≡ start_parts goals book starts g ++ (goal.taken.part ∷ [])
        unfolding start_parts
        next_parts =
            ap (start_parts goals book next) (add-one g)
            ∙ λ k. start_set goals book starts g (at + 16) g (omega arith) k ++ ((ap (λ (p : ℕ). part_in goals false (drop p book)) placed ∙ part_is goals false (drop (at + 16) book) goal.taken part_read_lem) k ∷ [])

        pub body_good : Body goals book next (at + n) (g + 1)
        body_good =
            let l = rw (part_from_lem, length-drop) at room in
            let w = b.within in
            record {
              within = omega arith;
              count = omega arith;
              places = next_place;
              whole =
                  ap (λ (ps : List Part). with_front ps (read_goals goals (g + 1) (goals - (g + 1)) (lines_in (drop (at + n) book)))) next_parts
                  ∙ front_front (start_parts goals book starts g) (goal.taken.part ∷ []) (read_goals goals (g + 1) (goals - (g + 1)) (lines_in (drop (at + n) book)))
                  ∙ ap (with_front (start_parts goals book starts g)) (
                  (λ k. with_front (goal.taken.part ∷ []) (read_goals goals (add-one g k) (goals - (g + 1)) (sym goal.after k)))
                  ∙ sym (goals_some goals g (goals - (g + 1)) (lines_in (drop at book)) goal.taken goal.is)
                  ∙ ap (λ (n : ℕ). read_goals goals g n (lines_in (drop at book))) (sym left)
                  )
                  ∙ b.whole;
            }

  module _ (end : goals ≤ g) where
    all_read : some (record { parts = start_parts goals book starts g ++ []; rest = lines_in (drop at book) }) ≡ read_goals goals 0 goals (lines_in (drop 16 book))
    all_read =
        let z : 0 ≡ goals - g = omega arith in
        ap (λ (n : ℕ). with_front (start_parts goals book starts g) (read_goals goals g n (lines_in (drop at book)))) z ∙ b.whole

    nothing_left : ltb (length book - at) 16 ≡ no_line (lines_in (drop at book))
    nothing_left =
        elim (dec_lt (length (drop at book)) 16) [
          | yes h ↦ let l = rw length-drop at h in lt-ltb (length book - at) 16 l ∙ sym (ap no_line (lines_none (drop at book) h))
          | no h ↦
              let m : 16 ≤ length (drop at book) = omega arith in
              let l = rw length-drop at m in
              le-ltb (length book - at) 16 l ∙ sym (ap no_line (lines_cons (drop at book) m))
        ]

    started : Started goals (start_parts goals book starts g ++ []) book starts
    started i h =
        let p = b.places i (omega arith) in
        record { within = p.0; reads = p.1; part = at_front (start_parts goals book starts g) [] i _ (start_at goals book starts g i (omega arith)) }

    pub body_ends : (ltb (length book - at) 16 ≡ whole_body (read_goals goals 0 goals (lines_in (drop 16 book)))) × StartedBy (read_goals goals 0 goals (lines_in (drop 16 book))) goals book starts
    body_ends =
        (nothing_left ∙ ap whole_body all_read, subst (λ (x : Option TakenGoals). StartedBy x goals book starts) all_read started)
