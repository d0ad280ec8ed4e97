-- A book that was read: every call is of one of its goals, and the calls of its parts are those of its lines.
use mathlib.Core.Bool.{Bool, ◌&&◌, ◌||◌, false, or_assoc, true}
use mathlib.Core.List.{List, [], ◌∷◌}
use mathlib.Core.Option.{Option, none, some}
use mathlib.Core.Path.{◌∙◌, ◌≡◌, ap, refl, sym}
use Prim.Native.Nat.{◌/◌, ◌<◌, suc, zero, ℕ}
use native.Mathlib.Nat.{div-add-mod', mod-lt}
use native.Mathlib.Omega.{arith}
use lib.Dec.{T, eqb, eqb→eq, le→leb, leb, leb→le, ltb, ltb→lt}
use lib.ListN.{drop, length, take}
use Rattle.definition.specs.Answers.{refusal_number}
use Rattle.definition.specs.Line.{read_line, read_lines}
use Rattle.definition.specs.Part.{All, Any, Book, Call, Op, Part, Pick, Then, UndecidedLine, part_at}
use Rattle.definition.specs.Paths.{kind_of, same_kind}
use Rattle.definition.specs.Reader.{Accepted, BookRead, Rejected, TakenGoals, TakenPart, TakenParts, end_of_body, header_in_range, header_of, is_goal_line, length_in_range, lines_of, nesting_limit, node_of, read_body, read_book, read_by_code, read_first, read_goal, read_goals, read_header, read_node, read_part, read_parts, read_pick, uses_first}
use Rattle.definition.specs.declared.format.Header.{Header}
use Rattle.definition.specs.declared.format.Line.{Line}
use Rattle.definition.specs.declared.paths.PathKind.{PathKind}
use Rattle.definition.specs.declared.replies.Refusal.{Refusal}
use Rattle.definition.specs.declared.replies.Refusal.TheVariants.{BookBody, BookHeader, BookLength, BookLine}
use Rattle.soundness.specs.Groups.{some_call, some_call_in}
use Rattle.definition.proofs.Tests.{and_left, and_right}
use Rattle.soundness.proofs.Logic.{clash, of_true}
use Rattle.soundness.proofs.Calls.{AllCalls, BookOk, Calls, exactly, some_call_lem}

-- a wanted call stands in the lines, or in the parts: its caller, its goal and its kind
module _ (wanted : ℕ → ℕ → PathKind → Bool) where
  -- the goal line before these lines is the caller's
  abbrev pub in_lines : ℕ → List Line → Bool
  in_lines caller [] = false
  in_lines caller (l ∷ ls) =
      elim (eqb l.code 1) [
        | true ↦ in_lines l.first ls
        | false ↦ (eqb l.code 2 && wanted caller l.first (kind_of l.second)) || in_lines caller ls
      ]

  -- the parts are of goal g and those after it
  abbrev pub in_parts : ℕ → List Part → Bool
  in_parts g [] = false
  in_parts g (p ∷ ps) = some_call (wanted g) p || in_parts (suc g) ps

-- what is taken off the lines: each call is of a goal below n, and a wanted call stands in what is taken or in the
-- lines left
module _ (n : ℕ) (wanted : ℕ → ℕ → PathKind → Bool) where
  abbrev Below : ℕ → PathKind → Type 0
  Below goal kind = goal < n

  abbrev One : ℕ → List Line → Option TakenPart → Type 0
  One c ls none = Unit {0}
  One c ls (some t) =
      Calls Below t.part × (in_lines wanted c ls ≡ (some_call (wanted c) t.part || in_lines wanted c t.rest))

  abbrev Several : ℕ → List Line → Option TakenParts → Type 0
  Several c ls none = Unit {0}
  Several c ls (some t) =
      AllCalls Below t.parts
      × (in_lines wanted c ls ≡ (some_call_in (wanted c) t.parts || in_lines wanted c t.rest))

  -- m goals from goal g on, where no line is left
  pub record Goals (g m c : ℕ) (ls : List Line) (t : TakenGoals) : Type 0 where
    pub whole : length t.parts ≡ m
    pub below : (y : ℕ) (p : Part) → part_at t.parts y ≡ some p → Calls Below p
    pub calls : t.rest ≡ [] → in_lines wanted c ls ≡ in_parts wanted g t.parts

  abbrev SomeGoals : ℕ → ℕ → ℕ → List Line → Option TakenGoals → Type 0
  SomeGoals g m c ls none = Unit {0}
  SomeGoals g m c ls (some t) = Goals g m c ls t

  abbrev Reader : ℕ → (List Line → Option TakenPart) → Type 0
  Reader c read = (ls : List Line) → One c ls (read ls)

  call_line : (c : ℕ) (l : Line) (rest : List Line) → l.code ≡ 2
      → in_lines wanted c (l ∷ rest) ≡ (wanted c l.first (kind_of l.second) || in_lines wanted c rest)
  call_line c l rest e = rw e refl

  -- a line that is neither a goal's nor a call
  abbrev Other : Line → Type 0
  Other l = (eqb l.code 1 ≡ false) × (eqb l.code 2 ≡ false)

  other_line : (c : ℕ) (l : Line) (rest : List Line) → Other l → in_lines wanted c (l ∷ rest) ≡ in_lines wanted c rest
  other_line c l rest o = rw (o.0, in_lines) (rw o.1 refl)

  call_ok : (c : ℕ) (l : Line) → l.code ≡ 2 → (rest : List Line) (t : Bool)
      → (ltb l.first n && leb l.second 3 && leb l.third 1 && eqb l.fourth 0) ≡ t
      → One c (l ∷ rest) (elim t [
        | true ↦ some (record { part = Call l.first (kind_of l.second) (eqb l.third 1); rest = rest })
        | false ↦ none
      ])
  call_ok c l e rest true f = (ltb→lt l.first n (first_ok (of_true _ f)), call_line c l rest e)
    where
      first_ok : T (ltb l.first n && leb l.second 3 && leb l.third 1 && eqb l.fourth 0)
          → T (ltb l.first n)
      first_ok t = search (and_left, and_right)
  call_ok c l e rest false f = tt

  unsure_ok : (c : ℕ) (l : Line) → Other l → (rest : List Line) (t : Bool)
      → One c (l ∷ rest) (elim t [ true ↦ some (record { part = UndecidedLine; rest = rest }) | false ↦ none ])
  unsure_ok c l e rest true = (tt, other_line c l rest e)
  unsure_ok c l e rest false = tt

  then_ok : (c : ℕ) (ls : List Line) (p : TakenPart) → One c ls (some p) → (o : Option TakenParts)
      → Several c p.rest o
      → Several c ls (elim o [
        | none ↦ none
        | some ps ↦ some (record { parts = Then p.part ps.parts; rest = ps.rest })
      ])
  then_ok c ls p h none s = tt
  then_ok c ls p h (some ps) s = (
    (h.0, s.0),
    h.1
        ∙ (ap (◌||◌ (some_call (wanted c) p.part)) s.1
        ∙ sym (or_assoc (some_call (wanted c) p.part) (some_call_in (wanted c) ps.parts) (in_lines wanted c ps.rest))),
  )

  more_ok : (c : ℕ) (read : List Line → Option TakenPart) (m : ℕ)
      → ((ls : List Line) → Several c ls (read_parts read m ls))
      → (ls : List Line) (o : Option TakenPart) → One c ls o
      → Several c ls (elim o [
        | none ↦ none
        | some p ↦
            elim (read_parts read m p.rest)
            [ none ↦ none | some ps ↦ some (record { parts = Then p.part ps.parts; rest = ps.rest }) ]
      ])
  more_ok c read m ih ls none h = tt
  more_ok c read m ih ls (some p) h = then_ok c ls p h (read_parts read m p.rest) (ih p.rest)

  several_ok : (c : ℕ) (read : List Line → Option TakenPart) → Reader c read → (m : ℕ) (ls : List Line)
      → Several c ls (read_parts read m ls)
  several_ok c read r zero ls = (tt, refl)
  several_ok c read r (suc m) ls = more_ok c read m (λ ls'. several_ok c read r m ls') ls (read ls) (r ls)

  node_one : (op : Op) (c : ℕ) (l : Line) → Other l → (rest : List Line) (o : Option TakenParts) → Several c rest o
      → (t : Bool)
      → One c (l ∷ rest) (elim t [ true ↦ node_of op o | false ↦ none ])
  node_one op c l e rest (some ps) s true = (s.0, other_line c l rest e ∙ s.1)
  node_one op c l e rest none s true = tt
  node_one op c l e rest o s false = tt

  node_ok : (op : Op) (c : ℕ) (read : List Line → Option TakenPart) → Reader c read → (l : Line) → Other l
      → (rest : List Line)
      → One c (l ∷ rest) (read_node op read l rest)
  node_ok op c read r l e rest =
      node_one op c l e rest (read_parts read l.first rest) (several_ok c read r l.first rest) (uses_first l)

  pick_ok : (c : ℕ) (in_pick : Bool) (read : List Line → Option TakenPart) → Reader c read → (l : Line) → Other l
      → (rest : List Line) → One c (l ∷ rest) (read_pick in_pick read l rest)
  pick_ok c true read r l e rest = tt
  pick_ok c false read r l e rest = node_ok Pick c read r l e rest

  code_ok : (c code : ℕ) (in_pick : Bool) (inner : Bool → List Line → Option TakenPart)
      → ((b : Bool) → Reader c (inner b)) → (l : Line)
      → l.code ≡ code → (rest : List Line) → One c (l ∷ rest) (read_by_code n code in_pick inner l rest)
  code_ok c zero in_pick inner r l e rest = tt
  code_ok c (suc zero) in_pick inner r l e rest = tt
  code_ok c (suc (suc zero)) in_pick inner r l e rest = call_ok c l e rest _ refl
  code_ok c (suc (suc (suc zero))) in_pick inner r l e rest =
      node_ok All c (inner in_pick) (r in_pick) l (rw e (refl, refl)) rest
  code_ok c (suc (suc (suc (suc zero)))) in_pick inner r l e rest =
      node_ok Any c (inner in_pick) (r in_pick) l (rw e (refl, refl)) rest
  code_ok c (suc (suc (suc (suc (suc zero))))) in_pick inner r l e rest =
      pick_ok c in_pick (inner true) (r true) l (rw e (refl, refl)) rest
  code_ok c (suc (suc (suc (suc (suc (suc zero)))))) in_pick inner r l e rest =
      unsure_ok c l (rw e (refl, refl)) rest
      (eqb l.first 0 && eqb l.second 0 && eqb l.third 0 && eqb l.fourth 0)
  code_ok c (suc (suc (suc (suc (suc (suc (suc k))))))) in_pick inner r l e rest = tt

  front_ok : (c : ℕ) (in_pick : Bool) (inner : Bool → List Line → Option TakenPart) → ((b : Bool) → Reader c (inner b))
      → Reader c (read_first n in_pick inner)
  front_ok c in_pick inner r [] = tt
  front_ok c in_pick inner r (l ∷ ls) = code_ok c l.code in_pick inner r l refl ls

  part_read_lem : (c deep : ℕ) (in_pick : Bool) → Reader c (read_part n deep in_pick)
  part_read_lem c zero in_pick ls = tt
  part_read_lem c (suc deep) in_pick ls = front_ok c in_pick (read_part n deep) (λ b ls'. part_read_lem c deep b ls') ls

  -- a goal line is none of the goal before
  goal_line : (c g : ℕ) (l : Line) (rest : List Line) → T (is_goal_line g l)
      → in_lines wanted c (l ∷ rest) ≡ in_lines wanted g rest
  goal_line c g l rest t =
      let code : l.code ≡ 1 = eqb→eq l.code 1 (search (and_left, and_right)) in
      let first : l.first ≡ g = eqb→eq l.first g (search (and_left, and_right)) in
      rw code (rw first refl)

  -- the part of goal g, with the goal line before it
  abbrev Own : ℕ → ℕ → List Line → Option TakenPart → Type 0
  Own g c ls none = Unit {0}
  Own g c ls (some t) =
      Calls Below t.part × (in_lines wanted c ls ≡ (some_call (wanted g) t.part || in_lines wanted g t.rest))

  goal_one : (c g : ℕ) (l : Line) (rest : List Line) (o : Option TakenPart) → One g rest o → (t : Bool)
      → is_goal_line g l ≡ t
      → Own g c (l ∷ rest) (elim t [ true ↦ o | false ↦ none ])
  goal_one c g l rest (some p) h true e = (h.0, goal_line c g l rest (of_true _ e) ∙ h.1)
  goal_one c g l rest none h true e = tt
  goal_one c g l rest o h false e = tt

  goal_ok : (c g : ℕ) (ls : List Line) → Own g c ls (read_goal n g ls)
  goal_ok c g [] = tt
  goal_ok c g (l ∷ ls) =
      goal_one c g l ls (read_part n nesting_limit false ls) (part_read_lem g nesting_limit false ls) (is_goal_line g l) refl

  next_ok : (g m c : ℕ) (ls : List Line) (p : TakenPart) → Own g c ls (some p) → (o : Option TakenGoals)
      → SomeGoals (suc g) m g p.rest o
      → SomeGoals g (suc m) c ls (elim o [
        | none ↦ none
        | some ps ↦ some (record { parts = p.part ∷ ps.parts; rest = ps.rest })
      ])
  next_ok g m c ls p h none s = tt
  next_ok g m c ls p h (some ps) s =
      record {
        whole = ap suc s.whole;
        below = own;
        calls = λ e. h.1 ∙ ap (◌||◌ (some_call (wanted g) p.part)) (s.calls e);
      }
    where
      own : (y : ℕ) (q : Part) → part_at (p.part ∷ ps.parts) y ≡ some q → Calls Below q
      own zero q e = let z : p.part ≡ q = cc in rw z at h.0
      own (suc y) q e = s.below y q e

  goals_more : (g m c : ℕ) → ((ls : List Line) → SomeGoals (suc g) m g ls (read_goals n (suc g) m ls))
      → (ls : List Line) (o : Option TakenPart) → Own g c ls o
      → SomeGoals g (suc m) c ls (elim o [
        | none ↦ none
        | some p ↦
            elim (read_goals n (suc g) m p.rest)
            [ none ↦ none | some ps ↦ some (record { parts = p.part ∷ ps.parts; rest = ps.rest }) ]
      ])
  goals_more g m c ih ls none h = tt
  goals_more g m c ih ls (some p) h = next_ok g m c ls p h (read_goals n (suc g) m p.rest) (ih p.rest)

  goals_ok : (m g c : ℕ) (ls : List Line) → SomeGoals g m c ls (read_goals n g m ls)
  goals_ok zero g c ls = record { whole = refl; below = λ y p e. clash (cc); calls = λ e. rw e refl }
  goals_ok (suc m) g c ls = goals_more g m c (λ ls'. goals_ok m (suc g) g ls') ls (read_goal n g ls) (goal_ok c g ls)

-- a book of the right length has lines
some_line : (n : ℕ) (s : List ℕ) (o : Option Line) (ls : Option (List Line))
    → ◌≡◌ {A = Option (List Line)} (elim o [ none ↦ none | some l ↦ elim ls [ none ↦ none | some ls ↦ some (l ∷ ls) ] ]) (some []) → ⊥
some_line n s none ls e = clash (cc)
some_line n s (some l) none e = clash (cc)
some_line n s (some l) (some ls) e = clash (cc)

has_lines : (n : ℕ) (s : List ℕ) → 0 < n → read_lines n s ≡ some [] → ⊥
has_lines zero s l e = omega arith
has_lines (suc n) s l e = some_line n s (read_line (take 16 s)) (read_lines n (drop 16 s)) e

enough : (n : ℕ) → T (length_in_range n) → 0 < n / 16
enough n t = omega (arith, leb→le 48 n long, div-add-mod' n 16, mod-lt n {m = 16} (omega arith))
  where
    long : T (leb 48 n)
    long = search (and_left, and_right)

-- ---- the book

-- a refusal that comes before the evaluation
abbrev pub Early : Refusal → Type 0
Early r = T (leb (refusal_number r) 9)

-- one of the four that reading a book gives
abbrev pub OfReading : Refusal → Type 0
OfReading r = T (leb 1 (refusal_number r) && leb (refusal_number r) 4)

module _ (wanted : ℕ → ℕ → PathKind → Bool) where
  -- the first line is the header
  abbrev pub in_book : List Line → Bool
  in_book [] = false
  in_book (header ∷ ls) = in_lines wanted 0 ls

  pub record Read (b : Book) (ls : List Line) : Type 0 where
    pub whole : length b.parts ≡ b.header.goals
    pub below : (y : ℕ) (p : Part) → part_at b.parts y ≡ some p → Calls (λ goal kind. goal < b.header.goals) p
    pub calls : in_book ls ≡ in_parts wanted 0 b.parts

  abbrev ReadOk : Option (List Line) → BookRead → Type 0
  ReadOk o (Accepted b) = (ls : List Line) × (o ≡ some ls) × Read b ls
  ReadOk o (Rejected r) = OfReading r

  module _ (l : Line) (ls : List Line) where
    abbrev h : Header
    h = header_of l

    end_ok : (ps : TakenGoals) → Goals h.goals wanted 0 h.goals 0 ls ps → (rest : List Line) → ps.rest ≡ rest
        → ReadOk (some (l ∷ ls)) (end_of_body h ps rest)
    end_ok ps v [] e = (l ∷ ls, refl, record { whole = v.whole; below = v.below; calls = v.calls e })
    end_ok ps v (l ∷ rest) e = tt

    body_one : (o : Option TakenGoals) → SomeGoals h.goals wanted 0 h.goals 0 ls o
        → ReadOk (some (l ∷ ls)) (elim o [ none ↦ Rejected BookBody | some ps ↦ end_of_body h ps ps.rest ])
    body_one none v = tt
    body_one (some ps) v = end_ok ps v ps.rest refl

    header_one : (t : Bool) → ReadOk (some (l ∷ ls)) (elim t [ true ↦ read_body h ls | false ↦ Rejected BookHeader ])
    header_one true = body_one (read_goals h.goals 0 h.goals ls) (goals_ok h.goals wanted h.goals 0 0 ls)
    header_one false = tt

  lines_ok : (bytes : List ℕ) → T (length_in_range (length bytes)) → (o : Option (List Line)) → lines_of bytes ≡ o
      → ReadOk o (elim o [ none ↦ Rejected BookLine | some ls ↦ read_header ls ])
  lines_ok bytes t none e = tt
  lines_ok bytes t (some []) e = absurd (has_lines (length bytes / 16) bytes (enough (length bytes) t) e)
  lines_ok bytes t (some (l ∷ ls)) e = header_one l ls (header_in_range l)

  length_ok : (bytes : List ℕ) (t : Bool) → length_in_range (length bytes) ≡ t
      → ReadOk (lines_of bytes)
      (elim t [
        | false ↦ Rejected BookLength
        | true ↦ elim (lines_of bytes)
            [ none ↦ Rejected BookLine | some ls ↦ read_header ls ]
      ])
  length_ok bytes false e = tt
  length_ok bytes true e = lines_ok bytes (of_true _ e) (lines_of bytes) refl

  read_ok : (bytes : List ℕ) → ReadOk (lines_of bytes) (read_book bytes)
  read_ok bytes = length_ok bytes (length_in_range (length bytes)) refl

  pub lines_read : (bytes : List ℕ) (b : Book) → read_book bytes ≡ Accepted b → (ls : List Line)
      × (lines_of bytes ≡ some ls) × Read b ls
  lines_read bytes b e = rw e at (read_ok bytes)

abbrev unwanted : ℕ → ℕ → PathKind → Bool
unwanted caller goal kind = false

pub rejected_read : (bytes : List ℕ) (r : Refusal) → read_book bytes ≡ Rejected r → OfReading r
rejected_read bytes r e = rw e at (read_ok unwanted bytes)

pub rejected_early : (bytes : List ℕ) (r : Refusal) → read_book bytes ≡ Rejected r → Early r
rejected_early bytes r e =
    le→leb (refusal_number r) 9
    (omega (arith, leb→le (refusal_number r) 4 (and_right (leb 1 (refusal_number r)) (leb (refusal_number r) 4) (rejected_read bytes r e))))

step_below : (b : Book)
    → ((y : ℕ) (p : Part) → part_at b.parts y ≡ some p → Calls (λ goal kind. goal < b.header.goals) p)
    → (y : ℕ) (k : PathKind) (c : ℕ) (o : Option Part) → part_at b.parts c ≡ o
    → T (elim o [ none ↦ false | some p ↦ some_call (exactly y k) p ]) → y < b.header.goals
step_below b h y k c none e t = absurd t
step_below b h y k c (some p) e t =
    some_call_lem (λ goal kind. goal < b.header.goals) (exactly y k)
    (λ g j s l. rw (eqb→eq g y (and_left (eqb g y) (same_kind j k) s)) at l) p (h c p e) t

pub any_read : (bytes : List ℕ) (b : Book) → read_book bytes ≡ Accepted b → BookOk b
any_read bytes b e =
    let read : Read unwanted b (lines_read unwanted bytes b e).0 = (lines_read unwanted bytes b e).2 in
    record { whole = read.whole; inside = λ c y k t. step_below b read.below y k c (part_at b.parts c) refl t }
