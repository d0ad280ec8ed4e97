-- The definition's grammar at each way through the code.
use mathlib.Core.Path.{◌≡◌, refl, sym, ap, ◌∙◌, subst}
use mathlib.Core.Bool.{Bool, true, false, not, ◌&&◌}
use mathlib.Core.Option.{Option, none, some}
use mathlib.Core.List.{List}
use Prim.Native.Nat.{ℕ, zero, suc, ◌+◌, ◌-◌, ◌≤◌, ◌<◌}
use native.Mathlib.Omega.{arith}
use native.Mathlib.Numerals.{sub-one}
use lib.ListN.{length, take, drop, length-drop}
use lib.Seq.{drop-drop}
use lib.Dec.{eqb}
use Rattle.definition.specs.declared.format.Line.{Line}
use Rattle.definition.specs.Part.{Op, Pick, Then}
use Rattle.definition.specs.Reader.{TakenPart, TakenParts, uses_first, read_parts, node_of, read_by_code, read_first, read_part, is_goal_line, read_goal}
use Rattle.definition.proofs.Lists.{part_from_lem}
use Rattle.book.specs.declared.code.Op as kinds
use Rattle.book.specs.declared.code.Code.{Code}
use Rattle.book.specs.declared.code.Code.TheVariants as codes
use Rattle.book.specs.declared.grammar.Opened.{Opened}
use Rattle.std.specs.Prelude.{Some, None}
use Rattle.std.specs.Prelude as prelude
use mathlib.Core.Logic.{◌⊎◌, inl, inr}
use Rattle.std.specs.Bool.{then_some}
use Rattle.book.specs.Lines.{line_in, lines_in}
use Rattle.book.specs.Grammar.{after_part, after_parts, after_bytes, after_opened, goal_fits, call_fits, undecided_fits, pick_fits}
use Rattle.book.proofs.Tests.{refused, held}
use Rattle.book.specs.Codes.{code_of, op_of}
use Rattle.book.proofs.Lines.{lines_cons, lines_none}
use Rattle.book.proofs.Codes.{is_goal, no_goal, read_as, read_as_lem, goal_number}

-- ---- the tests on a line
module _ (l : Line) where
  module _ (g : ℕ) (code : Code) (is_code : code ≡ code_of l.code) where
    goal_code : eqb l.code 1 ≡ is_goal code
    goal_code = goal_number l.code ∙ ap is_goal (sym is_code)

    pub no_goal_line : (code ≡ codes.Goal → ⊥) → false ≡ is_goal_line g l
    no_goal_line h = rw (goal_code, no_goal code h)

    pub by_goal : code ≡ codes.Goal → goal_fits g l ≡ is_goal_line g l
    by_goal e = rw (goal_code, e)

-- n parts where a line fits
abbrev pub opened_if : Bool → ℕ → Bool → prelude.Option Opened
opened_if b n p = then_some b (record { parts = n; in_pick = p })

-- ---- what a line opens, by its code
module _ (goals : ℕ) (p : Bool) (inner : Bool → List Line → Option TakenPart) (l : Line) (ls : List Line) where
  leaf : (b : Bool) (t : TakenPart) → after_opened (opened_if b 0 p) inner t.rest ≡ after_part (elim b [ true ↦ some t | false ↦ none ])
  leaf true t = refl
  leaf false t = refl

  after_node : (op : Op) (x : Option TakenParts) → after_parts x ≡ after_part (node_of op x)
  after_node op none = refl
  after_node op (some t) = refl

  node : (op : Op) (q b : Bool) (n : ℕ) → after_opened (opened_if b n q) inner ls ≡ after_part (elim b [ true ↦ node_of op (read_parts (inner q) n ls) | false ↦ none ])
  node op q true n = after_node op (read_parts (inner q) n ls)
  node op q false n = refl

  module _ (code : Code) (is : code ≡ code_of l.code) (r : prelude.Option Opened) where
    abbrev Right : Type 0
    Right = after_opened r inner ls ≡ after_part (read_by_code goals l.code p inner l ls)

    at_code : (k : Code) → code ≡ k → after_opened r inner ls ≡ after_part (read_as goals p inner l ls k) → Right
    at_code k e h =
        h ∙ ap (λ (c : Code). after_part (read_as goals p inner l ls c)) (sym e ∙ is)
        ∙ ap after_part (sym (read_as_lem goals p inner l ls l.code))

    pub nothing_opens : r ≡ None → (code ≡ codes.Goal) ⊎ (code ≡ codes.Unknown) → Right
    nothing_opens e (inl k) = at_code codes.Goal k (rw e)
    nothing_opens e (inr k) = at_code codes.Unknown k (rw e)

    module _ (b : Bool) where
      pub call_line : r ≡ opened_if b 0 p → b ≡ call_fits goals l → code ≡ codes.Call → Right
      call_line e f k = at_code codes.Call k (rw (e, f) (leaf (call_fits goals l) _))

      pub undecided_line : r ≡ opened_if b 0 p → b ≡ undecided_fits l → code ≡ codes.Undecided → Right
      undecided_line e f k = at_code codes.Undecided k (rw (e, f) (leaf (undecided_fits l) _))

      module _ (n : ℕ) (first : n ≡ l.first) where
        pub group_line : (op : kinds.Op) → r ≡ opened_if b n p → b ≡ uses_first l → code ≡ codes.Group op → Right
        group_line op e f k = at_code (codes.Group op) k (rw (e, f, first) (node (op_of op) p (uses_first l) l.first))

        pub pick_line : r ≡ opened_if b n true → b ≡ pick_fits p l → code ≡ codes.Pick → Right
        pick_line e f k = at_code codes.Pick k (rw (e, f, first) (inside p (uses_first l)))
          where
            inside : (p b : Bool) → after_opened (opened_if (not p && b) l.first true) inner ls ≡ after_part (elim p [ true ↦ none | false ↦ elim b [ true ↦ node_of Pick (read_parts (inner true) l.first ls) | false ↦ none ] ])
            inside true b = refl
            inside false b = node Pick true b l.first

-- ---- a part, nested at most n deep
module _ (goals n : ℕ) (p : Bool) where
  pub too_deep : (ls : List Line) → n ≡ 0 → none ≡ after_part (read_part goals n p ls)
  too_deep ls e = ap (λ (m : ℕ). after_part (read_part goals m p ls)) (sym e)

  module _ (ne : n ≡ 0 → ⊥) (s : List ℕ) where
    open_up : (ls : List Line) → read_part goals n p ls ≡ read_first goals p (read_part goals (n - 1)) ls
    open_up ls = let e : n ≡ suc (n - 1) = omega arith in subst (λ (m : ℕ). read_part goals m p ls ≡ read_first goals p (read_part goals (n - 1)) ls) (sym e) refl

    pub too_short : length s < 16 → none ≡ after_part (read_part goals n p (lines_in s))
    too_short h = sym (ap after_part (open_up (lines_in s) ∙ ap (read_first goals p (read_part goals (n - 1))) (lines_none s h)))

    module _ (room : 16 ≤ length s) (r : prelude.Option Opened) (said : (inner : Bool → List Line → Option TakenPart) (ls : List Line) → after_opened r inner ls ≡ after_part (read_by_code goals (line_in s).code p inner (line_in s) ls)) where
      by_line : after_opened r (read_part goals (n - 1)) (lines_in (drop 16 s)) ≡ after_part (read_part goals n p (lines_in s))
      by_line =
          said (read_part goals (n - 1)) (lines_in (drop 16 s))
          ∙ sym (ap after_part (open_up (lines_in s) ∙ ap (read_first goals p (read_part goals (n - 1))) (lines_cons s room)))

      pub opened_none : r ≡ None → none ≡ after_part (read_part goals n p (lines_in s))
      opened_none e = ap (λ (x : prelude.Option Opened). after_opened x (read_part goals (n - 1)) (lines_in (drop 16 s))) (sym e) ∙ by_line

      pub opened_parts : (o : Opened) → r ≡ Some o → after_parts (read_parts (read_part goals (n - 1) o.in_pick) o.parts (lines_in (drop 16 s))) ≡ after_part (read_part goals n p (lines_in s))
      opened_parts o e = ap (λ (x : prelude.Option Opened). after_opened x (read_part goals (n - 1)) (lines_in (drop 16 s))) (sym e) ∙ by_line

-- ---- a turn: k parts are left from `at` on
abbrev and_then : Option (List Line) → (List Line → Option (List Line)) → Option (List Line)
and_then none g = none
and_then (some ls) g = g ls

-- a part before those that follow it
abbrev pub joined : TakenPart → Option TakenParts → Option TakenParts
joined p x = elim x [ none ↦ none | some ps ↦ some (record { parts = Then p.part ps.parts; rest = ps.rest }) ]

pub after_joined : (p : TakenPart) (x : Option TakenParts) → after_parts (joined p x) ≡ after_parts x
after_joined p none = refl
after_joined p (some t) = refl

module _ (f : List Line → Option TakenPart) where
  pub step : (k : ℕ) → 0 < k → (ls : List Line) → after_parts (read_parts f k ls) ≡ and_then (after_part (f ls)) (λ rest. after_parts (read_parts f (k - 1) rest))
  step zero pos ls = absurd (omega arith)
  step (suc k) pos ls = rw sub-one (go (f ls))
    where
      go : (x : Option TakenPart) → after_parts (elim x [ none ↦ none | some p ↦ joined p (read_parts f k p.rest) ]) ≡ and_then (after_part x) (λ rest. after_parts (read_parts f k rest))
      go none = refl
      go (some p) = after_joined p (read_parts f k p.rest)

  module _ (s : List ℕ) (whole : Option (List Line)) where
    module _ (at k : ℕ) (r : prelude.Option ℕ) (pos : 0 < k) (inv : after_parts (read_parts f k (lines_in (drop at s))) ≡ whole) (said : after_bytes r (take (length s - at) (drop at s)) ≡ after_part (f (lines_in (take (length s - at) (drop at s))))) where
      said' : after_bytes r (drop at s) ≡ after_part (f (lines_in (drop at s)))
      said' = rw part_from_lem at said

      abbrev next : Option (List Line) → Option (List Line)
      next x = and_then x (λ rest. after_parts (read_parts f (k - 1) rest))

      pub turn_bad : r ≡ None → none ≡ whole
      turn_bad e = ap (λ (m : prelude.Option ℕ). next (after_bytes m (drop at s))) (sym e) ∙ ap next said' ∙ sym (step k pos (lines_in (drop at s))) ∙ inv

      pub turn_good : (n : ℕ) → r ≡ Some n → after_parts (read_parts f (k - 1) (lines_in (drop (at + n) s))) ≡ whole
      turn_good n e =
          ap (λ (t : List ℕ). after_parts (read_parts f (k - 1) (lines_in t))) (sym (drop-drop n at s))
          ∙ ap (λ (m : prelude.Option ℕ). next (after_bytes m (drop at s))) (sym e) ∙ ap next said'
          ∙ sym (step k pos (lines_in (drop at s))) ∙ inv

    pub turn_end : (at k : ℕ) → k ≤ 0 → after_parts (read_parts f k (lines_in (drop at s))) ≡ whole → after_bytes (Some at) s ≡ whole
    turn_end at zero z inv = inv
    turn_end at (suc k) z inv = absurd (omega arith)

-- the place after a part stays within
pub further : (at : ℕ) (s : List ℕ) (r : ℕ) → at ≤ length s → r ≤ length (take (length s - at) (drop at s)) → at + r ≤ length s
further at s r h l = let e = rw (part_from_lem, length-drop) at l in omega arith

-- ---- a goal: its line and its part
module _ (goals g : ℕ) (s : List ℕ) where
  pub goal_short : length s < 16 → none ≡ after_part (read_goal goals g (lines_in s))
  goal_short h = sym (ap (λ (ls : List Line). after_part (read_goal goals g ls)) (lines_none s h))

  module _ (room : 16 ≤ length s) where
    abbrev pub if_goal : Bool → Option TakenPart
    if_goal b = elim b [ true ↦ read_part goals 8 false (lines_in (drop 16 s)) | false ↦ none ]

    pub goal_line : read_goal goals g (lines_in s) ≡ if_goal (is_goal_line g (line_in s))
    goal_line = ap (read_goal goals g) (lines_cons s room)

    pub goal_wrong : (b : Bool) → b ≡ is_goal_line g (line_in s) → not b ≡ true → none ≡ after_part (read_goal goals g (lines_in s))
    goal_wrong b e h = ap (λ (x : Bool). after_part (if_goal x)) (sym (refused e h)) ∙ ap after_part (sym goal_line)

    module _ (b : Bool) (e : b ≡ is_goal_line g (line_in s)) (h : not b ≡ false) (r : prelude.Option ℕ) (said : after_bytes r (take (length s - 16) (drop 16 s)) ≡ after_part (read_part goals 8 false (lines_in (take (length s - 16) (drop 16 s))))) where
      goal_right : after_bytes r (drop 16 s) ≡ after_part (read_goal goals g (lines_in s))
      goal_right =
          rw part_from_lem at said
          ∙ ap (λ (x : Bool). after_part (if_goal x)) (sym (held e h))
          ∙ ap after_part (sym goal_line)

      pub goal_none : r ≡ None → none ≡ after_part (read_goal goals g (lines_in s))
      goal_none z = ap (λ (m : prelude.Option ℕ). after_bytes m (drop 16 s)) (sym z) ∙ goal_right

      pub goal_some : (n : ℕ) → r ≡ Some n → after_bytes (Some (16 + n)) s ≡ after_part (read_goal goals g (lines_in s))
      goal_some n e =
          ap (λ (t : List ℕ). some (lines_in t)) (sym (drop-drop n 16 s))
          ∙ ap (λ (m : prelude.Option ℕ). after_bytes m (drop 16 s)) (sym e) ∙ goal_right
