-- Mixed books: the groups of linked goals, the set that is built group by group, and the claim. All of it comes from a
-- book's parts alone; `StepsAreLines` ties them to its lines.
use Rattle.std.specs.Prelude.{◌≡◌, ◌⊎◌, Bool, true, false, ◌&&◌, ◌||◌, List, [], ◌∷◌, ℕ, suc, ◌<◌, T, eqb, replicate}
use Rattle.std.proofs.Math.Option.{none, some}
use Rattle.definition.specs.declared.paths.PathKind.{PathKind}
use Rattle.definition.specs.declared.paths.PathKind.TheVariants.{Inductive, Coinductive}
use Rattle.definition.specs.declared.format.Line.{Line}
use Rattle.definition.specs.Paths.{kind_of, same_kind}
use Rattle.definition.specs.Part.{Part, Parts, Call, Node, UndecidedLine, End, Then, Book, part_at}
use Rattle.definition.specs.Reader.{Accepted, read_book}
use Rattle.soundness.specs.Sets.{Closed, Goals, SelfSupporting, all_goals, greatest, iter, least, no_goals, round}
use Rattle.soundness.specs.Statement.{Query, AllRight}

-- ---- steps

-- some call of a part, with its goal and kind, is wanted
abbrev mutual
  pub some_call : (ℕ → PathKind → Bool) → Part → Bool
  some_call wanted (Call goal kind lower) = wanted goal kind
  some_call wanted (Node op ps) = some_call_in wanted ps
  some_call wanted UndecidedLine = false

  pub some_call_in : (ℕ → PathKind → Bool) → Parts → Bool
  some_call_in wanted End = false
  some_call_in wanted (Then p ps) = some_call wanted p || some_call_in wanted ps

-- of a goal's own part
abbrev pub calls_some : Book → (ℕ → PathKind → Bool) → Goals
calls_some b wanted goal = elim (part_at b.parts goal) [ none ↦ false | some p ↦ some_call wanted p ]

-- a step: the caller's part has a call of the goal, of that kind
abbrev pub has_step : Book → ℕ → ℕ → PathKind → Bool
has_step b caller goal kind = calls_some b (λ g k. eqb g goal && same_kind k kind) caller

-- ---- linked goals

-- the goal itself, and the goals that call one of the set
abbrev pub towards : Book → ℕ → Goals → Goals
towards b goal s caller = eqb caller goal || calls_some b (λ g k. s g) caller

-- a way by calls from a goal to `goal`
pub data Way (b : Book) (goal : ℕ) : ℕ → Type 0 where
  there : Way b goal goal
  by_call : (from next : ℕ) (kind : PathKind) → T (has_step b from next kind) → Way b goal next → Way b goal from

-- there is a way from `from` to `goal`, computed: as many calls as there are goals are enough
unfoldable pub reaches : Book → ℕ → ℕ → Bool
reaches b from goal = iter b.header.goals (towards b goal) (λ k. eqb k goal) from

-- the group of g is every k linked to it
abbrev pub linked : Book → ℕ → ℕ → Bool
linked b g k = reaches b g k && reaches b k g

-- ---- the condition, and the choices that it leaves
pub data Choice : Type 0 where
  Least Greatest : Choice

-- the kind of step that a group of that choice may not have inside
abbrev pub excluded : Choice → PathKind
excluded Least = Coinductive
excluded Greatest = Inductive

-- a step inside the group of g: from one of its goals to one of its goals
pub record Inside (b : Book) (g caller goal : ℕ) (kind : PathKind) : Type 0 where
  pub step : T (has_step b caller goal kind)
  pub from : T (linked b g caller)
  pub to : T (linked b g goal)

abbrev pub Fits : Book → Choice → ℕ → Type 0
Fits b choice g = (caller goal : ℕ) → Inside b g caller goal (excluded choice) → ⊥

-- each group by itself has no coinductive step inside, or no inductive one
abbrev pub OneKindEach : Book → Type 0
OneKindEach b = (g : ℕ) → Fits b Least g ⊎ Fits b Greatest g

-- one choice for each group, that fits it
pub record Chosen (b : Book) (choice : ℕ → Choice) : Type 0 where
  pub one : (g k : ℕ) → T (linked b g k) → choice k ≡ choice g
  pub fits : (g : ℕ) → Fits b (choice g) g

-- ---- the set

-- the goals of the group of g as in t, all others held fixed as in s
abbrev pub held : Book → ℕ → Goals → Goals → Goals
held b g s t k = elim (linked b g k) [ true ↦ t k | false ↦ s k ]

-- a round of the group of g, the other goals held fixed
abbrev pub group_round : Book → Bool → ℕ → Goals → Goals → Goals
group_round b reading g s t = round b reading (held b g s t)

abbrev pub first : Book → Choice → Goals
first b Least = no_goals
first b Greatest = all_goals b

-- the group of g is built, least from no goals, greatest from all; the other goals stay as in s
abbrev pub build_group : Book → (ℕ → Choice) → Bool → ℕ → Goals → Goals
build_group b choice reading g s = held b g s (iter b.header.goals (group_round b reading g s) (first b (choice g)))

-- one group after the other, each named by one of its goals
abbrev pub build_groups : Book → (ℕ → Choice) → Bool → List ℕ → Goals → Goals
build_groups b choice reading [] s = s
build_groups b choice reading (g ∷ gs) s = build_groups b choice reading gs (build_group b choice reading g s)

-- the goals whose groups are done, once that of g is
abbrev pub covered : Book → Goals → ℕ → Goals
covered b done g k = done k || linked b g k

-- the groups that a group calls come before it, and in the end every goal of the book is done
abbrev pub CallsFirst : Book → Goals → List ℕ → Type 0
CallsFirst b done [] = (k : ℕ) → k < b.header.goals → T (done k)
CallsFirst b done (g ∷ gs) = ((k : ℕ) → T (reaches b g k) → T (covered b done g k)) × CallsFirst b (covered b done g) gs

abbrev pub grouped : Book → (ℕ → Choice) → List ℕ → Bool → Goals
grouped b choice order reading = build_groups b choice reading order no_goals

-- ---- the claim, of every list of queries on an accepted book and a cache of n zeros, for every such choice and order
abbrev pub RightByGroups : Type 0
RightByGroups =
    (bytes : List ℕ) (b : Book) → read_book bytes ≡ Accepted b → (choice : ℕ → Choice) → Chosen b choice
    → (order : List ℕ) → CallsFirst b no_goals order
    → (n : ℕ) (qs : List Query) → AllRight (grouped b choice order) bytes (replicate n 0) qs

-- ---- what such a set is

-- of t only the goals in the group of g are looked at
pub record ByGroups (b : Book) (choice : ℕ → Choice) (reading : Bool) (s : Goals) : Type 0 where
  -- a fixed point of the round
  pub closed : Closed b reading s
  pub self_supporting : SelfSupporting b reading s
  -- in a group of choice Least: every t that is closed there, given the other goals, has all goals of s there
  pub least : (g : ℕ) → choice g ≡ Least → (t : Goals)
      → ((k : ℕ) → T (linked b g k) → T (group_round b reading g s t k) → T (t k))
      → (k : ℕ) → T (linked b g k) → T (s k) → T (t k)
  -- in a group of choice Greatest: s has all goals there of every t that supports itself there, given the other goals
  pub greatest : (g : ℕ) → choice g ≡ Greatest → (t : Goals)
      → ((k : ℕ) → T (linked b g k) → T (t k) → T (group_round b reading g s t k))
      → (k : ℕ) → T (linked b g k) → T (t k) → T (s k)

-- what is claimed of an accepted book, so that its groups, choices and sets are the ones that are meant
pub record GroupsFit (b : Book) : Type 0 where
  -- to reach is to have a way by calls
  pub way : (from goal : ℕ) → T (reaches b from goal) → Way b goal from
  pub reached : (from goal : ℕ) → Way b goal from → T (reaches b from goal)
  -- there is a choice exactly where the book meets the condition, and there always is an order
  pub choice : OneKindEach b → (choice : ℕ → Choice) × Chosen b choice
  pub condition : (choice : ℕ → Choice) → Chosen b choice → OneKindEach b
  pub order : (order : List ℕ) × CallsFirst b no_goals order
  -- the set is what the record above says of it, and no other set is: so every order makes the same set
  pub set : (choice : ℕ → Choice) → Chosen b choice → (order : List ℕ) → CallsFirst b no_goals order → (reading : Bool)
      → ByGroups b choice reading (grouped b choice order reading)
  pub only : (choice : ℕ → Choice) → Chosen b choice → (order : List ℕ) → CallsFirst b no_goals order → (reading : Bool)
      → (s : Goals) → ByGroups b choice reading s → s ≡ grouped b choice order reading
  -- with one choice for all groups it is the least set, or the greatest
  pub all_least : (order : List ℕ) → CallsFirst b no_goals order → (reading : Bool)
      → grouped b (λ g. Least) order reading ≡ least b reading
  pub all_greatest : (order : List ℕ) → CallsFirst b no_goals order → (reading : Bool)
      → grouped b (λ g. Greatest) order reading ≡ greatest b reading

-- ---- the steps, by the book's lines

-- a call line: its number, the header being line 0, the goal in whose part it stands, the goal it calls, and its kind
pub record StepLine : Type 0 where
  pub line : ℕ
  pub caller : ℕ
  pub goal : ℕ
  pub kind : PathKind

-- of the lines from number n on, where the goal line before them is the caller's
abbrev pub step_lines_from : ℕ → ℕ → List Line → List StepLine
step_lines_from n caller [] = []
step_lines_from n caller (l ∷ ls) =
    elim (eqb l.code 1) [
      | true ↦ step_lines_from (suc n) l.first ls
      | false ↦
          elim (eqb l.code 2) [
            | true ↦
                record { line = n; caller = caller; goal = l.first; kind = kind_of l.second }
                ∷ step_lines_from (suc n) caller ls
            | false ↦ step_lines_from (suc n) caller ls
          ]
    ]

-- of a book's lines
abbrev pub step_lines : List Line → List StepLine
step_lines [] = []
step_lines (header ∷ ls) = step_lines_from 1 0 ls

abbrev pub EveryStep : (StepLine → Type 0) → List StepLine → Type 0
EveryStep P [] = Unit {0}
EveryStep P (s ∷ ss) = P s × EveryStep P ss

abbrev pub SomeStep : (StepLine → Type 0) → List StepLine → Type 0
SomeStep P [] = ⊥
SomeStep P (s ∷ ss) = P s ⊎ SomeStep P ss

-- each call line is a step of the goal in whose part it stands, and each step of a part has a line
pub record StepsAreLines (b : Book) (ls : List Line) : Type 0 where
  pub lines : EveryStep (λ s. T (has_step b s.caller s.goal s.kind)) (step_lines ls)
  pub steps : (caller goal : ℕ) (kind : PathKind) → T (has_step b caller goal kind)
      → SomeStep (λ s. (s.caller ≡ caller) × (s.goal ≡ goal) × (s.kind ≡ kind)) (step_lines ls)
