-- Verdicts on small books, by computation.
use mathlib.Core.Path.{◌≡◌, refl}
use mathlib.Core.List.{List, [], ◌∷◌}
use Prim.Native.Nat.{ℕ}
use Rattle.definition.specs.declared.replies.Refusal.TheVariants.{BookLength, BookBody}
use Rattle.definition.proofs.Example.{line, book}
use Rattle.soundness.specs.Groups.{reaches}
use Rattle.guarantee.specs.declared.Verdict.{Verdict}
use Rattle.guarantee.specs.declared.Verdict.TheVariants.{Refused, Given, Broken}
use Rattle.guarantee.specs.Guarantee.{guarantee_of}

abbrev header : ℕ → List ℕ
header goals = line 1 goals 5 2 1

abbrev goal : ℕ → List ℕ
goal g = line 1 g 0 0 0

-- kind 0 is inductive, 1 unknown, 2 coinductive
abbrev pub call : ℕ → ℕ → List ℕ
call g kind = line 2 g kind 1 0

abbrev any : ℕ → List ℕ
any n = line 4 n 0 0 0

abbrev broken : ℕ → ℕ → ℕ → Verdict
broken s t group = Broken (record { inductive = s; coinductive = t; group = group })

-- a goal that calls itself by an inductive step and an unknown one, or by a coinductive one and a forced one
pub one_kind_lem : guarantee_of (book (header 1 ∷ goal 0 ∷ any 2 ∷ call 0 0 ∷ call 0 1 ∷ [])) ≡ Given
unfolding reaches
one_kind_lem = refl

pub other_kind : guarantee_of (book (header 1 ∷ goal 0 ∷ any 2 ∷ call 0 2 ∷ call 0 3 ∷ [])) ≡ Given
unfolding reaches
other_kind = refl

-- by steps of both kinds: the first line of each kind, whichever stands first
pub both_kinds : guarantee_of (book (header 1 ∷ goal 0 ∷ any 4 ∷ call 0 2 ∷ call 0 0 ∷ call 0 0 ∷ call 0 2 ∷ []))
    ≡ broken 4 3 1
unfolding reaches
both_kinds = refl

-- goals 0 and 1 call each other by inductive steps, goals 2 and 3 by coinductive ones, and 1 calls 2 by either
abbrev pub rings : List ℕ → List ℕ
rings last =
    book
    (header 4 ∷ goal 0 ∷ call 1 0 ∷ goal 1 ∷ any 3 ∷ call 0 0 ∷ call 2 0 ∷ call 2 2
    ∷ goal 2 ∷ call 3 2 ∷ goal 3 ∷ last ∷ [])

pub bridge : guarantee_of (rings (call 2 2)) ≡ Given
unfolding reaches
bridge = refl

-- and 3 calls 0 in the place of 2: all four are linked
pub closed_bridge : guarantee_of (rings (call 0 1)) ≡ broken 2 7 15
unfolding reaches
closed_bridge = refl

-- goal 0 calls goals 1 and 2, which call each other: its own steps are outside their group, goals 1 and 2 as bits
pub second_group :
    guarantee_of (book (header 3 ∷ goal 0 ∷ any 2 ∷ call 1 0 ∷ call 2 2 ∷ goal 1 ∷ call 2 2 ∷ goal 2 ∷ call 1 0 ∷ []))
    ≡ broken 8 6 6
unfolding reaches
second_group = refl

-- a book that is refused
pub no_lines : guarantee_of [] ≡ Refused BookLength
no_lines = refl

pub no_such_goal : guarantee_of (book (header 1 ∷ goal 0 ∷ call 1 0 ∷ [])) ≡ Refused BookBody
no_such_goal = refl
