-- What specs/Trace.antt says, and what Always says of traces, on examples: a wrong version makes a fact of this file false.
use mathlib.Core.Bool.{false, true}
use mathlib.Core.List.{List, [], ◌∷◌}
use mathlib.Core.Path.{◌≡◌, ap, refl}
use Prim.Native.Nat.{ℕ}
use native.Mathlib.Omega.{arith}
use lib.ListN.{get_or, replicate}
use Rattle.definition.specs.Answers.{answer_number}
use Rattle.definition.specs.Graph.{Done, EvaluationResult, Graph, Stopped}
use Rattle.definition.specs.Part.{All, Any, Book, Call, End, Node, Part, Parts, Pick, Then, UndecidedLine}
use Rattle.definition.specs.Answers.{combine}
use Rattle.definition.specs.Usages.{counter_limit}
use Rattle.definition.specs.declared.answers.Answer.TheVariants.{Yes}
use Rattle.definition.specs.declared.format.Header.{Header}
use Rattle.definition.specs.declared.replies.Refusal.TheVariants.{CacheConflict, ProvisionalCacheFull}
use Rattle.definition.specs.declared.paths.PathKind.TheVariants.{Coinductive, ForcedAmbiguity, Inductive, Unknown}
use Rattle.soundness.specs.Always.{Conflict, EventInOrder, Full, HoldsOther, Run}
use Rattle.soundness.specs.Trace.{Act, Answers, Computes, EndsWith, Evaluates, Event, InsertsEntry, InsertsInSlot, MeetsOnly, Trace, goal_of, trace_root}

-- ---- a trace in short: what happens, and the goal
data Word : Type 0 where
  evaluates computes answers entry slot : ℕ → Word

abbrev word : Act → Word
word (Evaluates goal) = evaluates goal
word (Computes goal) = computes goal
word (Answers goal) = answers goal
word (InsertsEntry goal r) = entry goal
word (InsertsInSlot goal r) = slot goal

abbrev words : Trace → List Word
words [] = []
words (e ∷ es) = word e.act ∷ words es

abbrev header : ℕ → ℕ → ℕ → Header
header goals top limit = record { provisional = true; goals = goals; top = top; limit = limit; divisor = 1 }

-- ---- goal 0 is all of 1 and 2, goal 1 a pick of 0, goal 2 an any of nothing
abbrev ring : Book
ring =
    record {
      header = header 3 1 3;
      parts =
          Node All (Then (Call 1 Coinductive false) (Then (Call 2 Inductive false) End))
          ∷ Node Pick (Then (Call 0 Coinductive false) End)
          ∷ Node Any End
          ∷ [];
    }

-- goal 0 starts from Yes, comes to No, and runs again, where its all stops at the first No
ring_meets : words (trace_root ring (replicate 54 0) 0 1)
    ≡ evaluates 0 ∷ computes 0
    ∷ evaluates 1 ∷ computes 1 ∷ evaluates 0 ∷ answers 0 ∷ entry 1 ∷ answers 1
    ∷ evaluates 2 ∷ computes 2 ∷ slot 2 ∷ answers 2
    ∷ computes 0 ∷ evaluates 1 ∷ computes 1 ∷ evaluates 0 ∷ answers 0 ∷ entry 1 ∷ answers 1
    ∷ slot 0 ∷ answers 0 ∷ []
unfolding counter_limit combine
ring_meets = refl

-- ---- goal 0 is any of 1 and 2, goal 1 an undecided line, goal 2 a call of 1, which lowers the depth, or all of nothing
abbrev line : Book
line =
    record {
      header = header 3 0 1;
      parts =
          Node Any (Then (Call 1 Inductive false) (Then (Call 2 Inductive false) (Then (Call 1 Inductive false) End)))
          ∷ UndecidedLine
          ∷ Node Any (Then (Call 1 Inductive true) (Then (Node All End) End))
          ∷ [];
    }

-- the call at depth 0 overflows, and an any stops at a Yes
line_meets : words (trace_root line (replicate 36 0) 0 0)
    ≡ evaluates 0 ∷ computes 0
    ∷ evaluates 1 ∷ computes 1 ∷ slot 1 ∷ answers 1
    ∷ evaluates 2 ∷ computes 2 ∷ evaluates 1 ∷ answers 1 ∷ slot 2 ∷ answers 2
    ∷ slot 0 ∷ answers 0 ∷ []
unfolding counter_limit
line_meets = refl

-- ---- refusal 10: goal 0 is a pick of eight calls, each of which leaves an entry; the seventh is one too many
abbrev calls : List Part → Parts
calls [] = End
calls (p ∷ ps) = Then p (calls ps)

abbrev eight_calls : Book
eight_calls =
    record {
      header = header 3 2 1;
      parts =
          Node Pick (calls (
          Call 1 Inductive true ∷ Call 2 Inductive true ∷ Call 1 Unknown true ∷ Call 2 Unknown true
          ∷ Call 1 Coinductive true ∷ Call 2 Coinductive true ∷ Call 1 ForcedAmbiguity true ∷ Call 2 ForcedAmbiguity true ∷ []))
          ∷ Call 0 Inductive true
          ∷ Call 0 Inductive true
          ∷ [];
    }

full_met : EndsWith (Full (header 3 2 1)) (trace_root eight_calls (replicate 84 0) 0 2)
unfolding counter_limit
full_met = (1, _, refl, refl)

-- ---- refusal 11: any of nothing, whose slot in the cache says Yes with required depth 5, asked at depth 3
abbrev empty_any : Book
empty_any = record { header = header 1 5 1; parts = Node Any End ∷ [] }

conflict_met : EndsWith (Conflict (header 1 5 1)) (trace_root empty_any (1 ∷ 1 ∷ 5 ∷ 1 ∷ 0 ∷ replicate 30 0) 0 3)
unfolding counter_limit
conflict_met = (0, _, refl, (tt, λ e. omega (arith, ap answer_number e)))

-- ---- what is no condition
abbrev ran : ℕ → EvaluationResult
ran passes =
    record { encountered_overflow = false; required_depth = 0; heads = []; nested_goals = 0 ∷ []; result = Yes; passes = passes }

abbrev result : EvaluationResult
result = ran 1

abbrev event : List ℕ → Act → Event
event cache act =
    record { state = record { root_depth = 0; stack = []; provisional_cache = []; global_cache = cache }; act = act }

-- no entry is live
not_full : Full (header 1 0 1) (event (replicate 10 0) (InsertsEntry 0 result)) → ⊥
not_full (goal, r, z, l) = omega arith

-- the slot holds the same result; it holds none
same_result : HoldsOther (1 ∷ 1 ∷ 0 ∷ 1 ∷ 0 ∷ []) Yes → ⊥
same_result h = h.1 refl

no_result : HoldsOther (0 ∷ 0 ∷ 0 ∷ 0 ∷ 0 ∷ []) Yes → ⊥
no_result h = h.0

-- only an insertion is refused so
not_inserted : (act : Act) → (goal : ℕ) → act ≡ Evaluates goal → Conflict (header 1 0 1) (event (1 ∷ 0 ∷ 0 ∷ 1 ∷ 0 ∷ []) act) → ⊥
not_inserted act goal e (g, r, z, h) = let x : ◌≡◌ {A = ℕ} 0 1 = cc in omega arith

-- ---- every event, and the last
goal_beyond : EventInOrder (header 1 0 1) (event (replicate 10 0) (Computes 1)) → ⊥
goal_beyond o = omega (arith, o.1)

-- L is 1: an insertion says one pass, and neither none nor two
slot_never_run : EventInOrder (header 1 0 1) (event (replicate 10 0) (InsertsInSlot 0 (ran 0))) → ⊥
slot_never_run o = omega (arith, o.2.once)

entry_run_twice : EventInOrder (header 1 0 1) (event (replicate 10 0) (InsertsEntry 0 (ran 2))) → ⊥
entry_run_twice o = omega (arith, o.2.most)

every_event : MeetsOnly (λ e. goal_of e.act ≡ 0) (event [] (Computes 0) ∷ event [] (Computes 1) ∷ []) → ⊥
every_event m = omega (arith, m.1.0)

last_event : EndsWith (λ e. goal_of e.act ≡ 0) (event [] (Computes 0) ∷ event [] (Computes 1) ∷ []) → ⊥
last_event m = omega (arith, m)

no_event : EndsWith (λ e. Unit {0}) [] → ⊥
no_event m = m

-- ---- a run: a refusal has its insertion, an answer its state
full_without_events : Run (header 1 0 1) [] (Stopped ProvisionalCacheFull) → ⊥
full_without_events r = r.full refl

conflict_without_events : Run (header 1 0 1) [] (Stopped CacheConflict) → ⊥
conflict_without_events r = r.conflict refl

-- the state that was met last has another cache than the one that is left
abbrev left : Graph
left = (event (1 ∷ replicate 9 0) (Answers 0)).state

leaves_another : Run (header 1 0 1) (event (replicate 10 0) (Answers 0) ∷ []) (Done left Yes) → ⊥
leaves_another r = omega (arith, ap (λ g. get_or g.global_cache 0 0) (r.leaves left Yes refl))

out_of_order : Run (header 1 0 1) (event [] (Answers 0) ∷ []) (Done (event [] (Answers 0)).state Yes) → ⊥
out_of_order r = omega (arith, r.in_order.0.0.cache.size)
