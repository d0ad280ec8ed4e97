-- `SearchGraph`, `ProvisionalCacheEntry` and `EvaluationResult` of mod.rs, with the global cache beside them.
use Rattle.std.specs.Prelude.{ℕ, Bool, List}
use Rattle.std.proofs.Math.Option.{Option, none, some}
use Rattle.definition.specs.declared.paths.PathKind.{PathKind}
use Rattle.definition.specs.declared.answers.Answer.{Answer}
use Rattle.definition.specs.declared.replies.Refusal.{Refusal}
use Rattle.definition.specs.Heads.{CycleHeads}
use Rattle.definition.specs.Nested.{NestedGoals}
use Rattle.definition.specs.Stack.{Frame, Stack, required_depth_of}

-- ProvisionalCacheEntry. The entries of all goals are one list, in the order of insertion
pub record Entry : Type 0 where
  pub input : ℕ
  pub encountered_overflow : Bool
  pub heads : CycleHeads
  pub path_from_head : PathKind
  pub result : Answer

-- ---- an entry with one field that is another
abbrev pub with_entry_heads : Entry → CycleHeads → Entry
with_entry_heads e hs =
    record { input = e.input; encountered_overflow = e.encountered_overflow; heads = hs; path_from_head = e.path_from_head; result = e.result }

abbrev pub with_path_from_head : Entry → PathKind → Entry
with_path_from_head e path =
    record { input = e.input; encountered_overflow = e.encountered_overflow; heads = e.heads; path_from_head = path; result = e.result }

-- `globalCache` is document 01's notebook, in its bytes
pub record Graph : Type 0 where
  pub root_depth : ℕ
  pub stack : Stack
  pub provisional_cache : List Entry
  pub global_cache : List ℕ

abbrev pub with_stack : Graph → Stack → Graph
with_stack g s =
    record { root_depth = g.root_depth; stack = s; provisional_cache = g.provisional_cache; global_cache = g.global_cache }

abbrev pub with_provisional_cache : Graph → List Entry → Graph
with_provisional_cache g es =
    record { root_depth = g.root_depth; stack = g.stack; provisional_cache = es; global_cache = g.global_cache }

abbrev pub with_global_cache : Graph → List ℕ → Graph
with_global_cache g cache =
    record { root_depth = g.root_depth; stack = g.stack; provisional_cache = g.provisional_cache; global_cache = cache }

-- what an evaluation comes to; a refusal carries no state
pub data Outcome : Type 0 where
  Done : Graph → Answer → Outcome
  Stopped : Refusal → Outcome

-- the next step, unless this one was refused
abbrev pub and_then : Outcome → (Graph → Answer → Outcome) → Outcome
and_then (Done g a) next = next g a
and_then (Stopped r) next = Stopped r

-- the next lookup, unless this one found something
abbrev pub unless_found : Option Outcome → Outcome → Outcome
unless_found (some o) next = o
unless_found none next = next

-- `passes` is document 02's, item 8: how often the goal's part was run
pub record EvaluationResult : Type 0 where
  pub encountered_overflow : Bool
  pub required_depth : ℕ
  pub heads : CycleHeads
  pub nested_goals : NestedGoals
  pub result : Answer
  pub passes : ℕ

abbrev pub finalize : Frame → Bool → Answer → ℕ → EvaluationResult
finalize f overflow result passes =
    record {
      encountered_overflow = overflow;
      required_depth = required_depth_of f;
      heads = f.heads;
      nested_goals = f.nested_goals;
      result = result;
      passes = passes;
    }
