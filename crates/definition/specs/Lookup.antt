-- What `evaluate_goal` tries before it pushes a frame: the allowed depth, the two caches, a cycle on the stack.
use Rattle.std.specs.Prelude.{ℕ, ◌-◌, ◌/◌, Bool, true, false, not, ◌&&◌, ◌||◌, List, [], ◌∷◌, eqb, ltb, get_or}
use Rattle.std.proofs.Math.Option.{Option, none, some}
use Rattle.definition.specs.declared.paths.PathKind.{PathKind}
use Rattle.definition.specs.declared.answers.Answer.{Answer}
use Rattle.definition.specs.declared.format.Header.{Header}
use Rattle.definition.specs.Paths.{same_kind, extend_with, contains_path, flag_of}
use Rattle.definition.specs.Usages.{no_usages, add_usage}
use Rattle.definition.specs.Answers.{initial_provisional_result}
use Rattle.definition.specs.Heads.{CycleHeads, no_heads, opt_lowest_index, highest_index, insert_head}
use Rattle.definition.specs.Nested.{NestedGoals, nested_empty, nested_contains}
use Rattle.definition.specs.Stack.{Stack, cycle_path_kind, OnStack, stack_find}
use Rattle.definition.specs.Graph.{Entry, Graph, with_stack, Outcome, Done}
use Rattle.definition.specs.Parent.{update_parent_goal, Ordinary, CycleOnStack, ProvisionalCacheHit}
use Rattle.definition.specs.GlobalCache.{CacheData, cache_get}

-- `lower` is LowerAvailableDepth::Yes; nothing is overflow
abbrev pub allowed_depth_for_nested : Header → ℕ → Stack → Bool → Option ℕ
allowed_depth_for_nested h root_depth [] lower = some root_depth
allowed_depth_for_nested h root_depth (last ∷ fs) false = some last.available_depth
allowed_depth_for_nested h root_depth (last ∷ fs) true =
    elim (eqb last.available_depth 0) [
      | true ↦ none
      | false ↦
          elim last.encountered_overflow [
            | true ↦ some (last.available_depth / h.divisor)
            | false ↦ some (last.available_depth - 1)
          ]
    ]

-- ---- lookup_provisional_cache

-- is_none_or(|lowest| lowest > head)
abbrev pub none_or_above : Option ℕ → ℕ → Bool
none_or_above none head = true
none_or_above (some lowest) head = ltb head lowest

abbrev pub last_heads : Stack → CycleHeads
last_heads [] = []
last_heads (f ∷ fs) = f.heads

abbrev pub entry_matches : Stack → ℕ → PathKind → Entry → Bool
entry_matches s input step e =
    eqb e.input input
    && not (e.encountered_overflow && none_or_above (opt_lowest_index (last_heads s)) (highest_index e.heads))
    && same_kind e.path_from_head (cycle_path_kind s step (highest_index e.heads))

-- the first match in the order of insertion
abbrev pub first_match : Stack → ℕ → PathKind → List Entry → Option Entry
first_match s input step [] = none
first_match s input step (e ∷ es) = elim (entry_matches s input step e) [ true ↦ some e | false ↦ first_match s input step es ]

abbrev pub use_entry : Graph → PathKind → ℕ → Option Entry → Option Outcome
use_entry g step available none = none
use_entry g step available (some e) =
    some (Done (with_stack g (update_parent_goal g.stack step e.heads e.encountered_overflow ProvisionalCacheHit available)) e.result)

abbrev pub lookup_provisional_cache : Header → Graph → ℕ → PathKind → ℕ → Option Outcome
lookup_provisional_cache h g input step available =
    elim h.provisional [
      | false ↦ none
      | true ↦ use_entry g step available (first_match g.stack input step g.provisional_cache)
    ]

-- ---- lookup_global_cache
abbrev pub any_on_stack : Stack → NestedGoals → Bool
any_on_stack [] nested = false
any_on_stack (f ∷ fs) nested = nested_contains nested f.input || any_on_stack fs nested

-- the entry would apply to one of the nested goals
abbrev pub entry_applies : Stack → PathKind → NestedGoals → Entry → Bool
entry_applies s step nested e =
    nested_contains nested e.input
    && not e.encountered_overflow
    && contains_path (extend_with (get_or nested e.input 0) (cycle_path_kind s step (highest_index e.heads))) e.path_from_head

abbrev pub any_entry_applies : Stack → PathKind → NestedGoals → List Entry → Bool
any_entry_applies s step nested [] = false
any_entry_applies s step nested (e ∷ es) = entry_applies s step nested e || any_entry_applies s step nested es

abbrev pub candidate_is_applicable : Graph → PathKind → NestedGoals → Bool
candidate_is_applicable g step nested =
    nested_empty nested || (not (any_on_stack g.stack nested) && not (any_entry_applies g.stack step nested g.provisional_cache))

abbrev pub use_cache_data : Header → Graph → PathKind → ℕ → Option CacheData → Option Outcome
use_cache_data h g step available none = none
use_cache_data h g step available (some d) =
    some (Done
    (with_stack g (update_parent_goal g.stack step (no_heads h.goals) d.encountered_overflow (Ordinary d.nested_goals) (available - d.required_depth)))
    d.result)

abbrev pub lookup_global_cache : Header → Graph → ℕ → PathKind → ℕ → Option Outcome
lookup_global_cache h g input step available =
    use_cache_data h g step available (cache_get h g.global_cache input available (candidate_is_applicable g step))

-- ---- check_cycle_on_stack
abbrev pub cycle_head : ℕ → Stack → PathKind → ℕ → CycleHeads
cycle_head goals s step head = insert_head (no_heads goals) head (flag_of step) (add_usage no_usages (cycle_path_kind s step head))

-- the provisional result, or the initial one in the first iteration
abbrev pub cycle_result : Option Answer → PathKind → Answer
cycle_result (some result) pathKind = result
cycle_result none pathKind = initial_provisional_result pathKind

abbrev pub close_cycle : Header → Graph → ℕ → PathKind → ℕ → OnStack → Outcome
close_cycle h g input step available head =
    Done
    (with_stack g (update_parent_goal g.stack step (cycle_head h.goals g.stack step head.index) false (CycleOnStack input) available))
    (cycle_result head.provisional_result (cycle_path_kind g.stack step head.index))

abbrev pub check_cycle_on_stack : Header → Graph → ℕ → PathKind → ℕ → Option Outcome
check_cycle_on_stack h g input step available =
    elim (stack_find g.stack input) [ none ↦ none | some head ↦ some (close_cycle h g input step available head) ]
