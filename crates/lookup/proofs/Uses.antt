-- What answers the goal changes the parent.
use mathlib.Core.Path.{◌≡◌, refl, ap, ap₂, ◌∙◌}
use mathlib.Core.Bool.{Bool, false}
use mathlib.Core.Option.{some}
use mathlib.Core.List.{List}
use Prim.Native.Nat.{ℕ, ◌-◌}
use Rattle.definition.specs.declared.paths.PathKind.{PathKind}
use Rattle.definition.specs.declared.usages.HeadUsages.{HeadUsages}
use Rattle.definition.specs.declared.answers.Answer.{Answer}
use Rattle.definition.specs.declared.format.Header.{Header}
use Rattle.definition.specs.Paths.{flag_of}
use Rattle.definition.specs.declared.paths.PathKind.TheVariants.{Inductive, Unknown, Coinductive, ForcedAmbiguity}
use Rattle.definition.specs.Usages.{counter_limit, no_usages, one_usage, add_usage}
use Rattle.definition.specs.Heads.{no_heads, insert_head}
use Rattle.definition.specs.Nested.{NestedGoals}
use Rattle.definition.specs.Stack.{cycle_path_kind}
use Rattle.definition.specs.Graph.{Done}
use Rattle.definition.specs.Parent.{update_parent_goal, Ordinary, CycleOnStack, ProvisionalCacheHit}
use Rattle.definition.specs.GlobalCache.{slot_result, slot_depth, slot_nested, cache_data}
use Rattle.definition.specs.Lookup.{use_entry, use_cache_data, cycle_result, close_cycle}
use Rattle.layout.specs.Entry.{entry_of}
use Rattle.layout.specs.Work.{stack_of, entries_of, graph_of}
use Rattle.definition.specs.Options.{maybe_of}
use Rattle.stack.specs.Results.{on_stack_of}
use Rattle.stack.specs.declared.OnStack.{OnStack}
use Rattle.provisional_cache.specs.Entries.{entry_bytes, entry_at}

-- the first usage of a head
one_first : (kind : PathKind) → one_usage kind ≡ add_usage no_usages kind
unfolding counter_limit
one_first Inductive = refl
one_first Unknown = refl
one_first Coinductive = refl
one_first ForcedAmbiguity = refl

-- the stack becomes that of the parent's update, and the entries stay
module _ (goals height : ℕ) (old new : List ℕ) (step : PathKind) (available : ℕ) (es : (n : ℕ) → entries_of goals n new ≡ entries_of goals n old) where
  -- ---- `use_entry`
  pub entry_used : (i : ℕ) (e : List ℕ) → e ≡ entry_bytes goals i old → (overflow : Bool) → overflow ≡ (entry_of goals e).encountered_overflow → (answer : Answer) → answer ≡ (entry_of goals e).result
      → stack_of goals height new ≡ update_parent_goal (stack_of goals height old) step (entry_at goals i old).heads overflow ProvisionalCacheHit available
      → (root n : ℕ) (cache : List ℕ) → some (Done (graph_of goals root height n new cache) answer) ≡ use_entry (graph_of goals root height n old cache) step available (some (entry_at goals i old))
  entry_used i e is-e overflow is-overflow answer is_answer stack root n cache =
      let o : overflow ≡ (entry_at goals i old).encountered_overflow = is-overflow ∙ ap (λ (b : List ℕ). (entry_of goals b).encountered_overflow) is-e in
      let a : answer ≡ (entry_at goals i old).result = is_answer ∙ ap (λ (b : List ℕ). (entry_of goals b).result) is-e in
      let s = stack ∙ ap (λ (b : Bool). update_parent_goal (stack_of goals height old) step (entry_at goals i old).heads b ProvisionalCacheHit available) o in
      λ t. some (Done (record { root_depth = root; stack = s t; provisional_cache = es n t; global_cache = cache }) (a t))

-- the same, with a header
module _ (h : Header) (height : ℕ) (old new : List ℕ) (step : PathKind) (available : ℕ) (es : (n : ℕ) → entries_of h.goals n new ≡ entries_of h.goals n old) where
  -- ---- `use_slot`
  pub slot_used : (slot nested : List ℕ) (overflow : Bool) (depth reached : ℕ) (answer : Answer) → depth ≡ slot_depth slot → reached ≡ available - depth → nested ≡ slot_nested slot → answer ≡ slot_result slot
      → stack_of h.goals height new ≡ update_parent_goal (stack_of h.goals height old) step (no_heads h.goals) overflow (Ordinary nested) reached
      → (root n : ℕ) (cache : List ℕ) → some (Done (graph_of h.goals root height n new cache) answer) ≡ use_cache_data h (graph_of h.goals root height n old cache) step available (some (cache_data slot overflow))
  slot_used slot nested overflow depth reached answer is-depth is-reached is-nested is_answer stack root n cache =
      let d : reached ≡ available - slot_depth slot = is-reached ∙ ap (λ (k : ℕ). available - k) is-depth in
      let s =
      stack
      ∙ ap₂ (λ (ns : NestedGoals) (k : ℕ). update_parent_goal (stack_of h.goals height old) step (no_heads h.goals) overflow (Ordinary ns) k) is-nested d in
      λ t. some (Done (record { root_depth = root; stack = s t; provisional_cache = es n t; global_cache = cache }) (is_answer t))

  -- ---- `close_cycle`
  pub cycle_closed : (goal : ℕ) (head : OnStack) (kind : PathKind) (answer : Answer) → kind ≡ cycle_path_kind (stack_of h.goals height old) step head.index → answer ≡ cycle_result (maybe_of head.provisional_result) kind
      → stack_of h.goals height new ≡ update_parent_goal (stack_of h.goals height old) step (insert_head (no_heads h.goals) head.index (flag_of step) (one_usage kind)) false (CycleOnStack goal) available
      → (root n : ℕ) (cache : List ℕ) → Done (graph_of h.goals root height n new cache) answer ≡ close_cycle h (graph_of h.goals root height n old cache) goal step available (on_stack_of head)
  cycle_closed goal head kind answer is-kind is_answer stack root n cache =
      let u : one_usage kind ≡ add_usage no_usages (cycle_path_kind (stack_of h.goals height old) step head.index) = one_first kind ∙ ap (add_usage no_usages) is-kind in
      let a = is_answer ∙ ap (cycle_result (maybe_of head.provisional_result)) is-kind in
      let s =
      stack
      ∙ ap (λ (x : HeadUsages). update_parent_goal (stack_of h.goals height old) step (insert_head (no_heads h.goals) head.index (flag_of step) x) false (CycleOnStack goal) available) u in
      λ t. Done (record { root_depth = root; stack = s t; provisional_cache = es n t; global_cache = cache }) (a t)
