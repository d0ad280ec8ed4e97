-- What the lookups find, by the ways through the code.
use mathlib.Core.Path.{◌≡◌, refl, sym, ap, ◌∙◌}
use mathlib.Core.Bool.{Bool, true, false, not, ◌&&◌}
use mathlib.Core.Option.{Option, none, some}
use mathlib.Core.List.{List}
use Prim.Native.Nat.{ℕ, ◌+◌, ◌<◌}
use native.Mathlib.Omega.{arith}
use borrow.Author.Tests.{not-true, not-false}
use lib.Dec.{leb}
use Rattle.definition.specs.declared.paths.PathKind.{PathKind}
use Rattle.definition.specs.declared.answers.Answer.{Answer}
use Rattle.definition.specs.declared.answers.Answer.TheVariants as answer
use Rattle.definition.specs.declared.format.Header.{Header}
use Rattle.definition.specs.Stack as definition
use Rattle.definition.specs.Stack.{stack_find}
use Rattle.definition.specs.Graph.{Entry, Graph, Outcome, Done, unless_found, with_stack}
use Rattle.definition.specs.Parent.{handle_overflow}
use Rattle.definition.specs.GlobalCache.{slot_at, slot_held, slot_depth, slot_nested, cache_data, get_from_slots, get_with_overflow, CacheData}
use Rattle.definition.specs.Lookup.{allowed_depth_for_nested, candidate_is_applicable, first_match, use_entry, use_cache_data, close_cycle, lookup_provisional_cache, lookup_global_cache, check_cycle_on_stack}
use Rattle.definition.specs.Evaluate.{evaluate_new_frame, evaluate_at_depth, evaluate_goal_with}
use Rattle.layout.specs.Work.{stack_of, entries_of, graph_of}
use Rattle.std.specs.Prelude.{Option as Maybe, Some, None}
use Rattle.definition.specs.Options.{maybe_of}
use Rattle.stack.specs.Results.{on_stack_of, found_of}
use Rattle.stack.specs.declared.OnStack.{OnStack}
use Rattle.provisional_cache.specs.Entries.{entry_at, entry_found}
use Rattle.lookup.specs.Lookups.{applicable, found}
use Rattle.lookup.specs.Hits.{hit_of}
use Rattle.lookup.specs.declared.Found.TheVariants.{Known, Push}

-- ---- which variant it is
pub known_pushes : (a : Answer) (d : ℕ) {P : Type 0} → Known a ≡ Push d → P
known_pushes a d e = let z : ◌≡◌ {A = ℕ} 0 1 = cc in absurd (omega arith)

pub push_small : (x d : ℕ) → x < 256 → Push x ≡ Push d → d < 256
push_small x d lt e = let z : x ≡ d = cc in omega arith

-- ---- `lookup_provisional_cache`
module _ (h : Header) (height n goal : ℕ) (step : PathKind) (available : ℕ) (bs : List ℕ) (root : ℕ) (cache : List ℕ) where
  abbrev g : Graph
  g = graph_of h.goals root height n bs cache

  abbrev switch : Bool → Option Entry → Option Outcome
  switch t e = elim t [ false ↦ none | true ↦ use_entry g step available e ]

  pub switched_off : not h.provisional ≡ true → none ≡ lookup_provisional_cache h g goal step available
  switched_off off =
      sym (ap (λ (t : Bool). switch t (first_match g.stack goal step g.provisional_cache)) (not-true h.provisional off))

  module _ (on : not h.provisional ≡ false) (r : Maybe ℕ) (is-r : entry_found h.goals r bs ≡ first_match (stack_of h.goals height bs) goal step (entries_of h.goals n bs)) where
    opened : lookup_provisional_cache h g goal step available ≡ use_entry g step available (entry_found h.goals r bs)
    opened =
        ap (λ (t : Bool). switch t (first_match g.stack goal step g.provisional_cache)) (not-false h.provisional on)
        ∙ ap (use_entry g step available) (sym is-r)

    by : (x : Maybe ℕ) → r ≡ x → lookup_provisional_cache h g goal step available ≡ use_entry g step available (entry_found h.goals x bs)
    by x e = opened ∙ ap (λ (y : Maybe ℕ). use_entry g step available (entry_found h.goals y bs)) e

    pub entry_missed : r ≡ None → none ≡ lookup_provisional_cache h g goal step available
    entry_missed e = sym (by None e)

    pub entry_hit : (i : ℕ) → r ≡ Some i → (o : Option Outcome) → o ≡ use_entry g step available (some (entry_at h.goals i bs)) → o ≡ lookup_provisional_cache h g goal step available
    entry_hit i e o is-o = is-o ∙ sym (by (Some i) e)

-- ---- `lookup_global_cache`: `first` is the success slot, x whether it applies
module _ (h : Header) (height n goal : ℕ) (step : PathKind) (available : ℕ) (bs cache : List ℕ) (root : ℕ)
    (first : List ℕ) (is_first : first ≡ slot_at h cache goal 0)
    (x : Bool) (is_x : x ≡ (slot_held first && leb (slot_depth first) available && applicable h.goals height n bs step (slot_nested first))) where
  abbrev here : Graph
  here = graph_of h.goals root height n bs cache

  abbrev answered : Option CacheData → Option Outcome
  answered d = use_cache_data h here step available d

  abbrev later : List ℕ → Option CacheData
  later s = get_with_overflow (candidate_is_applicable here step) s

  tried : lookup_global_cache h here goal step available ≡ answered (elim x [ true ↦ some (cache_data first false) | false ↦ later (slot_at h cache goal (available + 1)) ])
  tried =
      ap (λ (s : List ℕ). answered (get_from_slots (candidate_is_applicable here step) available s (slot_at h cache goal (available + 1)))) (sym is_first)
      ∙ ap (λ (t : Bool). answered (elim t [ true ↦ some (cache_data first false) | false ↦ later (slot_at h cache goal (available + 1)) ])) (sym is_x)

  pub success_hit : x ≡ true → (o : Option Outcome) → o ≡ use_cache_data h here step available (some (cache_data first false)) → o ≡ lookup_global_cache h here goal step available
  success_hit e o is-o =
      is-o ∙ sym (tried ∙ ap (λ (t : Bool). answered (elim t [ true ↦ some (cache_data first false) | false ↦ later (slot_at h cache goal (available + 1)) ])) e)

  -- `second` is the overflow slot, y whether it applies
  module _ (left : x ≡ false) (second : List ℕ) (is-second : second ≡ slot_at h cache goal (available + 1)) (y : Bool) (is_y : y ≡ (slot_held second && applicable h.goals height n bs step (slot_nested second))) where
    tried_again : lookup_global_cache h here goal step available ≡ answered (elim y [ true ↦ some (cache_data second true) | false ↦ none ])
    tried_again =
        tried
        ∙ ap (λ (t : Bool). answered (elim t [ true ↦ some (cache_data first false) | false ↦ later (slot_at h cache goal (available + 1)) ])) left
        ∙ ap (λ (s : List ℕ). answered (later s)) (sym is-second)
        ∙ ap (λ (t : Bool). answered (elim t [ true ↦ some (cache_data second true) | false ↦ none ])) (sym is_y)

    pub overflow_hit : y ≡ true → (o : Option Outcome) → o ≡ use_cache_data h here step available (some (cache_data second true)) → o ≡ lookup_global_cache h here goal step available
    overflow_hit e o is-o = is-o ∙ sym (tried_again ∙ ap (λ (t : Bool). answered (elim t [ true ↦ some (cache_data second true) | false ↦ none ])) e)

    pub slots_missed : y ≡ false → none ≡ lookup_global_cache h here goal step available
    slots_missed e = sym (tried_again ∙ ap (λ (t : Bool). answered (elim t [ true ↦ some (cache_data second true) | false ↦ none ])) e)

-- ---- `check_cycle_on_stack`
module _ (h : Header) (height goal : ℕ) (step : PathKind) (available : ℕ) (bs : List ℕ) (place : Maybe OnStack)
    (is_place : found_of place ≡ stack_find (stack_of h.goals height bs) goal) (root n : ℕ) (cache : List ℕ) where
  abbrev there : Graph
  there = graph_of h.goals root height n bs cache

  abbrev closed : Option definition.OnStack → Option Outcome
  closed p = elim p [ none ↦ none | some head ↦ some (close_cycle h there goal step available head) ]

  pub cycle_hit : (head : OnStack) → place ≡ Some head → (o : Outcome) → o ≡ close_cycle h there goal step available (on_stack_of head) → some o ≡ check_cycle_on_stack h there goal step available
  cycle_hit head e o is-o = ap some is-o ∙ ap closed (sym (ap found_of e) ∙ is_place)

  pub cycle_missed : place ≡ None → none ≡ check_cycle_on_stack h there goal step available
  cycle_missed e = ap closed (sym (ap found_of e) ∙ is_place)

-- nothing was found: the goal is on no frame
pub cycle_off : (h : Header) (g : Graph) (goal : ℕ) (step : PathKind) (available : ℕ) (r : Maybe Answer) (x : Graph)
    → hit_of r x ≡ check_cycle_on_stack h g goal step available → r ≡ None → stack_find g.stack goal ≡ none
cycle_off h g goal step available r x is e =
    by (stack_find g.stack goal) (sym (ap (λ (p : Maybe Answer). hit_of p x) e) ∙ is)
  where
    closes : Option definition.OnStack → Option Outcome
    closes p = elim p [ none ↦ none | some head ↦ some (close_cycle h g goal step available head) ]

    by : (p : Option definition.OnStack) → none ≡ closes p → p ≡ none
    by none q = refl
    by (some head) q = let z : ◌≡◌ {A = ℕ} 0 1 = cc in absurd (omega arith)

-- ---- `lookup_at_depth`
hit_known : (o : Option Outcome) (next : Outcome) (r : Maybe Answer) (x : Graph) (a : Answer) → hit_of r x ≡ o → r ≡ Some a → unless_found o next ≡ Done x a
hit_known o next r x a is-o e = ap (λ (p : Option Outcome). unless_found p next) (sym is-o) ∙ ap (λ (p : Maybe Answer). unless_found (hit_of p x) next) e

hit_none : (o : Option Outcome) (next : Outcome) (r : Maybe Answer) (x : Graph) → hit_of r x ≡ o → r ≡ None → unless_found o next ≡ next
hit_none o next r x is-o e = ap (λ (p : Option Outcome). unless_found p next) (sym is-o) ∙ ap (λ (p : Maybe Answer). unless_found (hit_of p x) next) e

module _ (h : Header) (height n goal : ℕ) (step : PathKind) (available : ℕ) (cache : List ℕ) (root : ℕ) (compute : ℕ → Graph → Outcome) where
  abbrev at : List ℕ → Graph
  at bs = graph_of h.goals root height n bs cache

  abbrev pushed : List ℕ → Outcome
  pushed bs = evaluate_new_frame h compute (at bs) goal step available

  abbrev third : List ℕ → Outcome
  third bs = unless_found (check_cycle_on_stack h (at bs) goal step available) (pushed bs)

  abbrev second : List ℕ → Outcome
  second bs = unless_found (lookup_global_cache h (at bs) goal step available) (third bs)

  abbrev whole : List ℕ → Outcome
  whole bs = evaluate_at_depth h compute (at bs) goal step available

  module _ (b0 b1 : List ℕ) (r1 : Maybe Answer) (is-1 : hit_of r1 (at b1) ≡ lookup_provisional_cache h (at b0) goal step available) where
    pub at_entry : (a : Answer) → r1 ≡ Some a → whole b0 ≡ found h compute goal step (Known a) (at b1)
    unfolding found
    at_entry a e = hit_known (lookup_provisional_cache h (at b0) goal step available) (second b0) r1 (at b1) a is-1 e

    module _ (miss-1 : r1 ≡ None) (same-1 : b1 ≡ b0) where
      past_entries : whole b0 ≡ second b1
      past_entries = hit_none (lookup_provisional_cache h (at b0) goal step available) (second b0) r1 (at b1) is-1 miss-1 ∙ ap second (sym same-1)

      module _ (b2 : List ℕ) (r2 : Maybe Answer) (is-2 : hit_of r2 (at b2) ≡ lookup_global_cache h (at b1) goal step available) where
        pub at_slot : (a : Answer) → r2 ≡ Some a → whole b0 ≡ found h compute goal step (Known a) (at b2)
        unfolding found
        at_slot a e = past_entries ∙ hit_known (lookup_global_cache h (at b1) goal step available) (third b1) r2 (at b2) a is-2 e

        module _ (miss-2 : r2 ≡ None) (same-2 : b2 ≡ b1) where
          past_slots : whole b0 ≡ third b2
          past_slots = past_entries ∙ hit_none (lookup_global_cache h (at b1) goal step available) (third b1) r2 (at b2) is-2 miss-2 ∙ ap third (sym same-2)

          module _ (b3 : List ℕ) (r3 : Maybe Answer) (is-3 : hit_of r3 (at b3) ≡ check_cycle_on_stack h (at b2) goal step available) where
            pub at_cycle : (a : Answer) → r3 ≡ Some a → whole b0 ≡ found h compute goal step (Known a) (at b3)
            unfolding found
            at_cycle a e = past_slots ∙ hit_known (check_cycle_on_stack h (at b2) goal step available) (pushed b2) r3 (at b3) a is-3 e

            pub at_push : r3 ≡ None → b3 ≡ b2 → whole b0 ≡ found h compute goal step (Push available) (at b3)
            unfolding found
            at_push e same-3 = past_slots ∙ hit_none (check_cycle_on_stack h (at b2) goal step available) (pushed b2) r3 (at b3) is-3 e ∙ ap pushed (sym same-3)

-- ---- `lookup`
module _ (h : Header) (root height n goal : ℕ) (step : PathKind) (lower : Bool) (old cache : List ℕ) (depth : Maybe ℕ)
    (is-depth : maybe_of depth ≡ allowed_depth_for_nested h root (stack_of h.goals height old) lower) (compute : ℕ → Graph → Outcome) where
  abbrev start : Graph
  start = graph_of h.goals root height n old cache

  abbrev goes : Option ℕ → Outcome
  goes d =
      elim d [
        | none ↦ Done (with_stack start (handle_overflow start.stack)) answer.Overflow
        | some available ↦ evaluate_at_depth h compute start goal step available
      ]

  pub depth_allowed : (d : ℕ) → depth ≡ Some d → evaluate_goal_with h compute start goal step lower ≡ evaluate_at_depth h compute start goal step d
  depth_allowed d e = ap goes (sym is-depth ∙ ap maybe_of e)

  pub depth_overflow : depth ≡ None → (new : List ℕ) → stack_of h.goals height new ≡ handle_overflow (stack_of h.goals height old) → ((k : ℕ) → entries_of h.goals k new ≡ entries_of h.goals k old)
      → evaluate_goal_with h compute start goal step lower ≡ found h compute goal step (Known answer.Overflow) (graph_of h.goals root height n new cache)
  unfolding found
  depth_overflow e new s es =
      ap goes (sym is-depth ∙ ap maybe_of e)
      ∙ (λ t. Done (record { root_depth = root; stack = sym s t; provisional_cache = sym (es n) t; global_cache = cache }) answer.Overflow)
