-- The tests of one entry, by the ways through the code.
use mathlib.Core.Path.{◌≡◌, refl, sym, ap, ap₂, ◌∙◌}
use mathlib.Core.Bool.{Bool, true, false, not, ◌&&◌, ◌||◌}
use mathlib.Core.Option.{Option, none, some}
use mathlib.Core.List.{List, [], ◌∷◌, ◌++◌}
use Prim.Native.Nat.{ℕ, suc, ◌-◌, ◌<◌}
use native.Mathlib.Omega.{arith}
use borrow.Author.Tests.{eq-eqb, ne_eqb}
use lib.Dec.{eqb, ltb}
use lib.ListN.{get_or, replicate}
use Rattle.definition.specs.declared.paths.PathKind.{PathKind}
use Rattle.definition.specs.declared.usages.HeadUsages.{HeadUsages}
use Rattle.definition.specs.Paths.{same_kind, extend_with, contains_path}
use Rattle.definition.specs.Usages.{is_empty}
use Rattle.definition.specs.Heads.{CycleHeads, opt_lowest_index, opt_highest_index, heads_empty, highest_index, usages_at}
use Rattle.definition.specs.Nested.{NestedGoals}
use Rattle.definition.specs.Stack.{Stack, cycle_path_kind}
use Rattle.definition.specs.Graph.{Entry}
use Rattle.definition.specs.Lookup.{none_or_above, last_heads, entry_matches, entry_applies}
use Rattle.definition.specs.ProvisionalCache.{survives_rerun}
use Rattle.bits.specs.Masks.{flags, first_place, place_or}
use Rattle.bits.proofs.Ends.{first_more}
use Rattle.layout.specs.Blocks.{present, heads_size, heads_of}
use Rattle.layout.specs.Frame.{heads_start, frame_of}
use Rattle.layout.specs.Work.{stack_of}
use Rattle.layout.proofs.Present.{lowest_place}
use Rattle.buffer.specs.Regions.{region}
use Rattle.stack.specs.Bytes.{frame_bytes}
use Rattle.stack.proofs.Loops.{top, none_left}

-- ---- the lowest head of the top frame
abbrev absent : Option ℕ → Bool
absent o = elim o [ none ↦ true | some i ↦ false ]

abbrev further : Option ℕ → Option ℕ
further o = elim o [ none ↦ none | some i ↦ some (suc i) ]

absent_further : (o : Option ℕ) → absent (further o) ≡ absent o
absent_further none = refl
absent_further (some i) = refl

-- heads are empty where there is no lowest
empty_lowest : (hs : CycleHeads) → heads_empty hs ≡ absent (opt_lowest_index hs)
empty_lowest [] = refl
empty_lowest (some h ∷ hs) = go (opt_highest_index hs)
  where
    go : (o : Option ℕ) → absent (elim o [ none ↦ some 0 | some i ↦ some (suc i) ]) ≡ false
    go none = refl
    go (some i) = refl
empty_lowest (none ∷ hs) = absent_further (opt_highest_index hs) ∙ empty_lowest hs ∙ sym (absent_further (opt_lowest_index hs))

above_none : (o : Option ℕ) (head : ℕ) → absent o ≡ true → true ≡ none_or_above o head
above_none none head e = refl
above_none (some i) head e = let z : ◌≡◌ {A = ℕ} 0 1 = cc in absurd (omega arith)

above_some : (o : Option ℕ) (head : ℕ) → absent o ≡ false → ltb head (place_or 64 o) ≡ none_or_above o head
above_some none head e = let z : ◌≡◌ {A = ℕ} 0 1 = cc in absurd (omega arith)
above_some (some i) head e = refl

module _ (goals height head : ℕ) (bs : List ℕ) where
  pub above_root : height ≡ 0 → true ≡ none_or_above (opt_lowest_index (last_heads (stack_of goals height bs))) head
  above_root z = sym (ap (λ (s : Stack). none_or_above (opt_lowest_index (last_heads s)) head) (none_left goals bs height (omega arith)))

  -- the heads hs of the top frame f
  module _ (pos : 0 < height) (f hs : List ℕ) (is_f : f ≡ frame_bytes goals (height - 1) bs) (is-hs : hs ≡ region heads_start (heads_size goals) f) where
    top_heads : heads_of goals hs ≡ last_heads (stack_of goals height bs)
    unfolding frame_of
    top_heads =
        ap (heads_of goals) (is-hs ∙ ap (region heads_start (heads_size goals)) is_f)
        ∙ sym (ap last_heads (top goals bs height pos))

    pub above_empty : heads_empty (heads_of goals hs) ≡ true → true ≡ none_or_above (opt_lowest_index (last_heads (stack_of goals height bs))) head
    above_empty e =
        above_none (opt_lowest_index (heads_of goals hs)) head (sym (empty_lowest (heads_of goals hs)) ∙ e)
        ∙ ap (λ (h : CycleHeads). none_or_above (opt_lowest_index h) head) top_heads

    pub above_lowest : heads_empty (heads_of goals hs) ≡ false → (n m : ℕ) → flags 64 m ≡ present (heads_of goals hs) ++ replicate n false → (l : ℕ) → l ≡ place_or 64 (first_place (flags 64 m))
        → ltb head l ≡ none_or_above (opt_lowest_index (last_heads (stack_of goals height bs))) head
    above_lowest e n m is_m l is-l =
        ap (ltb head) (is-l ∙ ap (place_or 64) (ap first_place is_m ∙ first_more (present (heads_of goals hs)) n ∙ lowest_place (heads_of goals hs)))
        ∙ above_some (opt_lowest_index (heads_of goals hs)) head (sym (empty_lowest (heads_of goals hs)) ∙ e)
        ∙ ap (λ (h : CycleHeads). none_or_above (opt_lowest_index h) head) top_heads

-- ---- `is_match`
abbrev three : Bool → Bool → Bool → Bool
three t u v = t && not u && v

pub match_other : (s : Stack) (goal : ℕ) (step : PathKind) (e : Entry) → (e.input ≡ goal → ⊥) → false ≡ entry_matches s goal step e
match_other s goal step e ne =
    sym (ap (λ (t : Bool). three t (e.encountered_overflow && none_or_above (opt_lowest_index (last_heads s)) (highest_index e.heads)) (same_kind e.path_from_head (cycle_path_kind s step (highest_index e.heads)))) (ne_eqb e.input goal ne))

module _ (s : Stack) (goal : ℕ) (step : PathKind) (e : Entry) (head : ℕ) (is_head : head ≡ highest_index e.heads) (same : e.input ≡ goal)
    (h : Bool) (is-h : h ≡ (e.encountered_overflow && none_or_above (opt_lowest_index (last_heads s)) head)) where
  opened : three true h (same_kind e.path_from_head (cycle_path_kind s step head)) ≡ entry_matches s goal step e
  opened =
      ap₂ (λ (t u : Bool). three t u (same_kind e.path_from_head (cycle_path_kind s step head))) (sym (eq-eqb e.input goal same)) is-h
      ∙ ap (λ (k : ℕ). three (eqb e.input goal) (e.encountered_overflow && none_or_above (opt_lowest_index (last_heads s)) k) (same_kind e.path_from_head (cycle_path_kind s step k))) is_head

  pub match_hidden : h ≡ true → false ≡ entry_matches s goal step e
  match_hidden t = sym (ap (λ (x : Bool). three true x (same_kind e.path_from_head (cycle_path_kind s step head))) t) ∙ opened

  pub match_shown : h ≡ false → (p k : PathKind) → p ≡ e.path_from_head → k ≡ cycle_path_kind s step head → (r : Bool) → r ≡ same_kind p k → r ≡ entry_matches s goal step e
  match_shown t p k is-p is-k r is-r =
      is-r ∙ ap₂ same_kind is-p is-k ∙ sym (ap (λ (x : Bool). three true x (same_kind e.path_from_head (cycle_path_kind s step head))) t) ∙ opened

-- ---- `applies`
abbrev all : Bool → Bool → Bool → Bool
all t u v = not t && not u && v

module _ (s : Stack) (step : PathKind) (nested : NestedGoals) (e : Entry) (g v : ℕ) (is-g : g ≡ e.input) (is-v : v ≡ get_or nested g 0) where
  paths_is : v ≡ get_or nested e.input 0
  paths_is = is-v ∙ ap (λ (k : ℕ). get_or nested k 0) is-g

  abbrev reached : Bool
  reached = contains_path (extend_with v (cycle_path_kind s step (highest_index e.heads))) e.path_from_head

  applies_is : all (eqb v 0) e.encountered_overflow reached ≡ entry_applies s step nested e
  applies_is = ap (λ (x : ℕ). all (eqb x 0) e.encountered_overflow (contains_path (extend_with x (cycle_path_kind s step (highest_index e.heads))) e.path_from_head)) paths_is

  pub applies_absent : v ≡ 0 → false ≡ entry_applies s step nested e
  applies_absent z = sym (ap (λ (t : Bool). all t e.encountered_overflow reached) (eq-eqb v 0 z)) ∙ applies_is

  module _ (nz : v ≡ 0 → ⊥) (o : Bool) (is-o : o ≡ e.encountered_overflow) where
    present_is : all false o reached ≡ entry_applies s step nested e
    present_is = ap₂ (λ (t u : Bool). all t u reached) (sym (ne_eqb v 0 nz)) is-o ∙ applies_is

    pub applies_overflow : o ≡ true → false ≡ entry_applies s step nested e
    applies_overflow t = sym (ap (λ (u : Bool). all false u reached) t) ∙ present_is

    pub applies_path : o ≡ false → (head : ℕ) → head ≡ highest_index e.heads → (k p : PathKind) → k ≡ cycle_path_kind s step head → p ≡ e.path_from_head
        → (full : ℕ) → full ≡ extend_with v k → (r : Bool) → r ≡ contains_path full p → r ≡ entry_applies s step nested e
    applies_path t head is_head k p is-k is-p full is-full r is-r =
        is-r
        ∙ ap₂ contains_path (is-full ∙ ap (extend_with v) (is-k ∙ ap (cycle_path_kind s step) is_head)) is-p
        ∙ sym (ap (λ (u : Bool). all false u reached) t) ∙ present_is

-- ---- `survives_rerun`
module _ (e : Entry) (rerun h : ℕ) (is-h : h ≡ highest_index e.heads) where
  survives_open : (not (eqb h rerun) || is_empty (usages_at e.heads rerun)) ≡ survives_rerun rerun e
  survives_open = ap (λ (k : ℕ). not (eqb k rerun) || is_empty (usages_at e.heads rerun)) is-h

  pub survives_other : (h ≡ rerun → ⊥) → true ≡ survives_rerun rerun e
  survives_other ne = sym (ap (λ (t : Bool). not t || is_empty (usages_at e.heads rerun)) (ne_eqb h rerun ne)) ∙ survives_open

  pub survives_unused : h ≡ rerun → (hs : CycleHeads) → hs ≡ e.heads → (u : HeadUsages) → u ≡ usages_at hs rerun → (r : Bool) → r ≡ is_empty u → r ≡ survives_rerun rerun e
  survives_unused same hs is-hs u is-u r is-r =
      is-r ∙ ap is_empty (is-u ∙ ap (λ (x : CycleHeads). usages_at x rerun) is-hs)
      ∙ sym (ap (λ (t : Bool). not t || is_empty (usages_at e.heads rerun)) (eq-eqb h rerun same)) ∙ survives_open
