-- Document 02, item 3: what rebasing makes of the entries depends on the stack that is left only by its height, and by
-- the paths from its frames to the popped one.
use mathlib.Core.Path.{◌≡◌, refl, sym, ap, ap₂, ◌∙◌}
use mathlib.Core.Bool.{Bool, true, false, ◌&&◌}
use mathlib.Core.Option.{Option, none, some}
use mathlib.Core.List.{List, [], ◌∷◌}
use Prim.Native.Nat.{ℕ, suc, ◌<◌}
use native.Mathlib.Omega.{arith}
use native.Mathlib.Decide.{dec_lt}
use lib.Dec.{eqb}
use lib.ListN.{length}
use Rattle.definition.specs.declared.paths.PathKind.{PathKind}
use Rattle.definition.specs.declared.usages.HeadUsages.{HeadUsages}
use Rattle.definition.specs.declared.endings.RebaseReason.{RebaseReason}
use Rattle.definition.specs.Paths.{extend, iter_paths}
use Rattle.definition.specs.Usages.{is_empty}
use Rattle.definition.specs.Heads.{CycleHeads, highest_index, opt_highest_index, remove_head, for_each_head, usages_at}
use Rattle.definition.specs.Heads.{paths_at}
use Rattle.definition.specs.Stack.{Frame, Stack, cycle_path_kind}
use Rattle.definition.specs.Graph.{Entry, with_entry_heads, with_path_from_head}
use Rattle.definition.specs.ProvisionalCache.{unused_head, head_through, every_ph_keeps, paths_keep_kind, reason_keeps}
use Rattle.definition.specs.ProvisionalCache.{rebased_heads, under_new_head, rebase_entry, rebase_entries}
use Rattle.stack.proofs.Counts.{path_outside}

module _ (s t : Stack) (p : Frame) (reason : RebaseReason) (same : length s ≡ length t)
    (paths : (i : ℕ) → i < length s
    → cycle_path_kind s p.step_kind_from_parent i ≡ cycle_path_kind t p.step_kind_from_parent i) where
  abbrev step : PathKind
  step = p.step_kind_from_parent

  path : (i : ℕ) → cycle_path_kind s step i ≡ cycle_path_kind t step i
  path i =
      elim (dec_lt i (length s)) [
        | yes lt ↦ paths i lt
        | no up ↦ sym (path_outside s step i (omega arith)) ∙ path_outside t step i (omega arith)
      ]

  keep : (from : PathKind) (ep i : ℕ) (hs : CycleHeads)
      → paths_keep_kind s step from ep i hs ≡ paths_keep_kind t step from ep i hs
  keep from ep i [] = refl
  keep from ep i (none ∷ hs) = keep from ep (suc i) hs
  keep from ep i (some c ∷ hs) = ap₂ at (path i) (keep from ep (suc i) hs)
    where
      at : PathKind → Bool → Bool
      at k rest = every_ph_keeps k (extend k from) (iter_paths ep) (iter_paths c.paths) && rest

  heads : (e : Entry) (u : HeadUsages) (ep : ℕ) → rebased_heads s p reason e u ep ≡ rebased_heads t p reason e u ep
  heads e u ep = ap₂ by same (keep e.path_from_head ep 0 p.heads)
    where
      by : ℕ → Bool → Option CycleHeads
      by n k =
          elim (is_empty u) [
            | true ↦ some (for_each_head unused_head (remove_head e.heads n) p.heads)
            | false ↦
                elim (k && reason_keeps reason e.result u) [
                  | true ↦ some (for_each_head (head_through ep) (remove_head e.heads n) p.heads)
                  | false ↦ none
                ]
          ]

  under : (e : Entry) (hs : CycleHeads) → under_new_head s p e hs ≡ under_new_head t p e hs
  under e hs = go (opt_highest_index hs)
    where
      at : PathKind → Option Entry
      at k = some (with_path_from_head (with_entry_heads e hs) (extend e.path_from_head k))

      from : Stack → Option ℕ → Option Entry
      from r o = elim o [ none ↦ none | some i ↦ at (cycle_path_kind r step i) ]

      go : (o : Option ℕ) → from s o ≡ from t o
      go none = refl
      go (some i) = ap at (path i)

  entry : (e : Entry) → rebase_entry s p reason e ≡ rebase_entry t p reason e
  entry e =
      ap (λ (m : ℕ). choice m (then s (made s m))) same
      ∙ ap (choice n) (ap (then s) (heads e (used n) (ep n)) ∙ thens (made t n))
    where
      n : ℕ
      n = length t

      used : ℕ → HeadUsages
      used m = usages_at e.heads m

      ep : ℕ → ℕ
      ep m = paths_at e.heads m

      made : Stack → ℕ → Option CycleHeads
      made r m = rebased_heads r p reason e (used m) (ep m)

      choice : ℕ → Option Entry → Option Entry
      choice m o = elim (eqb (highest_index e.heads) m) [ false ↦ some e | true ↦ o ]

      then : Stack → Option CycleHeads → Option Entry
      then r o = elim o [ none ↦ none | some hs ↦ under_new_head r p e hs ]

      thens : (o : Option CycleHeads) → then s o ≡ then t o
      thens none = refl
      thens (some hs) = under e hs

  pub paths_decide : (es : List Entry) → rebase_entries s p reason es ≡ rebase_entries t p reason es
  paths_decide [] = refl
  paths_decide (e ∷ es) = ap₂ first (entry e) (paths_decide es)
    where
      first : Option Entry → List Entry → List Entry
      first o rest = elim o [ none ↦ rest | some r ↦ r ∷ rest ]
