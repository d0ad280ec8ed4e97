-- Entry k after the popped frame, by the ways through the code.
use mathlib.Core.Path.{◌≡◌, refl, sym, ap, ap₂, ◌∙◌}
use mathlib.Core.Bool.{Bool, true, false, not}
use mathlib.Core.Option.{Option, none, some, none-ne-some, some-ne-none}
use mathlib.Core.List.{List, [], ◌∷◌}
use Prim.Native.Nat.{ℕ, suc, ◌≤◌, ◌<◌}
use native.Mathlib.Omega.{arith}
use borrow.Author.Tests.{eq-eqb, ne_eqb, not-true, not-false}
use lib.Dec.{eqb}
use lib.ListN.{length}
use Rattle.definition.specs.declared.paths.PathKind.{PathKind}
use Rattle.definition.specs.declared.endings.RebaseReason.{RebaseReason}
use Rattle.definition.specs.Paths.{extend}
use Rattle.definition.specs.Heads.{CycleHeads, opt_highest_index, heads_empty, highest_index, usages_at, paths_at}
use Rattle.definition.specs.Stack.{Stack, Frame, cycle_path_kind}
use Rattle.definition.specs.Graph.{Entry, with_entry_heads, with_path_from_head}
use Rattle.definition.specs.ProvisionalCache.{rebased_heads}
use Rattle.definition.specs.ProvisionalCache.{under_new_head, rebase_entry}
use Rattle.layout.specs.Frame.{frame_size}
use Rattle.layout.specs.Work.{entry_from}
use Rattle.provisional_cache.specs.Entries.{without_head}
use Rattle.pop.specs.Heads.{with_gained, gained_entry, replaced_entry}
use Rattle.pop.specs.Rebased.{under_heads, kept_entry, EntryWritten}
use Rattle.pop.proofs.Writes.{others_then, frame_after}

-- ---- `replace_head`: the head is taken out, then the heads of the popped frame are gained
pub replaced : (goals base popped k : ℕ) (used : Bool) (ep : ℕ) (old mid new : List ℕ) → frame_size goals ≤ base
    → EntryWritten goals base k (without_head (entry_from goals base k old) popped) old mid
    → EntryWritten goals base k (gained_entry goals base k used ep mid) mid new
    → EntryWritten goals base k (replaced_entry goals base popped k used ep old) old new
replaced goals base popped k used ep old mid new wide first second =
    record {
      entry =
          second.entry ∙ ap₂ (λ (e : Entry) (f : Frame). with_gained used ep e f.heads) first.entry
          (frame_after goals base old mid wide first.others.below);
      others = others_then goals base k old mid new first.others second.others;
    }

-- ---- `rebase_path`

-- the highest index is one of the heads'
abbrev Under : Option ℕ → ℕ → Type 0
Under none n = Unit {0}
Under (some i) n = i < n

highest_under : (hs : CycleHeads) → Under (opt_highest_index hs) (length hs)
highest_under [] = tt
highest_under (none ∷ hs) = go (opt_highest_index hs) (highest_under hs)
  where
    go : (o : Option ℕ) → Under o (length hs) → Under (elim o [ none ↦ none | some i ↦ some (suc i) ]) (suc (length hs))
    go none u = tt
    go (some i) u = omega arith
highest_under (some h ∷ hs) = go (opt_highest_index hs) (highest_under hs)
  where
    go : (o : Option ℕ) → Under o (length hs)
        → Under (elim o [ none ↦ some 0 | some i ↦ some (suc i) ]) (suc (length hs))
    go none u = omega arith
    go (some i) u = omega arith

pub highest_small : (hs : CycleHeads) → length hs ≤ 64 → highest_index hs < 64
highest_small hs few = go (opt_highest_index hs) (highest_under hs)
  where
    go : (o : Option ℕ) → Under o (length hs) → elim o [ none ↦ 0 | some i ↦ i ] < 64
    go none u = omega arith
    go (some i) u = omega arith

module _ (s : Stack) (p : Frame) (e : Entry) where
  abbrev new_path : ℕ → Entry
  new_path i = with_path_from_head e (extend e.path_from_head (cycle_path_kind s p.step_kind_from_parent i))

  abbrev under : Option ℕ → Option Entry
  under o = elim o [ none ↦ none | some i ↦ some (new_path i) ]

  module _ (hs : CycleHeads) (is-hs : hs ≡ e.heads) (t : Bool) (is-t : t ≡ heads_empty hs) where
    empty_is : (o : Option ℕ) → opt_highest_index e.heads ≡ o → elim o [ none ↦ true | some i ↦ false ] ≡ t
    empty_is o q =
        ap (λ (x : Option ℕ). elim x [ none ↦ true | some i ↦ false ]) (sym q) ∙ sym (is-t ∙ ap heads_empty is-hs)

    pub path_none : t ≡ true → none ≡ under_new_head s p e e.heads
    path_none now = go (opt_highest_index e.heads) refl
      where
        go : (o : Option ℕ) → opt_highest_index e.heads ≡ o → none ≡ under (opt_highest_index e.heads)
        go none q = sym (ap under q)
        go (some i) q = let x = empty_is (some i) q in let z : ◌≡◌ {A = ℕ} 0 1 = cc in absurd (omega arith)

    pub path_some : t ≡ false → (i : ℕ) → i ≡ highest_index hs → (k : PathKind)
        → k ≡ cycle_path_kind s p.step_kind_from_parent i → (n : Entry)
        → n ≡ with_path_from_head e (extend e.path_from_head k)
        → some n ≡ under_new_head s p e e.heads
    path_some now i is-i k is-k n is-n = go (opt_highest_index e.heads) refl
      where
        high : (o : Option ℕ) → opt_highest_index e.heads ≡ o → i ≡ elim o [ none ↦ 0 | some j ↦ j ]
        high o q = is-i ∙ ap highest_index is-hs ∙ ap (λ (x : Option ℕ). elim x [ none ↦ 0 | some j ↦ j ]) q

        go : (o : Option ℕ) → opt_highest_index e.heads ≡ o → some n ≡ under (opt_highest_index e.heads)
        go none q = let x = empty_is none q in let z : ◌≡◌ {A = ℕ} 0 1 = cc in absurd (omega arith)
        go (some j) q =
            ap some (is-n ∙ ap (λ (x : PathKind). with_path_from_head e (extend e.path_from_head x)) (is-k ∙ ap (cycle_path_kind s p.step_kind_from_parent) (high (some j) q)))
            ∙ sym (ap under q)

-- ---- `rebase_entry`
module _ (s : Stack) (p : Frame) (reason : RebaseReason) (e : Entry) (popped : ℕ) (high : length s ≡ popped) (h : ℕ)
    (is-h : h ≡ highest_index e.heads) where
  abbrev rebased : ℕ → Option CycleHeads
  rebased n = rebased_heads s p reason e (usages_at e.heads n) (paths_at e.heads n)

  abbrev then : Option CycleHeads → Option Entry
  then o = elim o [ none ↦ none | some hs ↦ under_new_head s p e hs ]

  abbrev choice : Bool → Option Entry
  choice t = elim t [ false ↦ some e | true ↦ then (rebased (length s)) ]

  at : eqb h popped ≡ eqb (highest_index e.heads) (length s)
  at = ap₂ eqb is-h (sym high)

  pub entry_other : (h ≡ popped → ⊥) → some e ≡ rebase_entry s p reason e
  entry_other ne = sym (ap choice (sym at ∙ ne_eqb h popped ne))

  module _ (same : h ≡ popped) where
    opened : then (rebased popped) ≡ rebase_entry s p reason e
    opened = ap (λ (n : ℕ). then (rebased n)) (sym high) ∙ sym (ap choice (sym at ∙ eq-eqb h popped same))

    module _ (keep : Bool) (mid : Entry) (is-mid : kept_entry keep mid ≡ under_heads e (rebased popped)) where
      pub entry_dropped : not keep ≡ true → none ≡ rebase_entry s p reason e
      entry_dropped d = go (rebased popped) refl ∙ opened
        where
          gone : none ≡ under_heads e (rebased popped)
          gone = sym (ap (λ (x : Bool). kept_entry x mid) (not-true keep d)) ∙ is-mid

          go : (o : Option CycleHeads) → rebased popped ≡ o → none ≡ then (rebased popped)
          go none q = sym (ap then q)
          go (some hs) q = absurd (none-ne-some (with_entry_heads e hs) (gone ∙ ap (under_heads e) q))

      pub entry_under : not keep ≡ false → (o : Option Entry) (p1 : Frame) → p1 ≡ p
          → o ≡ under_new_head s p1 mid mid.heads → o ≡ rebase_entry s p reason e
      entry_under d o p1 is-p is-o =
          is-o ∙ ap (λ (y : Frame). under_new_head s y mid mid.heads) is-p ∙ go (rebased popped) refl ∙ opened
        where
          stays : some mid ≡ under_heads e (rebased popped)
          stays = sym (ap (λ (x : Bool). kept_entry x mid) (not-false keep d)) ∙ is-mid

          go : (c : Option CycleHeads) → rebased popped ≡ c → under_new_head s p mid mid.heads ≡ then (rebased popped)
          go none q = absurd (some-ne-none mid (stays ∙ ap (under_heads e) q))
          go (some hs) q =
              let x = stays ∙ ap (under_heads e) q in
              let m : mid ≡ with_entry_heads e hs = cc in
              ap (λ (y : Entry). under_new_head s p y y.heads) m ∙ sym (ap then q)
