-- A frame is popped: what becomes of each entry, and of its heads.
use mathlib.Core.Bool.{Bool, ◌&&◌, ◌||◌, false, not, true}
use mathlib.Core.List.{List, [], ◌∷◌}
use mathlib.Core.Logic.{◌≢◌, ◌⊎◌, inl, inr}
use mathlib.Core.Option.{Option, none, some}
use mathlib.Core.Path.{◌≡◌, ap, refl}
use Prim.Native.Nat.{◌<◌, ◌≤◌, suc, ℕ}
use native.Mathlib.Omega.{arith}
use lib.Dec.{T, eqb, eqb_refl, eqb→eq}
use lib.ListN.{length}
use Rattle.definition.specs.Endings.{pop, tidy_up}
use Rattle.definition.specs.Graph.{Entry, Graph, with_entry_heads, with_path_from_head, with_provisional_cache, with_stack}
use Rattle.definition.specs.Heads.{CycleHeads, for_each_head, highest_index, opt_highest_index, paths_at, remove_head, usages_at}
use Rattle.definition.specs.ProvisionalCache.{head_through, paths_keep_kind, reason_keeps, rebase_entries, rebase_entry, rebased_heads, survivors, under_new_head, unused_head}
use Rattle.definition.specs.Stack.{Frame, Stack}
use Rattle.definition.specs.Usages.{is_empty}
use Rattle.definition.specs.declared.answers.Answer.{Answer}
use Rattle.definition.specs.declared.answers.Answer.TheVariants.{Overflow}
use Rattle.definition.specs.declared.endings.Ending.{Ending}
use Rattle.definition.specs.declared.endings.Ending.TheVariants as ending
use Rattle.definition.specs.declared.endings.RebaseReason.{RebaseReason}
use Rattle.definition.specs.declared.endings.RebaseReason.TheVariants.{Ambiguity, NoCycleUsages, ReachedFixpoint}
use Rattle.definition.specs.declared.heads.CycleHead.{CycleHead}
use Rattle.definition.specs.declared.paths.PathKind.{PathKind}
use Rattle.definition.specs.declared.usages.HeadUsages.{HeadUsages}
use Rattle.soundness.specs.Always.{Every, HasHead}
use Rattle.soundness.specs.Pop.{HeadsAfter, HeadsBefore, PopKeepsHeads}
use Rattle.definition.proofs.Tests.{and_right}
use Rattle.soundness.proofs.Logic.{of_true}
use Rattle.soundness.proofs.HeadLaws.{each_from, highest_present, is_highest, removed_from}

-- ---- a list of entries, of which some are dropped and others kept as R says
pub data Left (R : Entry → Entry → Type 0) : List Entry → List Entry → Type 0 where
  empty : Left R [] []
  drop : {e : Entry} {es ds : List Entry} → Left R es ds → Left R (e ∷ es) ds
  keep : {e d : Entry} {es ds : List Entry} → R e d → Left R es ds → Left R (e ∷ es) (d ∷ ds)

left_fewer : {R : Entry → Entry → Type 0} {es ds : List Entry} → Left R es ds → length ds ≤ length es
left_fewer empty = omega arith
left_fewer (drop l) = omega (arith, left_fewer l)
left_fewer (keep r l) = omega (arith, left_fewer l)

pub left_every : {R : Entry → Entry → Type 0} (P Q : Entry → Type 0) → ((e d : Entry) → R e d → P e → Q d)
    → {es ds : List Entry} → Left R es ds → Every P es → Every Q ds
left_every P Q h empty v = tt
left_every P Q h (drop l) v = left_every P Q h l v.1
left_every P Q h (keep {e = e} {d = d} r l) v = (h e d r v.0, left_every P Q h l v.1)

-- ---- what an ending makes of an entry, when the frame p on s is popped

-- an entry with that answer, which used p so, is kept
abbrev pub keeps_use : Ending → Answer → HeadUsages → Bool
keeps_use ending.Nothing result u = false
keeps_use (ending.Fixpoint fixpoint) result u = reason_keeps (ReachedFixpoint fixpoint) result u
keeps_use ending.NoUsages result u = reason_keeps NoCycleUsages result u
keeps_use (ending.Ambiguity kind) result u = reason_keeps (Ambiguity kind) result u
keeps_use ending.Overflow result u = reason_keeps (Ambiguity Overflow) result u
keeps_use ending.Rerun result u = false

module _ (s : Stack) (p : Frame) where
  -- the heads without p, joined with the heads of p
  abbrev pub moved_by : (CycleHead → Option CycleHead → CycleHead) → CycleHeads → CycleHeads
  moved_by φ hs = for_each_head φ (remove_head hs (length s)) p.heads

  -- the entry is kept as it is: nothing is done, p is not its highest head, or is and was used for nothing
  pub data Stays (end : Ending) (e : Entry) : Type 0 where
    untouched : end ≡ ending.Nothing → Stays end e
    lower : eqb (highest_index e.heads) (length s) ≡ false → Stays end e
    idle : end ≡ ending.Rerun → eqb (highest_index e.heads) (length s) ≡ true
        → is_empty (usages_at e.heads (length s)) ≡ true → Stays end e

  -- its heads are moved by φ: it used p for nothing, or may be kept though it used p
  pub data Moves (end : Ending) (e : Entry) : (CycleHead → Option CycleHead → CycleHead) → Type 0 where
    unused : is_empty (usages_at e.heads (length s)) ≡ true → Moves end e unused_head
    through : T (keeps_use end e.result (usages_at e.heads (length s)))
        → Moves end e (head_through (paths_at e.heads (length s)))

  -- the entry is kept as the other
  pub data Kept (end : Ending) (e : Entry) : Entry → Type 0 where
    stays : Stays end e → Kept end e e
    moves : {φ : CycleHead → Option CycleHead → CycleHead} → Moves end e φ → (i : ℕ) → HasHead (moved_by φ e.heads) i
        → (path : PathKind) → Kept end e (with_path_from_head (with_entry_heads e (moved_by φ e.heads)) path)

  abbrev KeptAs : Ending → Entry → Option Entry → Type 0
  KeptAs end e none = Unit {0}
  KeptAs end e (some d) = Kept end e d

  add : {end : Ending} {e : Entry} {es ds : List Entry} (o : Option Entry) → KeptAs end e o → Left (Kept end) es ds
      → Left (Kept end) (e ∷ es) (elim o [ none ↦ ds | some d ↦ d ∷ ds ])
  add none k l = drop l
  add (some d) k l = keep k l

  -- ---- rebased, for a reason that the ending gives
  module _ (end : Ending) (reason : RebaseReason)
      (fits : (result : Answer) (u : HeadUsages) → T (reason_keeps reason result u) → T (keeps_use end result u)) where
    under : {φ : CycleHead → Option CycleHead → CycleHead} (e : Entry) → Moves end e φ → (o : Option ℕ)
        → opt_highest_index (moved_by φ e.heads) ≡ o → KeptAs end e (under_new_head s p e (moved_by φ e.heads))
    under e m none h = rw (h, under_new_head) tt
    under {φ} e m (some new) h = rw (h, under_new_head) (moves m new (highest_present (moved_by φ e.heads) new h) _)

    module _ (e : Entry) where
      abbrev used : HeadUsages
      used = usages_at e.heads (length s)

      abbrev ep : ℕ
      ep = paths_at e.heads (length s)

      abbrev keep_kind : Bool
      keep_kind = paths_keep_kind s p.step_kind_from_parent e.path_from_head ep 0 p.heads

      over : (a b : Bool) → is_empty used ≡ a → (keep_kind && reason_keeps reason e.result used) ≡ b
          → KeptAs end e (elim (rebased_heads s p reason e used ep) [ none ↦ none | some hs ↦ under_new_head s p e hs ])
      over true b h k = rw (h, rebased_heads) (under e (unused h) _ refl)
      over false false h k = rw (h, k, rebased_heads) tt
      over false true h k =
          rw (h, k, rebased_heads)
          (under e (through (fits e.result used (and_right keep_kind _ (of_true _ k)))) _ refl)

      one : (a : Bool) → eqb (highest_index e.heads) (length s) ≡ a → KeptAs end e (rebase_entry s p reason e)
      one false h = rw (h, rebase_entry) (stays (lower h))
      one true h = rw (h, rebase_entry) (over _ _ refl refl)

    rebased : (es : List Entry) → Left (Kept end) es (rebase_entries s p reason es)
    rebased [] = empty
    rebased (e ∷ es) = add (rebase_entry s p reason e) (one e _ refl) (rebased es)

  -- ---- or cleared for a rerun
  survived : (e : Entry) (a b : Bool) → eqb (highest_index e.heads) (length s) ≡ a
      → is_empty (usages_at e.heads (length s)) ≡ b → {es ds : List Entry} → Left (Kept ending.Rerun) es ds
      → Left (Kept ending.Rerun) (e ∷ es) (elim (not a || b) [ true ↦ e ∷ ds | false ↦ ds ])
  survived e false b h u l = keep (stays (lower h)) l
  survived e true true h u l = keep (stays (idle refl h u)) l
  survived e true false h u l = drop l

  cleared : (es : List Entry) → Left (Kept ending.Rerun) es (survivors (length s) es)
  cleared [] = empty
  cleared (e ∷ es) = survived e _ _ refl refl (cleared es)

  untouched_all : (es : List Entry) → Left (Kept ending.Nothing) es es
  untouched_all [] = empty
  untouched_all (e ∷ es) = keep (stays (untouched refl)) (untouched_all es)

pub tidied : (end : Ending) (g : Graph) (p : Frame)
    → Left (Kept g.stack p end) g.provisional_cache (tidy_up end g p).provisional_cache
tidied ending.Nothing g p = untouched_all g.stack p g.provisional_cache
tidied (ending.Fixpoint fixpoint) g p =
    rebased g.stack p _ (ReachedFixpoint fixpoint) (λ r u k. k) g.provisional_cache
tidied ending.NoUsages g p = rebased g.stack p _ NoCycleUsages (λ r u k. k) g.provisional_cache
tidied (ending.Ambiguity kind) g p = rebased g.stack p _ (Ambiguity kind) (λ r u k. k) g.provisional_cache
tidied ending.Overflow g p = rebased g.stack p _ (Ambiguity Overflow) (λ r u k. k) g.provisional_cache
tidied ending.Rerun g p = cleared g.stack p g.provisional_cache

-- no ending adds an entry
pub tidied_fewer : (end : Ending) (g : Graph) (p : Frame)
    → length (tidy_up end g p).provisional_cache ≤ length g.provisional_cache
tidied_fewer end g p = left_fewer (tidied end g p)

-- nothing but the entries is changed
pub tidies_entries : (end : Ending) (g : Graph) (p : Frame)
    → tidy_up end g p ≡ with_provisional_cache g (tidy_up end g p).provisional_cache
tidies_entries ending.Nothing g p = refl
tidies_entries (ending.Fixpoint fixpoint) g p = refl
tidies_entries ending.NoUsages g p = refl
tidies_entries (ending.Ambiguity kind) g p = refl
tidies_entries ending.Overflow g p = refl
tidies_entries ending.Rerun g p = refl

-- ---- the heads, of which L holds before, and L' afterwards
abbrev pub EachHead : (ℕ → Type 0) → CycleHeads → Type 0
EachHead L hs = (i : ℕ) → HasHead hs i → L i

pub not_highest : (n : ℕ) (hs : CycleHeads) → EachHead (λ i. i ≤ n) hs → eqb (highest_index hs) n ≡ false
    → HasHead hs n → ⊥
not_highest n hs v h q =
    let t : T (eqb (highest_index hs) n) = rw (is_highest hs n q v) (eqb_refl n) in
    rw h at t

module _ (s : Stack) (p : Frame) (L L' : ℕ → Type 0) (bound : (i : ℕ) → L i → i ≤ length s)
    (others : (i : ℕ) → i ≢ length s → L i → L' i) (own : EachHead L' p.heads) where
  unnamed : (hs : CycleHeads) → EachHead L hs → (HasHead hs (length s) → ⊥) → EachHead L' hs
  unnamed hs v h i q = others i (λ z. h (rw z at q)) (v i q)

  moved_heads : (φ : CycleHead → Option CycleHead → CycleHead) (hs : CycleHeads) → EachHead L hs
      → EachHead L' (moved_by s p φ hs)
  moved_heads φ hs v i q = go (each_from φ (remove_head hs (length s)) p.heads i q)
    where
      go : HasHead (remove_head hs (length s)) i ⊎ HasHead p.heads i → L' i
      go (inl r) = let (d, h) = removed_from hs (length s) i r in others i d (v i h)
      go (inr r) = own i r

  -- with a rerun L still holds of an entry whose highest head is p
  pub kept_heads : {end : Ending} (e d : Entry) → Kept s p end e d → EachHead L e.heads
      → (end ≡ ending.Nothing → HasHead e.heads (length s) → ⊥)
      → EachHead L' d.heads
      ⊎ ((end ≡ ending.Rerun) × EachHead L d.heads × (highest_index d.heads ≡ length s))
  kept_heads e d (stays (untouched z)) v h = inl (unnamed e.heads v (h z))
  kept_heads e d (stays (lower z)) v h =
      inl (unnamed e.heads v (not_highest (length s) e.heads (λ i q. bound i (v i q)) z))
  kept_heads e d (stays (idle z h u)) v k =
      inr (z, v, eqb→eq (highest_index e.heads) (length s) (of_true _ h))
  kept_heads e d (moves {φ} m i q path) v h = inl (moved_heads φ e.heads v)

-- ---- document 02: the heads that are on the stack
pub keeps_heads_lem : PopKeepsHeads
keeps_heads_lem end g p s z own v =
    rw (z, pop) (
      ap (λ (g : Graph). g.stack) (tidies_entries end (with_stack g s) p),
      left_every (HeadsBefore end (length s)) (HeadsAfter end (length s))
          (λ e d k w. kept_heads s p (λ i. i < suc (length s)) (λ i. i < length s) (λ i l. omega arith)
          (λ i d l. omega arith) own e d k w.0 w.1)
          (tidied end (with_stack g s) p) v,
    )
