-- Caches that differ in nothing but the passes: they are read alike, and stay so where the same is written.
use Prim.Native.Nat.{ℕ, ◌+◌, ◌-◌, ◌*◌, ◌<◌, min}
use mathlib.Core.Path.{◌∙◌, ◌≡◌, ap, sym}
use mathlib.Core.Logic.{◌≢◌}
use mathlib.Core.Bool.{Bool}
use mathlib.Core.Option.{Option, none, some}
use mathlib.Core.List.{List, [], ◌∷◌}
use native.Mathlib.Decide.{ℕ_discrete}
use native.Mathlib.Omega.{arith}
use lib.ListN.{drop, get_or, length, length-drop, length-take}
use lib.Seq.{ext_get_or, get_or-drop}
use Rattle.definition.specs.declared.answers.Answer.{Answer}
use Rattle.definition.specs.declared.format.Header.{Header}
use Rattle.definition.specs.CacheForm.{cache_length, slot_fits}
use Rattle.definition.specs.GlobalCache.{cache_get, conflicts, get_from_slots, overflow_slot, slot_at, slot_nested, slot_size, slot_start, slots_per_goal, success_slot, write_slot}
use Rattle.definition.specs.Graph.{Done, Graph, Outcome, Stopped, with_global_cache}
use Rattle.definition.specs.Nested.{NestedGoals}
use Rattle.definition.specs.Stack.{Stack}
use Rattle.definition.specs.Task.{Evaluated, TaskOutcome, TaskStopped}
use Rattle.soundness.specs.Passes.{Alike}
use Rattle.soundness.proofs.Slots.{after_here, after_length, after_other, slot_byte}

-- ---- alike caches are read alike

-- a slot as it is read: without passes
abbrev plain : List ℕ → List ℕ
plain s = get_or s 0 0 ∷ get_or s 1 0 ∷ get_or s 2 0 ∷ 0 ∷ drop 4 s

slot_long : (h : Header) (c : List ℕ) (goal slot : ℕ)
    → length (slot_at h c goal slot) ≡ min (slot_size h) (length c - slot_start h goal slot)
slot_long h c goal slot =
    length-take (slot_size h) (drop (slot_start h goal slot) c)
    ∙ ap (min (slot_size h)) (length-drop (slot_start h goal slot) c)

as_long : (h : Header) (c d : List ℕ) → length c ≡ length d → (goal slot : ℕ)
    → length (slot_at h c goal slot) ≡ length (slot_at h d goal slot)
as_long h c d e goal slot =
    slot_long h c goal slot
    ∙ (ap (λ (n : ℕ). min (slot_size h) (n - slot_start h goal slot)) e ∙ sym (slot_long h d goal slot))

module _ (h : Header) (c d : List ℕ) (v : Alike h c d) where
  byte_alike : (goal slot q : ℕ) → q < slot_size h → q ≢ 3
      → get_or (slot_at h c goal slot) q 0 ≡ get_or (slot_at h d goal slot) q 0
  byte_alike goal slot q l n =
      slot_byte h c goal slot q l
      ∙ (v.bytes (goal * slots_per_goal h + slot) q l n ∙ sym (slot_byte h d goal slot q l))

  nested_alike : (goal slot : ℕ) → slot_nested (slot_at h c goal slot) ≡ slot_nested (slot_at h d goal slot)
  nested_alike goal slot =
      ext_get_or 0 _ _
      (length-drop 4 (slot_at h c goal slot)
      ∙ (ap (λ (n : ℕ). n - 4) (as_long h c d v.size goal slot) ∙ sym (length-drop 4 (slot_at h d goal slot))))
      λ q l. get_or-drop 4 (slot_at h c goal slot) q 0
      ∙ (byte_alike goal slot (4 + q) (omega (arith, length-drop 4 (slot_at h c goal slot), slot_long h c goal slot))
      (λ e. omega arith) ∙ sym (get_or-drop 4 (slot_at h d goal slot) q 0))

  plain_alike : (goal slot : ℕ) → plain (slot_at h c goal slot) ≡ plain (slot_at h d goal slot)
  plain_alike goal slot =
      λ i. byte 0 (omega arith) (λ e. omega arith) i ∷ byte 1 (omega arith) (λ e. omega arith) i
      ∷ byte 2 (omega arith) (λ e. omega arith) i ∷ 0 ∷ nested_alike goal slot i
    where
      byte : (q : ℕ) → q < slot_size h → q ≢ 3 → get_or (slot_at h c goal slot) q 0 ≡ get_or (slot_at h d goal slot) q 0
      byte = byte_alike goal slot

  pub get_alike : (goal available : ℕ) (applicable : NestedGoals → Bool)
      → cache_get h c goal available applicable ≡ cache_get h d goal available applicable
  get_alike goal available applicable =
      λ i. get_from_slots applicable available (plain_alike goal success_slot i)
      (plain_alike goal (overflow_slot available) i)

  pub conflicts_alike : (goal slot : ℕ) (a : Answer)
      → conflicts (slot_at h c goal slot) a ≡ conflicts (slot_at h d goal slot) a
  conflicts_alike goal slot a = λ i. conflicts (plain_alike goal slot i) a

-- ---- two graphs with alike caches, else equal

-- each frame's nested goals are as many as a slot holds
abbrev pub Sized : ℕ → Stack → Type 0
Sized goals [] = Unit {0}
Sized goals (f ∷ fs) = (length f.nested_goals ≡ goals) × Sized goals fs

-- the cache c of a graph with the stack s, and another: each slot is in form in both or in neither
pub record Beside (h : Header) (s : Stack) (c d : List ℕ) : Type 0 where
  pub alike : Alike h c d
  pub size : length c ≡ cache_length h
  pub forms : (goal slot : ℕ) → goal < h.goals → slot < slots_per_goal h
      → slot_fits h slot (slot_at h c goal slot) ≡ slot_fits h slot (slot_at h d goal slot)
  pub frames : Sized h.goals s

-- the graph g beside g with the cache d
abbrev pub Twin : Header → Graph → List ℕ → Type 0
Twin h g d = Beside h g.stack g.global_cache d

abbrev pub Same : Header → Outcome → Outcome → Type 0
Same h (Done g a) (Done g' a') = (a ≡ a') × (with_global_cache g g'.global_cache ≡ g') × Twin h g g'.global_cache
Same h (Done g a) (Stopped r) = ⊥
Same h (Stopped r) (Done g a) = ⊥
Same h (Stopped r) (Stopped r') = r ≡ r'

abbrev pub FoundSame : Header → Option Outcome → Option Outcome → Type 0
FoundSame h none none = Unit {0}
FoundSame h none (some o) = ⊥
FoundSame h (some o) none = ⊥
FoundSame h (some o) (some o') = Same h o o'

abbrev pub TaskSame : Header → TaskOutcome → TaskOutcome → Type 0
TaskSame h (Evaluated g r) (Evaluated g' r') =
    (r ≡ r') × (length r.nested_goals ≡ h.goals) × (with_global_cache g g'.global_cache ≡ g')
    × Twin h g g'.global_cache
TaskSame h (Evaluated g r) (TaskStopped q) = ⊥
TaskSame h (TaskStopped q) (Evaluated g r) = ⊥
TaskSame h (TaskStopped q) (TaskStopped q') = q ≡ q'

-- ---- the same is written into the same slot

-- whether a slot is in form, by its bytes
form_by : (h : Header) (c d : List ℕ) → length c ≡ length d → (goal slot : ℕ)
    → ((q : ℕ) → q < slot_size h → get_or c (slot_start h goal slot + q) 0 ≡ get_or d (slot_start h goal slot + q) 0)
    → slot_fits h slot (slot_at h c goal slot) ≡ slot_fits h slot (slot_at h d goal slot)
form_by h c d e goal slot same =
    ap (slot_fits h slot)
    (ext_get_or 0 (slot_at h c goal slot) (slot_at h d goal slot) (as_long h c d e goal slot)
    λ q l. let k : q < slot_size h = omega (arith, slot_long h c goal slot) in
    slot_byte h c goal slot q k ∙ (same q k ∙ sym (slot_byte h d goal slot q k)))

module _ (h : Header) (goal slot : ℕ) (l : goal < h.goals) (m : slot < slots_per_goal h) (bytes : List ℕ)
    (long : length bytes ≡ slot_size h) (s : Stack) (c d : List ℕ) (t : Beside h s c d) where
  abbrev number : ℕ
  number = goal * slots_per_goal h + slot

  abbrev new : List ℕ → List ℕ
  new x = write_slot h x goal slot bytes

  other_size : length d ≡ cache_length h
  other_size = sym t.alike.size ∙ t.size

  new_long : (x : List ℕ) → length x ≡ cache_length h → length (new x) ≡ length x
  new_long = after_length h goal slot l m bytes long

  other : (x : List ℕ) → length x ≡ cache_length h → (n q : ℕ) → n ≢ number → q < slot_size h
      → get_or (new x) (n * slot_size h + q) 0 ≡ get_or x (n * slot_size h + q) 0
  other = after_other h goal slot l m bytes long

  same : (n q : ℕ) → n ≡ number → q < slot_size h
      → get_or (new c) (n * slot_size h + q) 0 ≡ get_or (new d) (n * slot_size h + q) 0
  same n q e k =
      after_here h goal slot l m bytes long c t.size n q e k
      ∙ sym (after_here h goal slot l m bytes long d other_size n q e k)

  new_size : length (new c) ≡ length (new d)
  new_size = new_long c t.size ∙ (t.alike.size ∙ sym (new_long d other_size))

  new_bytes : (n q : ℕ) → q < slot_size h → q ≢ 3 → Dec (n ≡ number)
      → get_or (new c) (n * slot_size h + q) 0 ≡ get_or (new d) (n * slot_size h + q) 0
  new_bytes n q k u (yes e) = same n q e k
  new_bytes n q k u (no e) = other c t.size n q e k ∙ (t.alike.bytes n q k u ∙ sym (other d other_size n q e k))

  new_forms : (goal' slot' : ℕ) → goal' < h.goals → slot' < slots_per_goal h
      → Dec (goal' * slots_per_goal h + slot' ≡ number)
      → slot_fits h slot' (slot_at h (new c) goal' slot') ≡ slot_fits h slot' (slot_at h (new d) goal' slot')
  new_forms goal' slot' l' m' (yes e) = form_by h (new c) (new d) new_size goal' slot' (λ q k. same _ q e k)
  new_forms goal' slot' l' m' (no e) =
      stays c t.size ∙ (t.forms goal' slot' l' m' ∙ sym (stays d other_size))
    where
      stays : (x : List ℕ) → length x ≡ cache_length h
          → slot_fits h slot' (slot_at h (new x) goal' slot') ≡ slot_fits h slot' (slot_at h x goal' slot')
      stays x z = form_by h (new x) x (new_long x z) goal' slot' (λ q k. other x z _ q e k)

  pub write_beside : Beside h s (new c) (new d)
  write_beside =
      record {
        alike = record { size = new_size; bytes = λ n q k u. new_bytes n q k u (ℕ_discrete n number) };
        size = new_long c t.size ∙ t.size;
        forms = λ goal' slot' l' m'. new_forms goal' slot' l' m' (ℕ_discrete (goal' * slots_per_goal h + slot') number);
        frames = t.frames;
      }
