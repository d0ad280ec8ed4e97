-- The invariant, and what a change of the state promises.
use mathlib.Core.List.{List, [], ◌∷◌}
use mathlib.Core.Logic.{◌≢◌, inl, inr}
use mathlib.Core.Option.{Option, none, some}
use mathlib.Core.Path.{◌∙◌, ◌≡◌, ap, refl, subst, sym}
use Prim.Native.Nat.{◌*◌, ◌+◌, ◌<◌, ◌≤◌, min, ℕ}
use native.Mathlib.Omega.{arith}
use lib.Dec.{T, eqb, eqb→eq}
use lib.ListN.{get_or, length}
use Rattle.definition.specs.GlobalCache.{slot_at, slot_held, slot_result}
use Rattle.definition.specs.Graph.{Done, Entry, Graph, Outcome, Stopped}
use Rattle.definition.specs.Heads.{CycleHeads, usages_at}
use Rattle.definition.specs.Parent.{or_no_usages}
use Rattle.definition.specs.Stack.{Frame, Stack}
use Rattle.definition.specs.Usages.{counter_limit, no_usages}
use Rattle.definition.specs.declared.answers.Answer.{Answer}
use Rattle.definition.specs.declared.paths.PathKind.{PathKind}
use Rattle.definition.specs.declared.usages.HeadUsages.{HeadUsages}
use Rattle.soundness.specs.Always.{Apart, CacheInOrder, Distinct, EntryInOrder, Every, Expected, FramesInOrder, HasHead, InOrder, IsHead, Known, goals_of}
use Rattle.definition.proofs.Tests.{and_left}
use Rattle.soundness.proofs.Logic.{nobody, or_cases}
use Rattle.soundness.proofs.World.{World}
use Rattle.soundness.proofs.Counters.{Reads, counter}
use Rattle.soundness.proofs.Assumed.{A, Base, assumes, base_of, bases_of, own}

abbrev pub reads_of : CycleHeads → Reads
reads_of hs i k = counter (usages_at hs i) k

pub known_bound : (s : Stack) (i : ℕ) → Known s i → i < length s
known_bound [] i l = absurd l
known_bound (f ∷ fs) i (inl h) = omega arith
known_bound (f ∷ fs) i (inr (inl h)) = omega arith
known_bound (f ∷ fs) i (inr (inr l)) = omega (arith, known_bound fs i l)

abbrev pub goals_in : List Base → List ℕ
goals_in [] = []
goals_in (x ∷ xs) = x.goal ∷ goals_in xs

goals_bases : (s : Stack) → goals_in (bases_of s) ≡ goals_of s
goals_bases [] = refl
goals_bases (f ∷ fs) = ap (λ (l : List ℕ). f.input ∷ l) (goals_bases fs)

pub goals_here : (s : Stack) (xs : List Base) → bases_of s ≡ xs → goals_in xs ≡ goals_of s
goals_here s xs e = ap goals_in (sym e) ∙ goals_bases s

-- ---- the parts of the invariant

-- the frame on top calls the goal by a step of that kind; the root is called by none
abbrev pub CalledBy : World → List Base → ℕ → PathKind → Type 0
CalledBy W [] goal kind = Unit {0}
CalledBy W (x ∷ xs) goal kind = T (W.step x.goal goal kind)

-- a provisional result other than the start answer rests on nothing
pub record BaseOk (W : World) (under : List Base) (x : Base) : Type 0 where
  pub result : (a : Answer) → x.provisional ≡ some a → a ≢ W.start x.goal → T (W.claim a nobody x.goal)
  pub by_call : CalledBy W under x.goal x.step
  pub apart : Apart x.goal (goals_in under)

abbrev pub BasesOk : World → List Base → Type 0
BasesOk W [] = Unit {0}
BasesOk W (x ∷ xs) = BaseOk W xs x × BasesOk W xs

itself : (W : World) (x : Base) (u : PathKind → ℕ) (y : ℕ) → T (own W x u y) → T (W.reach y x.goal)
itself W x u y t =
    rw (eqb→eq y x.goal (and_left (eqb y x.goal) (assumes (W.start x.goal) x.provisional u) t))
    (W.here x.goal)

-- every goal assumed is on the stack, so that it reaches the goal on top
pub under_above : (W : World) (x : Base) (xs : List Base) → BasesOk W (x ∷ xs) → (d : Reads) (y : ℕ) → T (A W xs d y)
    → T (W.reach y x.goal)
under_above W x [] v d y t = absurd t
under_above W x (z ∷ zs) v d y t =
    W.onward y z.goal x.goal x.step
    (or_cases (own W z (d (length zs)) y) (A W zs d y) (λ s. itself W z (d (length zs)) y s)
    (λ s. under_above W z zs v.1 d y s) t)
    v.0.by_call

pub all_above : (W : World) (x : Base) (xs : List Base) → BasesOk W (x ∷ xs) → (d : Reads) (y : ℕ)
    → T (A W (x ∷ xs) d y) → T (W.reach y x.goal)
all_above W x xs v d y =
    or_cases (own W x (d (length xs)) y) (A W xs d y) (itself W x (d (length xs)) y) (under_above W x xs v d y)

pub record EntryOk (W : World) (xs : List Base) (L : ℕ → Type 0) (e : Entry) : Type 0 where
  pub order : EntryInOrder W.book.header L e
  pub claims : T (W.claim e.result (A W xs (reads_of e.heads)) e.input)

pub record CacheOk (W : World) (cache : List ℕ) : Type 0 where
  pub order : CacheInOrder W.book.header cache
  pub claims : (goal slot : ℕ) → goal < W.book.header.goals → slot < W.book.header.top + 2
      → T (slot_held (slot_at W.book.header cache goal slot))
      → T (W.claim (slot_result (slot_at W.book.header cache goal slot)) nobody goal)

-- xs: what of the stack does not change; L: the indexes that an entry may name
pub record Inv (W : World) (xs : List Base) (L : ℕ → Type 0) (g : Graph) : Type 0 where
  pub here : bases_of g.stack ≡ xs
  pub root : g.root_depth ≤ W.book.header.top
  pub frames : FramesInOrder W.book.header g.stack
  pub entries : Every (EntryOk W xs L) g.provisional_cache
  pub live : length g.provisional_cache ≤ 2 * W.book.header.goals
  pub cache : CacheOk W g.global_cache

-- an entry may name what the stack says is a head
abbrev pub State : World → List Base → Graph → Type 0
State W xs g = Inv W xs (Known g.stack) g

-- a state of the invariant is in order
pub distinct_goals : (W : World) (xs : List Base) → BasesOk W xs → Distinct (goals_in xs)
distinct_goals W [] v = tt
distinct_goals W (x ∷ xs) v = (v.0.apart, distinct_goals W xs v.1)

entries_in_order : (W : World) (xs : List Base) (L : ℕ → Type 0) (es : List Entry) → Every (EntryOk W xs L) es
    → Every (EntryInOrder W.book.header L) es
entries_in_order W xs L [] v = tt
entries_in_order W xs L (e ∷ es) v = (v.0.order, entries_in_order W xs L es v.1)

pub in_order : (W : World) (xs : List Base) → BasesOk W xs → (g : Graph) → State W xs g → InOrder W.book.header g
in_order W xs bases g v =
    record {
      root = v.root;
      frames = v.frames;
      distinct = subst (λ (l : List ℕ). Distinct l) (goals_here g.stack xs v.here) (distinct_goals W xs bases);
      entries = entries_in_order W xs (Known g.stack) g.provisional_cache v.entries;
      live = v.live;
      cache = v.cache.order;
    }

-- ---- what a change promises
abbrev pub tracked_in : Option (List HeadUsages) → Reads
tracked_in none i k = 0
tracked_in (some us) i k = counter (get_or us i no_usages) k

abbrev pub tracked_by : Frame → Reads
tracked_by f = tracked_in f.candidate_usages

-- the top frame at index n gained the reads d
pub record FrameGain (n : ℕ) (f f' : Frame) (d : Reads) : Type 0 where
  pub same : base_of f' ≡ base_of f
  pub heads : (i : ℕ) (k : PathKind) → i < n
      → min (reads_of f.heads i k + d i k) counter_limit ≤ reads_of f'.heads i k
  pub usages : (k : PathKind)
      → min (counter (or_no_usages f.usages) k + d n k) counter_limit ≤ counter (or_no_usages f'.usages) k
  pub tracked : (i : ℕ) (k : PathKind) → tracked_by f' i k ≤ tracked_by f i k + d i k
  pub keeps_heads : (i : ℕ) → HasHead f.heads i → HasHead f'.heads i
  pub keeps_usages : IsHead f → IsHead f'

pub data Gain : Stack → Stack → Reads → Type 0 where
  none_gains : {d : Reads} → Gain [] [] d
  top_gains : {f f' : Frame} {fs : Stack} {d : Reads} → FrameGain (length fs) f f' d → Gain (f ∷ fs) (f' ∷ fs) d

pub record Change (W : World) (xs : List Base) (g g' : Graph) (d : Reads) : Type 0 where
  pub gain : Gain g.stack g'.stack d
  pub inv : State W xs g'

-- an outcome after g: one of the two refusals, or a change whose reads and answer are P
abbrev pub After : World → List Base → Graph → (Reads → Answer → Type 0) → Outcome → Type 0
After W xs g P (Done g' a) = (d : Reads) × Change W xs g g' d × P d a
After W xs g P (Stopped r) = Expected r
