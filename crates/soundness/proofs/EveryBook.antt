-- What holds of the state in books of every kind: the world in which every answer may be given.
use mathlib.Core.Bool.{Bool, ◌&&◌, false, true}
use mathlib.Core.List.{List, [], ◌∷◌}
use mathlib.Core.Logic.{◌≢◌, ◌⊎◌, inl, inr}
use mathlib.Core.Option.{Option, none, some}
use mathlib.Core.Path.{◌∙◌, ◌≡◌, ap, refl, subst, sym}
use Prim.Native.Nat.{◌+◌, ◌<◌, ◌≤◌, suc, ℕ}
use native.Mathlib.Omega.{arith}
use lib.Dec.{T, leb, leb→le}
use lib.ListN.{length}
use Rattle.definition.specs.Evaluate.{compute_goal, evaluate_goal, new_frame}
use Rattle.definition.specs.GlobalCache.{CacheData, cache_data, get_with_overflow, overflow_slot, slot_at, slot_depth, slot_held, slot_nested, success_slot}
use Rattle.definition.specs.Graph.{Done, Entry, Graph, Outcome, Stopped, with_stack}
use Rattle.definition.specs.Nested.{NestedGoals}
use Rattle.definition.specs.Part.{Book}
use Rattle.definition.specs.Query.{Check, Reply, checks, evaluate_root, first_failed, new_graph, query_book, reply_of, untouched}
use Rattle.definition.specs.Reader.{Accepted, BookRead, Rejected, read_book}
use Rattle.definition.specs.Stack.{Stack, stack_find}
use Rattle.definition.specs.Task.{Evaluated, TaskOutcome, TaskStopped, evaluate_goal_in_task}
use Rattle.definition.specs.declared.answers.Answer.{Answer}
use Rattle.definition.specs.declared.format.Header.{Header}
use Rattle.definition.specs.declared.paths.PathKind.{PathKind}
use Rattle.definition.specs.declared.paths.PathKind.TheVariants.{Inductive}
use Rattle.definition.specs.declared.replies.Refusal.{Refusal}
use Rattle.definition.specs.declared.replies.Refusal.TheVariants.{CacheConflict, ProvisionalCacheFull, Unreachable}
use Rattle.std.specs.Prelude.{Err}
use Rattle.soundness.specs.Always.{Always, Apart, Conflict, Distinct, Ends, EntryInOrder, Every, Expected, FinishesFrame, Follows, Full, HasHead, HeadsOn, InOrder, Keeps, Known, NeverUnreachable, OnlyUnder, Passes, Run, goals_of}
use Rattle.soundness.specs.Trace.{trace_goal}
use Rattle.definition.proofs.Tests.{and_left, and_right}
use Rattle.soundness.proofs.Logic.{clash, of_true}
use Rattle.soundness.proofs.Support.{step}
use Rattle.soundness.proofs.Calls.{BookOk}
use Rattle.soundness.proofs.World.{World}
use Rattle.soundness.proofs.Counters.{Reads}
use Rattle.soundness.proofs.Assumed.{Base, bases_of, length_bases}
use Rattle.soundness.proofs.Inv.{After, BasesOk, CalledBy, EntryOk, State, goals_here, goals_in, in_order, known_bound}
use Rattle.soundness.proofs.Parts.{Claims}
use Rattle.soundness.proofs.Runs.{TaskAfter}
use Rattle.soundness.proofs.Lookups.{find_at}
use Rattle.soundness.proofs.Pigeons.{all_on_stack}
use Rattle.soundness.proofs.Evaluate.{compute_ok, evaluate_ok, frame_ok}
use Rattle.soundness.proofs.Meets.{evaluate_meets}
use Rattle.soundness.proofs.Refusals.{evaluate_run}
use Rattle.soundness.proofs.Reading.{Early, any_read, rejected_early}
use Rattle.soundness.proofs.Books.{any_book}
use Rattle.soundness.proofs.Queries.{Passed, passed}

-- ---- a state in order is one of the invariant
apart_bases : (y : ℕ) (s : Stack) → Apart y (goals_of s) → Apart y (goals_in (bases_of s))
apart_bases y s v = subst (λ (l : List ℕ). Apart y l) (sym (goals_here s (bases_of s) refl)) v

module _ (b : Book) (ok : BookOk b) where
  abbrev W : World
  W = any_book b ok

  anyone : (xs : List Base) (goal : ℕ) (kind : PathKind) → CalledBy W xs goal kind
  unfolding any_book
  anyone [] goal kind = tt
  anyone (x ∷ xs) goal kind = tt

  bases_ok : (s : Stack) → Distinct (goals_of s) → BasesOk W (bases_of s)
  unfolding any_book
  bases_ok [] d = tt
  bases_ok (f ∷ fs) d = (record { result = λ a e n. tt; by_call = anyone (bases_of fs) f.input f.step_kind_from_parent; apart = apart_bases f.input fs d.0 }, bases_ok fs d.1)

  entries_ok : (xs : List Base) (L : ℕ → Type 0) (es : List Entry) → Every (EntryInOrder b.header L) es → Every (EntryOk W xs L) es
  unfolding any_book
  entries_ok xs L [] v = tt
  entries_ok xs L (e ∷ es) v = (record { order = v.0; claims = tt }, entries_ok xs L es v.1)

  inv_of : (g : Graph) → InOrder b.header g → State W (bases_of g.stack) g
  unfolding any_book
  inv_of g v =
      record {
        here = refl;
        root = v.root;
        frames = v.frames;
        entries = entries_ok (bases_of g.stack) (Known g.stack) g.provisional_cache v.entries;
        live = v.live;
        cache = record { order = v.cache; claims = λ goal slot l m t. tt };
      }

  -- ---- and back
  after_keeps : (g : Graph) → InOrder b.header g → (P : Reads → Answer → Type 0) (o : Outcome) → After W (bases_of g.stack) g P o
      → Keeps b.header g o
  unfolding any_book
  after_keeps g v P (Done g' a) (d, s, p) = (
    in_order W (bases_of g.stack) (bases_ok g.stack v.distinct) g' s.inv,
    sym (goals_here g'.stack (bases_of g.stack) s.inv.here) ∙ goals_here g.stack (bases_of g.stack) refl,
  )
  after_keeps g v P (Stopped r) t = t

  keeps_order : (off : ℕ) (g : Graph) (goal : ℕ) (step : PathKind) (lower : Bool) → InOrder b.header g
      → length g.stack + off ≡ b.header.goals → goal < b.header.goals
      → Keeps b.header g (evaluate_goal b off g goal step lower)
  unfolding any_book
  keeps_order off g goal step lower v e l =
      after_keeps g v (Claims W (bases_of g.stack) goal) (evaluate_goal b off g goal step lower)
      (evaluate_ok W off (bases_of g.stack) (bases_ok g.stack v.distinct) (omega (arith, length_bases g.stack)) g goal step lower
      (inv_of g v) l (anyone (bases_of g.stack) goal step))

  meets_in_order : (off : ℕ) (g : Graph) (goal : ℕ) (step : PathKind) (lower : Bool) → InOrder b.header g
      → length g.stack + off ≡ b.header.goals → goal < b.header.goals
      → Run b.header (trace_goal b off g goal step lower) (evaluate_goal b off g goal step lower)
  unfolding any_book
  meets_in_order off g goal step lower v e l =
      evaluate_run b off g goal step lower
      (evaluate_meets W off (bases_of g.stack) (bases_ok g.stack v.distinct)
      (omega (arith, length_bases g.stack)) g goal step lower (inv_of g v) l (anyone (bases_of g.stack) goal step))

  -- ---- a frame
  entries_on : (n : ℕ) (xs : List Base) (L : ℕ → Type 0) → ((i : ℕ) → L i → i < n) → (es : List Entry) → Every (EntryOk W xs L) es
      → Every (HeadsOn n) es
  entries_on n xs L h [] v = tt
  entries_on n xs L h (e ∷ es) v = ((v.0.order.not_empty, λ i p. h i (v.0.order.known i p)), entries_on n xs L h es v.1)

  finished_frame : (xs : List Base) (fs : Stack) (goal available : ℕ) (t : TaskOutcome) → TaskAfter W xs fs goal available t
      → FinishesFrame fs available t
  finished_frame xs fs goal available (Evaluated g r) v =
      record {
        stack = v.stack;
        entries = entries_on (length fs) xs (λ i. Known fs i ⊎ HasHead r.heads i) low g.provisional_cache v.inv.entries;
        heads = v.below;
        required = v.required;
      }
    where
      low : (i : ℕ) → Known fs i ⊎ HasHead r.heads i → i < length fs
      low i (inl k) = known_bound fs i k
      low i (inr p) = v.below i p
  finished_frame xs fs goal available (TaskStopped r) t = t

  finishes_frame : (off left : ℕ) (g : Graph) (goal : ℕ) (step : PathKind) (available : ℕ) → InOrder b.header g
      → length g.stack + suc off ≡ b.header.goals
      → goal < b.header.goals → available ≤ b.header.top → stack_find g.stack goal ≡ none
      → FinishesFrame g.stack available
      (evaluate_goal_in_task (compute_goal (evaluate_goal b off) b goal) left 1 false (with_stack g (new_frame b.header.goals goal step available g.stack ∷ g.stack)))
  unfolding any_book
  finishes_frame off left g goal step available v e l deep z =
      finished_frame (bases_of g.stack) g.stack goal available
      (evaluate_goal_in_task (compute_goal (evaluate_goal b off) b goal) left 1 false
      (with_stack g (new_frame b.header.goals goal step available g.stack ∷ g.stack)))
      (frame_ok W (bases_of g.stack) (bases_ok g.stack v.distinct) g (inv_of g v) (omega arith) goal l step available deep (anyone (bases_of g.stack) goal step)
      (compute_goal (evaluate_goal b off) b)
      (compute_ok W (bases_of g.stack) (evaluate_goal b off)
      (λ x s. evaluate_ok W off (x ∷ bases_of g.stack) s (omega (arith, length_bases g.stack))))
      (rw z at (find_at goal g.stack)) left)

  starts_in_order : (cache work : List ℕ) (goal depth : ℕ) → first_failed (checks b cache work goal depth) ≡ none
      → InOrder b.header (new_graph depth cache)
  starts_in_order cache work goal depth e =
      let p : Passed b.header cache goal depth = passed b cache work goal depth e in
      record { root = p.shallow; frames = tt; distinct = tt; entries = tt; live = omega arith; cache = p.order }

-- ---- what follows of a state in order
known_entries : (h : Header) (s : Stack) (es : List Entry) → Every (EntryInOrder h (Known s)) es → Every (HeadsOn (length s)) es
known_entries h s [] v = tt
known_entries h s (e ∷ es) v = ((v.0.not_empty, λ i p. known_bound s i (v.0.known i p)), known_entries h s es v.1)

no_entries : (s : Stack) (es : List Entry) → Every (HeadsOn (length s)) es → s ≡ [] → es ≡ []
no_entries s [] v e = refl
no_entries s (e ∷ es) v z = absurd (omega (arith, ap length z, v.0.1 v.0.0.0 v.0.0.1))

-- a hit requires no more depth than is available
module _ (h : Header) (goal available : ℕ) (applicable : NestedGoals → Bool) (d : CacheData) where
  hit_overflow : (o : List ℕ) → (T (slot_held o) → slot_depth o ≡ available) → (t : Bool) → (slot_held o && applicable (slot_nested o)) ≡ t
      → ◌≡◌ {A = Option CacheData} (elim t [ true ↦ some (cache_data o true) | false ↦ none ]) (some d) → d.required_depth ≤ available
  hit_overflow o k true e z =
      let w : cache_data o true ≡ d = cc in
      omega (arith, k (and_left (slot_held o) (applicable (slot_nested o)) (of_true _ e)), ap (λ (x : CacheData). x.required_depth) w)
  hit_overflow o k false e z = clash (cc)

  hit_success : (s o : List ℕ) → (T (slot_held o) → slot_depth o ≡ available) → (t : Bool)
      → (slot_held s && leb (slot_depth s) available && applicable (slot_nested s)) ≡ t
      → ◌≡◌ {A = Option CacheData} (elim t [ true ↦ some (cache_data s false) | false ↦ get_with_overflow applicable o ]) (some d)
      → d.required_depth ≤ available
  hit_success s o k true e z =
      let w : cache_data s false ≡ d = cc in
      omega (arith, leb→le (slot_depth s) available (low (of_true _ e)), ap (λ (x : CacheData). x.required_depth) w)
    where
      low : T (slot_held s && leb (slot_depth s) available && applicable (slot_nested s)) → T (leb (slot_depth s) available)
      low t = search (and_left, and_right)
  hit_success s o k false e z = hit_overflow o k _ refl z

pub in_order_follows : (h : Header) (g : Graph) → InOrder h g → Follows h g
in_order_follows h g v =
    record {
      entries = known_entries h g.stack g.provisional_cache v.entries;
      no_entry = no_entries g.stack g.provisional_cache (known_entries h g.stack g.provisional_cache v.entries);
      found = λ goal l e z. all_on_stack h g.stack goal v.frames v.distinct e l (rw z at (find_at goal g.stack));
      hit = λ goal available applicable d l m z.
          hit_success h goal available applicable d (slot_at h g.global_cache goal success_slot)
          (slot_at h g.global_cache goal (overflow_slot available)) (v.cache.depths goal available l m) _ refl z;
    }

-- ---- the root
ends_of : (h : Header) (g₀ : Graph) → g₀.stack ≡ [] → (o : Outcome) → Keeps h g₀ o → Ends o
ends_of h g₀ e (Stopped r) t = t
ends_of h g₀ e (Done g a) (v, same) = let z : g.stack ≡ [] = no_frames g.stack (same ∙ ap goals_of e) in (z, (in_order_follows h g v).no_entry z)
  where
    no_frames : (s : Stack) → goals_of s ≡ [] → s ≡ []
    no_frames [] q = refl
    no_frames (f ∷ fs) q = clash (cc)

pub always_in_order : (b : Book) → BookOk b → Always b
always_in_order b ok =
    record {
      starts = starts_in_order b ok;
      keeps = keeps_order b ok;
      meets = meets_in_order b ok;
      finishes = finishes_frame b ok;
      ends = λ cache work goal depth e.
          ends_of b.header (new_graph depth cache) refl (evaluate_root b cache goal depth)
          (keeps_order b ok b.header.goals (new_graph depth cache) goal Inductive true (starts_in_order b ok cache work goal depth e)
          (omega arith) (passed b cache work goal depth e).inside);
      runs = λ cache work goal depth e.
          meets_in_order b ok b.header.goals (new_graph depth cache) goal Inductive true
          (starts_in_order b ok cache work goal depth e) (omega arith) (passed b cache work goal depth e).inside;
    }

-- ---- the query
-- a refusal that is not early comes of the evaluation
abbrev AllEarly : List Check → Type 0
AllEarly [] = Unit {0}
AllEarly (c ∷ cs) = Early c.otherwise × AllEarly cs

failed_early : (cs : List Check) → AllEarly cs → (r : Refusal) → first_failed cs ≡ some r → Early r
failed_early [] h r e = clash (cc)
failed_early (c ∷ cs) h r e = one c.passed (failed_early cs h.1 r) e
  where
    one : (t : Bool) → (first_failed cs ≡ some r → Early r)
        → ◌≡◌ {A = Option Refusal} (elim t [ true ↦ first_failed cs | false ↦ some c.otherwise ]) (some r) → Early r
    one true ih e = ih e
    one false ih e = let z : c.otherwise ≡ r = cc in rw z at h.0

abbrev Refuses : Refusal → Reply → Type 0
Refuses r x = x.response ≡ Err r

module _ (r : Refusal) (late : Early r → ⊥) (cache work : List ℕ) (goal depth : ℕ) where
  of_outcome : (o : Outcome) → Refuses r (reply_of cache work o) → o ≡ Stopped r
  of_outcome (Done g a) z = clash (cc)
  of_outcome (Stopped q) z = cc

  of_checks : (b : Book) (o : Option Refusal) → first_failed (checks b cache work goal depth) ≡ o
      → Refuses r
      (elim o [ some q ↦ untouched q cache work | none ↦ reply_of cache work (evaluate_root b cache goal depth) ])
      → Passes b cache work goal depth × (evaluate_root b cache goal depth ≡ Stopped r)
  of_checks b none e z = (e, of_outcome (evaluate_root b cache goal depth) z)
  of_checks b (some q) e z =
      let w : q ≡ r = cc in
      absurd (late (failed_early (checks b cache work goal depth) (tt, (tt, (tt, (tt, (tt, tt))))) r (e ∙ ap some w)))

  of_book : (bytes : List ℕ) (o : BookRead) → read_book bytes ≡ o
      → Refuses r (elim o [ Rejected q ↦ untouched q cache work | Accepted b ↦ query_book b cache work goal depth ])
      → (b : Book) × (read_book bytes ≡ Accepted b) × Passes b cache work goal depth
      × (evaluate_root b cache goal depth ≡ Stopped r)
  of_book bytes (Accepted b) e z =
      let (p, s) = of_checks b (first_failed (checks b cache work goal depth)) refl z in (b, e, p, s)
  of_book bytes (Rejected q) e z =
      let w : q ≡ r = cc in
      absurd (late (rw w at (rejected_early bytes q e)))

not_expected : (r : Refusal) → Expected r → r ≢ Unreachable
not_expected r (inl e) z = clash (cc)
not_expected r (inr e) z = clash (cc)

pub query_never_unreachable : NeverUnreachable
query_never_unreachable bytes cache work goal depth z =
    let (b, e, p, s) = of_book Unreachable (λ t. t) cache work goal depth bytes (read_book bytes) refl z in
    not_expected Unreachable (rw s at ((always_in_order b (any_read bytes b e)).ends cache work goal depth p)) refl

pub only_when_full : OnlyUnder ProvisionalCacheFull Full
only_when_full bytes cache work goal depth z =
    let (b, e, p, s) = of_book ProvisionalCacheFull (λ t. t) cache work goal depth bytes (read_book bytes) refl z in
    (b, e, p, ((always_in_order b (any_read bytes b e)).runs cache work goal depth p).full s)

pub only_on_conflict : OnlyUnder CacheConflict Conflict
only_on_conflict bytes cache work goal depth z =
    let (b, e, p, s) = of_book CacheConflict (λ t. t) cache work goal depth bytes (read_book bytes) refl z in
    (b, e, p, ((always_in_order b (any_read bytes b e)).runs cache work goal depth p).conflict s)
