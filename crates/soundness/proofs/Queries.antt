-- A list of queries: every reply is right, and every cache left behind claims nothing wrong.
use mathlib.Core.Bool.{Bool, ◌&&◌, false, true}
use mathlib.Core.List.{List, [], ◌∷◌}
use mathlib.Core.Option.{Option, none, some}
use mathlib.Core.Path.{◌∙◌, ◌≡◌, refl, subst, sym}
use Prim.Native.Nat.{◌+◌, ◌<◌, ◌≤◌, suc, zero, ℕ}
use native.Mathlib.Decide.{ℕ_discrete}
use native.Mathlib.Numerals.{add-one}
use native.Mathlib.Omega.{arith}
use lib.Dec.{T, eqb, eqb→eq, leb, leb→le, ltb→lt}
use lib.ListN.{get_or, length, replicate}
use Rattle.definition.specs.CacheForm.{all_at_most, cache_fits, cache_length, depth_fits, goals_fit, most_passes, passes_fit, slot_fits, slots_fit}
use Rattle.definition.specs.GlobalCache.{slot_at, slot_depth, slot_held, slot_nested, slot_passes, slot_result, slots_per_goal}
use Rattle.definition.specs.Graph.{Done, Graph, Outcome, Stopped}
use Rattle.definition.specs.Part.{Book}
use Rattle.definition.specs.Query.{Check, Reply, checks, evaluate_root, first_failed, new_graph, query, query_book, reply_of, untouched, zeros}
use Rattle.definition.specs.Reader.{Accepted, BookRead, Rejected, read_book}
use Rattle.definition.specs.declared.answers.Answer.TheVariants.{No, Yes}
use Rattle.definition.specs.declared.format.Header.{Header}
use Rattle.definition.specs.declared.paths.PathKind.TheVariants.{Inductive}
use Rattle.definition.specs.declared.replies.Refusal.{Refusal}
use Rattle.std.specs.Prelude.{Err}
use Rattle.soundness.specs.Always.{CacheInOrder, Counted}
use Rattle.soundness.specs.Sets.{Goals}
use Rattle.soundness.specs.Statement.{AllRight, Query, RightReply, reply_to}
use Rattle.definition.proofs.Tests.{and_left, and_right}
use Rattle.soundness.proofs.Logic.{clash, nobody, or_cases}
use Rattle.soundness.proofs.World.{Judges, World}
use Rattle.soundness.proofs.Inv.{After}
use Rattle.soundness.proofs.Parts.{Claims}
use Rattle.soundness.proofs.Slots.{slot_byte}
use Rattle.soundness.proofs.Evaluate.{evaluate_ok}

-- ---- a cache of any length, whose slots claim nothing wrong
pub record Sound (W : World) (cache : List ℕ) : Type 0 where
  pub fits : length cache ≡ cache_length W.book.header → (goal slot : ℕ) → goal < W.book.header.goals → slot < W.book.header.top + 2
      → T (slot_held (slot_at W.book.header cache goal slot)) → T (W.claim (slot_result (slot_at W.book.header cache goal slot)) nobody goal)

zero_byte : (n q : ℕ) → get_or {A = ℕ} (replicate n 0) q 0 ≡ 0
zero_byte zero q = refl
zero_byte (suc n) zero = refl
zero_byte (suc n) (suc q) = zero_byte n q

pub vacant_slot : (h : Header) (n goal slot : ℕ) → T (slot_held (slot_at h (replicate n 0) goal slot)) → ⊥
vacant_slot h n goal slot t =
    subst (λ (x : ℕ). T (eqb x 1)) (slot_byte h (replicate n 0) goal slot 0 (omega arith) ∙ zero_byte n _) t

pub zeros_sound : (W : World) (n : ℕ) → Sound W (replicate n 0)
zeros_sound W n = record { fits = λ e goal slot l m t. absurd (vacant_slot W.book.header n goal slot t) }

-- ---- a query that is not refused
pub record Passed (h : Header) (cache : List ℕ) (goal depth : ℕ) : Type 0 where
  pub inside : goal < h.goals
  pub shallow : depth ≤ h.top
  pub form : T (cache_fits h cache)
  pub order : CacheInOrder h cache

vacant : (s : List ℕ) → T (all_at_most 0 s) → T (slot_held s) → ⊥
vacant [] v u = u
vacant (x ∷ xs) v u = omega (arith, leb→le x 0 (and_left (leb x 0) (all_at_most 0 xs) v), eqb→eq x 1 u)

-- what the form says of a held slot
held_fits : (h : Header) (k : ℕ) (s : List ℕ) → T (slot_fits h k s) → T (slot_held s)
    → T (eqb (get_or s 0 0) 1 && leb (get_or s 1 0) 3 && depth_fits h k (slot_depth s) && passes_fit h (slot_passes s)
    && all_at_most 31 (slot_nested s))
held_fits h k s t u = or_cases (all_at_most 0 s) _ (λ v. absurd (vacant s v u)) (λ v. v) t

-- its result is an answer
answer_fits : (h : Header) (k : ℕ) (s : List ℕ) → T (slot_fits h k s) → T (slot_held s) → get_or s 1 0 ≤ 3
answer_fits h k s t u = let v = held_fits h k s t u in leb→le (get_or s 1 0) 3 (search (and_left, and_right))

-- its depth fits
pub depth_fits_lem : (h : Header) (k : ℕ) (s : List ℕ) → T (slot_fits h (suc k) s) → T (slot_held s) → slot_depth s ≡ k
depth_fits_lem h k s t u = let v = held_fits h (suc k) s t u in eqb→eq (slot_depth s) k (search (and_left, and_right))

-- and so does how often its part was run
passes_fit_lem : (h : Header) (k : ℕ) (s : List ℕ) → T (slot_fits h k s) → T (slot_held s) → Counted h (slot_passes s)
passes_fit_lem h k s t u =
    let v = held_fits h k s t u in
    record {
      once = leb→le 1 (slot_passes s) (search (and_left, and_right));
      most = leb→le (slot_passes s) (most_passes h) (search (and_left, and_right));
    }

slots_fit_lem : (h : Header) (cache : List ℕ) (goal m k : ℕ) → T (slots_fit h cache goal m) → k < m → T (slot_fits h k (slot_at h cache goal k))
slots_fit_lem h cache goal zero k t l = absurd (omega arith)
slots_fit_lem h cache goal (suc m) k t l =
    go (ℕ_discrete m k) (λ u. slots_fit_lem h cache goal m k (and_right (slot_fits h m (slot_at h cache goal m)) (slots_fit h cache goal m) t) u)
  where
    go : Dec (m ≡ k) → (k < m → T (slot_fits h k (slot_at h cache goal k))) → T (slot_fits h k (slot_at h cache goal k))
    go (yes e) ih =
        subst (λ (n : ℕ). T (slot_fits h n (slot_at h cache goal n))) e (and_left (slot_fits h m (slot_at h cache goal m)) (slots_fit h cache goal m) t)
    go (no d) ih = ih (omega arith)

goals_slots : (h : Header) (cache : List ℕ) (n goal : ℕ) → T (goals_fit h cache n) → goal < n → T (slots_fit h cache goal (slots_per_goal h))
goals_slots h cache zero goal t l = absurd (omega arith)
goals_slots h cache (suc n) goal t l =
    go (ℕ_discrete goal n) (λ u. goals_slots h cache n goal (and_right (slots_fit h cache n (slots_per_goal h)) (goals_fit h cache n) t) u)
  where
    go : Dec (goal ≡ n) → (goal < n → T (slots_fit h cache goal (slots_per_goal h))) → T (slots_fit h cache goal (slots_per_goal h))
    go (yes e) ih = rw e (and_left (slots_fit h cache n (slots_per_goal h)) (goals_fit h cache n) t)
    go (no d) ih = ih (omega arith)

-- every slot of a cache in form is
pub fits_at : (h : Header) (cache : List ℕ) → T (cache_fits h cache) → (goal slot : ℕ) → goal < h.goals
    → slot < slots_per_goal h → T (slot_fits h slot (slot_at h cache goal slot))
fits_at h cache t goal slot l m =
    slots_fit_lem h cache goal (slots_per_goal h) slot (goals_slots h cache h.goals goal t l) m

cache_order : (h : Header) (cache : List ℕ) → length cache ≡ cache_length h → T (cache_fits h cache) → CacheInOrder h cache
cache_order h cache e t =
    record {
      size = e;
      answers = λ goal slot l m u.
          answer_fits h slot (slot_at h cache goal slot) (fits_at h cache t goal slot l m) u;
      depths = λ goal k l m u.
          subst (λ (s : ℕ). T (slot_held (slot_at h cache goal s)) → slot_depth (slot_at h cache goal s) ≡ k) (sym (add-one k))
          (depth_fits_lem h k (slot_at h cache goal (suc k)) (fits_at h cache t goal (suc k) l (omega arith))) u;
      passes = λ goal slot l m u.
          passes_fit_lem h slot (slot_at h cache goal slot) (fits_at h cache t goal slot l m) u;
    }

abbrev AllPassed : List Check → Type 0
AllPassed [] = Unit {0}
AllPassed (c ∷ cs) = T c.passed × AllPassed cs

all_passed : (cs : List Check) → first_failed cs ≡ none → AllPassed cs
all_passed [] e = tt
all_passed (c ∷ cs) e = one c.passed e (λ z. all_passed cs z)
  where
    one : (t : Bool) → ◌≡◌ {A = Option Refusal} (elim t [ true ↦ first_failed cs | false ↦ some c.otherwise ]) none → (first_failed cs ≡ none → AllPassed cs)
        → T t × AllPassed cs
    one true e rest = (tt, rest e)
    one false e rest = clash (cc)

pub passed : (b : Book) (cache work : List ℕ) (goal depth : ℕ) → first_failed (checks b cache work goal depth) ≡ none → Passed b.header cache goal depth
passed b cache work goal depth e =
    let v : AllPassed (checks b cache work goal depth) = all_passed (checks b cache work goal depth) e in
    record {
      inside = ltb→lt goal b.header.goals v.0;
      shallow = leb→le depth b.header.top v.1.0;
      form = v.1.1.1.0;
      order = cache_order b.header cache (eqb→eq (length cache) (cache_length b.header) v.1.1.0) v.1.1.1.0;
    }

-- ---- one query
module _ (W : World) where
  root_ok : (cache : List ℕ) (goal depth : ℕ) → Passed W.book.header cache goal depth → Sound W cache
      → After W [] (new_graph depth cache) (Claims W [] goal) (evaluate_root W.book cache goal depth)
  root_ok cache goal depth p v =
      evaluate_ok W W.book.header.goals [] tt (omega arith) (new_graph depth cache) goal Inductive true
      (record {
        here = refl;
        root = p.shallow;
        frames = tt;
        entries = tt;
        live = omega arith;
        cache = record { order = p.order; claims = v.fits p.order.size };
      })
      p.inside tt

  module _ (set : Bool → Goals) (judged : Judges W set) where
    record Replied (goal : ℕ) (r : Reply) : Type 0 where
      right : RightReply set goal r
      left : Sound W r.cache

    refused : (goal : ℕ) (r : Refusal) (cache work : List ℕ) → Sound W cache
        → Replied goal (record { response = Err r; cache = cache; work = work })
    refused goal r cache work v =
        record {
          right =
              record {
                when_yes = λ e. clash (cc);
                when_no = λ e. let z : ◌≡◌ {A = ℕ} 0 1 = cc in absurd
                    (omega arith);
              };
          left = v;
        }

    answered : (goal : ℕ) (cache work : List ℕ) (g₀ : Graph) (o : Outcome) → After W [] g₀ (Claims W [] goal) o → Replied goal (reply_of cache work o)
    answered goal cache work g₀ (Done g a) (d, s, c) =
        record {
          right = record {
            when_yes = λ e r. let z : a ≡ Yes = cc in judged.yes_right r goal (rw z at c);
            when_no = λ e r. let z : a ≡ No = cc in judged.no_right r goal (rw z at c);
          };
          left = record { fits = λ e. s.inv.cache.claims };
        }
    answered goal cache work g₀ (Stopped r) l = refused goal r (replicate (length cache) 0) (zeros work) (zeros_sound W (length cache))

    query_book_lem : (cache work : List ℕ) (goal depth : ℕ) → Sound W cache → (o : Option Refusal)
        → first_failed (checks W.book cache work goal depth) ≡ o
        → Replied goal (elim o [ some r ↦ untouched r cache work | none ↦ reply_of cache work (evaluate_root W.book cache goal depth) ])
    query_book_lem cache work goal depth v none e =
        answered goal cache work (new_graph depth cache) (evaluate_root W.book cache goal depth)
        (root_ok cache goal depth (passed W.book cache work goal depth e) v)
    query_book_lem cache work goal depth v (some r) e = refused goal r cache work v

    replied : (bytes : List ℕ) → read_book bytes ≡ Accepted W.book → (cache work : List ℕ) (goal depth : ℕ) → Sound W cache
        → Replied goal (query bytes cache work goal depth)
    replied bytes e cache work goal depth v =
        subst (λ (o : BookRead). Replied goal (elim o [ Rejected r ↦ untouched r cache work | Accepted b ↦ query_book b cache work goal depth ]))
        (sym e)
        (query_book_lem cache work goal depth v (first_failed (checks W.book cache work goal depth)) refl)

    -- ---- the list
    pub all_right : (bytes : List ℕ) → read_book bytes ≡ Accepted W.book → (qs : List Query) (cache : List ℕ) → Sound W cache
        → AllRight set bytes cache qs
    all_right bytes e [] cache v = tt
    all_right bytes e (q ∷ qs) cache v =
        let r : Replied q.goal (reply_to bytes cache q) = replied bytes e cache q.work q.goal q.depth v in
        (r.right, all_right bytes e qs _ r.left)
