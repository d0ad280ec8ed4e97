-- Every cache that queries leave from zeros says in each held slot how often the goal's part was run.
use mathlib.Core.Bool.{true}
use mathlib.Core.List.{List, [], ◌∷◌}
use mathlib.Core.Option.{Option, none, some}
use mathlib.Core.Path.{◌≡◌, refl, subst, sym}
use Prim.Native.Nat.{ℕ}
use native.Mathlib.Omega.{arith}
use lib.ListN.{length, replicate}
use Rattle.definition.specs.Graph.{Done, Graph, Outcome, Stopped}
use Rattle.definition.specs.Part.{Book}
use Rattle.definition.specs.Query.{Reply, checks, evaluate_root, first_failed, new_graph, query, query_book, reply_of, untouched}
use Rattle.definition.specs.Reader.{Accepted, BookRead, Rejected, read_book}
use Rattle.definition.specs.declared.format.Header.{Header}
use Rattle.definition.specs.declared.paths.PathKind.TheVariants.{Inductive}
use Rattle.definition.specs.declared.replies.Refusal.{Refusal}
use Rattle.soundness.specs.Always.{Always, Keeps, SlotsCounted}
use Rattle.soundness.specs.Passes.{PassesCounted}
use Rattle.soundness.specs.Statement.{Query, cache_after, reply_to}
use Rattle.soundness.proofs.EveryBook.{always_in_order}
use Rattle.soundness.proofs.Queries.{passed, vacant_slot}
use Rattle.soundness.proofs.Reading.{any_read}

-- no slot of zeros is held
zeros_counted : (h : Header) (n : ℕ) → SlotsCounted h (replicate n 0)
zeros_counted h n goal slot l m t = absurd (vacant_slot h n goal slot t)

module _ (b : Book) (always : Always b) where
  abbrev CountedIn : Reply → Type 0
  CountedIn r = SlotsCounted b.header r.cache

  outcome_counted : (cache work : List ℕ) (g₀ : Graph) (o : Outcome) → Keeps b.header g₀ o
      → CountedIn (reply_of cache work o)
  outcome_counted cache work g₀ (Done g a) (v, same) = v.cache.passes
  outcome_counted cache work g₀ (Stopped r) t = zeros_counted b.header (length cache)

  module _ (cache work : List ℕ) (goal depth : ℕ) (c : SlotsCounted b.header cache) where
    checked_counted : (o : Option Refusal) → first_failed (checks b cache work goal depth) ≡ o
        → CountedIn
        (elim o [ some r ↦ untouched r cache work | none ↦ reply_of cache work (evaluate_root b cache goal depth) ])
    checked_counted (some r) e = c
    checked_counted none e =
        outcome_counted cache work (new_graph depth cache) (evaluate_root b cache goal depth)
        (always.keeps b.header.goals (new_graph depth cache) goal Inductive true
        (always.starts cache work goal depth e) (omega arith) (passed b cache work goal depth e).inside)

    query_counted : (bytes : List ℕ) → read_book bytes ≡ Accepted b
        → CountedIn (query bytes cache work goal depth)
    query_counted bytes e =
        subst (λ (o : BookRead). CountedIn
        (elim o [ Rejected r ↦ untouched r cache work | Accepted b' ↦ query_book b' cache work goal depth ])) (sym e)
        (checked_counted (first_failed (checks b cache work goal depth)) refl)

  list_counted : (bytes : List ℕ) → read_book bytes ≡ Accepted b → (qs : List Query) (cache : List ℕ)
      → SlotsCounted b.header cache → SlotsCounted b.header (cache_after bytes cache qs)
  list_counted bytes e [] cache c = c
  list_counted bytes e (q ∷ qs) cache c =
      list_counted bytes e qs (reply_to bytes cache q).cache
      (query_counted cache q.work q.goal q.depth c bytes e)

pub counted_from_zeros : PassesCounted
counted_from_zeros bytes b e n qs =
    list_counted b (always_in_order b (any_read bytes b e)) bytes e qs (replicate n 0) (zeros_counted b.header n)
