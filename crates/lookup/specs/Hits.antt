-- What one lookup says of the bytes of a graph, before and after it, for every root and cache beside them.
use Rattle.std.specs.Prelude.{◌≡◌, Bool, List, ℕ}
use Rattle.std.specs.Prelude.{Option as Maybe, Some, None}
use Rattle.std.proofs.Math.Option.{Option, none, some}
use Rattle.definition.specs.declared.paths.PathKind.{PathKind}
use Rattle.definition.specs.declared.answers.Answer.{Answer}
use Rattle.definition.specs.declared.format.Header.{Header}
use Rattle.definition.specs.Graph.{Graph, Outcome, Done}
use Rattle.definition.specs.GlobalCache.{cache_data}
use Rattle.definition.specs.Lookup.{use_entry, use_cache_data, close_cycle, lookup_provisional_cache, lookup_global_cache, check_cycle_on_stack}
use Rattle.layout.specs.Work.{graph_of}
use Rattle.stack.specs.declared.OnStack.{OnStack}
use Rattle.stack.specs.Results.{on_stack_of}
use Rattle.provisional_cache.specs.Entries.{entry_at}

-- what was found, with the graph that is left
abbrev pub hit_of : Maybe Answer → Graph → Option Outcome
hit_of None g = none
hit_of (Some a) g = some (Done g a)

-- ---- the provisional cache

-- entry i answers the goal
abbrev pub EntryUsed : ℕ → ℕ → PathKind → ℕ → ℕ → List ℕ → List ℕ → Answer → Type 0
EntryUsed goals height step available i old new r =
    (root n : ℕ) (cache : List ℕ)
    → some (Done (graph_of goals root height n new cache) r)
    ≡ use_entry (graph_of goals root height n old cache) step available (some (entry_at goals i old))

pub record EntriesTried (h : Header) (height n goal : ℕ) (step : PathKind) (available : ℕ) (old new : List ℕ) (r : Maybe Answer) : Type 0 where
  pub is : (root : ℕ) (cache : List ℕ)
      → hit_of r (graph_of h.goals root height n new cache)
      ≡ lookup_provisional_cache h (graph_of h.goals root height n old cache) goal step available
  pub missed : r ≡ None → new ≡ old

-- ---- the global cache

-- the slot answers the goal
abbrev pub SlotUsed : Header → ℕ → PathKind → ℕ → List ℕ → Bool → List ℕ → List ℕ → Answer → Type 0
SlotUsed h height step available slot overflow old new r =
    (root n : ℕ) (cache : List ℕ)
    → some (Done (graph_of h.goals root height n new cache) r)
    ≡ use_cache_data h (graph_of h.goals root height n old cache) step available (some (cache_data slot overflow))

pub record SlotsTried (h : Header) (height n goal : ℕ) (step : PathKind) (available : ℕ) (cache old new : List ℕ) (r : Maybe Answer) : Type 0 where
  pub is : (root : ℕ)
      → hit_of r (graph_of h.goals root height n new cache)
      ≡ lookup_global_cache h (graph_of h.goals root height n old cache) goal step available
  pub missed : r ≡ None → new ≡ old

-- ---- the stack

-- the goal is on it, in the frame `head`
abbrev pub CycleClosed : Header → ℕ → ℕ → PathKind → ℕ → OnStack → List ℕ → List ℕ → Answer → Type 0
CycleClosed h height goal step available head old new r =
    (root n : ℕ) (cache : List ℕ)
    → Done (graph_of h.goals root height n new cache) r
    ≡ close_cycle h (graph_of h.goals root height n old cache) goal step available (on_stack_of head)

pub record StackTried (h : Header) (height goal : ℕ) (step : PathKind) (available : ℕ) (old new : List ℕ) (r : Maybe Answer) : Type 0 where
  pub is : (root n : ℕ) (cache : List ℕ)
      → hit_of r (graph_of h.goals root height n new cache)
      ≡ check_cycle_on_stack h (graph_of h.goals root height n old cache) goal step available
  pub missed : r ≡ None → new ≡ old
