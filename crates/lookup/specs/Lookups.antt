-- What the lookups are given, which slot applies, and the outcome that is found.
use Rattle.std.specs.Prelude.{Bool, ◌&&◌, List, [], ℕ, ◌*◌, ◌≤◌, ◌<◌, leb}
use Rattle.definition.specs.declared.paths.PathKind.{PathKind}
use Rattle.definition.specs.declared.format.Header.{Header}
use Rattle.definition.specs.Nested.{NestedGoals}
use Rattle.definition.specs.GlobalCache.{slot_held, slot_depth, slot_nested}
use Rattle.definition.specs.Graph.{Graph, Outcome, Done}
use Rattle.definition.specs.Lookup.{candidate_is_applicable}
use Rattle.definition.specs.Evaluate.{evaluate_new_frame}
use Rattle.layout.specs.Work.{graph_of}
use Rattle.global_cache.specs.Cache.{CacheBytes}
use Rattle.stack.specs.Bytes.{StackBytes}
use Rattle.lookup.specs.declared.Found.{Found}
use Rattle.lookup.specs.declared.Found.TheVariants.{Known, Push}

-- a graph with so many frames and entries
pub record Counted (goals frames n : ℕ) (bs : List ℕ) : Type 0 where
  pub stack : StackBytes goals frames bs
  pub entries : n ≤ 2 * goals

-- a goal that is asked at some depth
pub record AskedAt (h : Header) (slots bs : List ℕ) (frames n input depth : ℕ) : Type 0 where
  pub graph : Counted h.goals frames n bs
  pub cache : CacheBytes h.goals h.top slots
  pub goal : input < h.goals
  pub available : depth < 256

-- a goal that is asked
pub record Asked (h : Header) (slots bs : List ℕ) (depth frames n input : ℕ) : Type 0 where
  pub graph : Counted h.goals frames n bs
  pub cache : CacheBytes h.goals h.top slots
  pub goal : input < h.goals
  pub divisor : 1 ≤ h.divisor
  pub root : depth < 256

-- whether a slot with these nested goals applies
abbrev pub applicable : ℕ → ℕ → ℕ → List ℕ → PathKind → NestedGoals → Bool
applicable goals height n bs step nested = candidate_is_applicable (graph_of goals 0 height n bs []) step nested

-- whether the overflow slot is held and applies
abbrev pub overflow_applies : ℕ → ℕ → ℕ → List ℕ → PathKind → List ℕ → Bool
overflow_applies goals height n bs step s = slot_held s && applicable goals height n bs step (slot_nested s)

-- whether the success slot is held, needs no more than the available depth and applies
abbrev pub success_applies : ℕ → ℕ → ℕ → List ℕ → PathKind → ℕ → List ℕ → Bool
success_applies goals height n bs step available s =
    slot_held s && leb (slot_depth s) available && applicable goals height n bs step (slot_nested s)

-- the goal's outcome: its answer, or that of a new frame
unfoldable pub found : Header → (ℕ → Graph → Outcome) → ℕ → PathKind → Found → Graph → Outcome
found h compute goal step (Known a) g = Done g a
found h compute goal step (Push available) g = evaluate_new_frame h compute g goal step available
