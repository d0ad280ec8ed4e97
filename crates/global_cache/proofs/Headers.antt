-- Of a header, an insertion uses only the number of goals and the top depth.
use mathlib.Core.Path.{◌≡◌, refl}
use mathlib.Core.List.{List}
use Prim.Native.Nat.{ℕ}
use Rattle.definition.specs.declared.format.Header.{Header}
use Rattle.definition.specs.Graph.{EvaluationResult}
use Rattle.definition.specs.GlobalCache.{cache_insert}
use Rattle.global_cache.specs.Cache.{header_with, evaluated}

-- nor does it look at the heads
pub insert_with : (h : Header) (cache : List ℕ) (goal : ℕ) (r : EvaluationResult)
    → cache_insert (header_with h.goals h.top) cache goal
    (evaluated r.encountered_overflow r.required_depth r.nested_goals r.result r.passes)
    ≡ cache_insert h cache goal r
insert_with h cache goal r = refl
