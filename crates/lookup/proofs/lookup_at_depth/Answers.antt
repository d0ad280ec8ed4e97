use mathlib.Core.Path.{◌∙◌, sym, ap, subst}
use mathlib.Core.List.{List}
use Prim.Native.Nat.{ℕ}
use Rattle.definition.specs.Stack.{stack_find}
use Rattle.layout.specs.Work.{stack_of, graph_of}
use Rattle.stack.specs.Bytes.{StackBytes}
use Rattle.stack.specs.Places.{Placed}
use Rattle.lookup.specs.Lookups.{Counted}
use Rattle.lookup.proofs.Hits.{known_pushes, push_small, at_entry, at_slot, at_cycle, at_push, cycle_off}
use Rattle.lookup.proofs.lookup_at_depth.Goals as goal

pub returns-in-Some : goal.returns-in-Some
returns-in-Some c =
    record {
      is =
          λ root compute. at_entry c.args.h c.args.height c.args.entries c.args.goal c.args.step c.args.available c.args.cache.now root compute
          c.args.graph.now c.lookup_provisional_cache-provisional.new.graph c.lookup_provisional_cache-provisional.result
          (c.lookup_provisional_cache-provisional.ensures.is root c.args.cache.now) c.in-Some.answer c.in-Some.is;
      low = λ d e. known_pushes c.in-Some.answer d e;
      missed = λ d e. known_pushes c.in-Some.answer d e;
      off = λ d e. known_pushes c.in-Some.answer d e;
    }

pub lookup_global_cache-global-requires : goal.lookup_global_cache-global-requires
lookup_global_cache-global-requires c =
    record {
      graph = subst (Counted c.args.h.goals c.args.height c.args.entries) (sym (c.lookup_provisional_cache-provisional.ensures.missed c.in_default.is)) c.requires.asked_at.graph;
      cache = c.requires.asked_at.cache;
      goal = c.requires.asked_at.goal;
      available = c.requires.asked_at.available;
    }

pub returns-in-Some-global : goal.returns-in-Some-global
returns-in-Some-global c =
    record {
      is =
          λ root compute. at_slot c.args.h c.args.height c.args.entries c.args.goal c.args.step c.args.available c.args.cache.now root compute
          c.args.graph.now c.lookup_provisional_cache-provisional.new.graph c.lookup_provisional_cache-provisional.result
          (c.lookup_provisional_cache-provisional.ensures.is root c.args.cache.now) c.in_default.is
          (c.lookup_provisional_cache-provisional.ensures.missed c.in_default.is) c.lookup_global_cache-global.new.graph
          c.lookup_global_cache-global.result (c.lookup_global_cache-global.ensures.is root) c.in-Some-global.answer c.in-Some-global.is;
      low = λ d e. known_pushes c.in-Some-global.answer d e;
      missed = λ d e. known_pushes c.in-Some-global.answer d e;
      off = λ d e. known_pushes c.in-Some-global.answer d e;
    }

pub check_cycle_on_stack-cycle-requires : goal.check_cycle_on_stack-cycle-requires
check_cycle_on_stack-cycle-requires c =
    let same = sym (c.lookup_global_cache-global.ensures.missed c.in_default-global.is
    ∙ c.lookup_provisional_cache-provisional.ensures.missed
    c.in_default.is) in record {
      stack_bytes = (subst (StackBytes c.args.h.goals c.args.height) same c.requires.asked_at.graph.stack, c.requires.asked_at.goal);
      placed = subst (λ (bs : List ℕ). Placed (stack_of c.args.h.goals c.args.height bs) c.args.places.now) same c.requires.placed;
    }

pub returns-in-Some-cycle : goal.returns-in-Some-cycle
returns-in-Some-cycle c =
    record {
      is =
          λ root compute. at_cycle c.args.h c.args.height c.args.entries c.args.goal c.args.step c.args.available c.args.cache.now root compute
          c.args.graph.now c.lookup_provisional_cache-provisional.new.graph c.lookup_provisional_cache-provisional.result
          (c.lookup_provisional_cache-provisional.ensures.is root c.args.cache.now) c.in_default.is
          (c.lookup_provisional_cache-provisional.ensures.missed c.in_default.is) c.lookup_global_cache-global.new.graph
          c.lookup_global_cache-global.result (c.lookup_global_cache-global.ensures.is root) c.in_default-global.is
          (c.lookup_global_cache-global.ensures.missed c.in_default-global.is) c.check_cycle_on_stack-cycle.new.graph c.check_cycle_on_stack-cycle.result
          (c.check_cycle_on_stack-cycle.ensures.is root c.args.entries c.args.cache.now) c.in-Some-cycle.answer c.in-Some-cycle.is;
      low = λ d e. known_pushes c.in-Some-cycle.answer d e;
      missed = λ d e. known_pushes c.in-Some-cycle.answer d e;
      off = λ d e. known_pushes c.in-Some-cycle.answer d e;
    }

pub returns : goal.returns
returns c =
    let same = c.lookup_global_cache-global.ensures.missed c.in_default-global.is
    ∙ c.lookup_provisional_cache-provisional.ensures.missed c.in_default.is in
    record {
      is =
          λ root compute. at_push c.args.h c.args.height c.args.entries c.args.goal c.args.step c.args.available c.args.cache.now root compute
          c.args.graph.now c.lookup_provisional_cache-provisional.new.graph c.lookup_provisional_cache-provisional.result
          (c.lookup_provisional_cache-provisional.ensures.is root c.args.cache.now) c.in_default.is
          (c.lookup_provisional_cache-provisional.ensures.missed c.in_default.is) c.lookup_global_cache-global.new.graph
          c.lookup_global_cache-global.result (c.lookup_global_cache-global.ensures.is root) c.in_default-global.is
          (c.lookup_global_cache-global.ensures.missed c.in_default-global.is) c.check_cycle_on_stack-cycle.new.graph c.check_cycle_on_stack-cycle.result
          (c.check_cycle_on_stack-cycle.ensures.is root c.args.entries c.args.cache.now) c.in_default-cycle.is
          (c.check_cycle_on_stack-cycle.ensures.missed c.in_default-cycle.is);
      low = λ d e. push_small c.args.available d c.requires.asked_at.available e;
      missed =
          λ d e. c.check_cycle_on_stack-cycle.ensures.missed c.in_default-cycle.is ∙ same;
      off =
          λ d e. ap (λ (bs : List ℕ). stack_find (stack_of c.args.h.goals c.args.height bs) c.args.goal) (sym same)
          ∙ cycle_off c.args.h (graph_of c.args.h.goals 0 c.args.height c.args.entries c.lookup_global_cache-global.new.graph c.args.cache.now)
          c.args.goal c.args.step c.args.available c.check_cycle_on_stack-cycle.result
          (graph_of c.args.h.goals 0 c.args.height c.args.entries c.check_cycle_on_stack-cycle.new.graph c.args.cache.now)
          (c.check_cycle_on_stack-cycle.ensures.is 0 c.args.entries c.args.cache.now) c.in_default-cycle.is;
    }
