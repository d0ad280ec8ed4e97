use mathlib.Core.Path.{◌≡◌}
use mathlib.Core.Bool.{false}
use lib.ListN.{length}
use Prim.Native.Nat.{◌+◌, ◌-◌}
use Rattle.search_graph.specs.Calls.{computed, part_from, task_from}
use Rattle.search_graph.proofs.Cycle.{rank}
use Rattle.search_graph.proofs.Cycle.{Turn}
use Rattle.search_graph.proofs.Walks.{GroupWalk}
use Rattle.search_graph.proofs.Walks.{PickWalk, pick_from}
use Rattle.search_graph.proofs.+evaluate_read_part_rerun.Given as goal

abbrev pub decreases-evaluate : goal.decreases-evaluate
decreases-evaluate l = rank (l.h.goals - l.height) 0 0

abbrev pub decreases-read_part : goal.decreases-read_part
decreases-read_part l = rank (l.h.goals - l.height) 0 (length l.p.now)

abbrev pub decreases-rerun : goal.decreases-rerun
decreases-rerun l = rank (l.h.goals - l.height) (l.left + 1) 0

abbrev pub invariant-read_part-loop-left : goal.invariant-read_part-loop-left
invariant-read_part-loop-left l = GroupWalk l.book l.h l.root l.height l.in_pick
    (part_from l.book l.p l.in_pick l.h l.root l.height l.entries l.initial.work l.initial.cache) (length l.p)
    l.initial.work l.work l.cache l.places l.group l.t l.left
    × ((length l.work ≡ length l.initial.work) × (length l.cache ≡ length l.initial.cache))

abbrev pub invariant-read_part-loop-untried : goal.invariant-read_part-loop-untried
invariant-read_part-loop-untried l = PickWalk l.book l.h l.root l.height
    (pick_from l.book l.h l.root l.height l.initial.work l.initial.cache l.initial.pick l.initial.rest l.initial.untried)
    (length l.p) l.initial.work l.work l.cache l.places l.pick l.rest l.untried
    × ((length l.work ≡ length l.initial.work) × (length l.cache ≡ length l.initial.cache))

abbrev pub invariant-rerun-loop-next : goal.invariant-rerun-loop-next
invariant-rerun-loop-next l = Turn (computed l.book l.p false l.h l.height) l.h.goals l.root l.height l.left
    (task_from l.book l.p l.h l.root l.height l.entries l.left l.initial.work l.initial.cache) l.initial.work l.work l.cache l.places l.more l.overflow l.kept
    × ((length l.work ≡ length l.initial.work) × (length l.cache ≡ length l.initial.cache))

abbrev pub decreases-rerun-loop-next : goal.decreases-rerun-loop-next
decreases-rerun-loop-next l = l.more
