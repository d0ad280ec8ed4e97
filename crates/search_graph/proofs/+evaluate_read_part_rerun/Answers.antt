use mathlib.Core.Path.{refl, sym, ap, ◌∙◌, subst}
use mathlib.Core.Bool.{true, false}
use native.Mathlib.Omega.{arith}
use lib.ListN.{length}
use Prim.Native.Nat.{◌+◌, ◌-◌, ◌*◌, ◌<◌}
use Rattle.std.proofs.Math.Numerals.{sub-one}
use Rattle.std.proofs.lemmas.Result.{err_from_is_err_and}
use Rattle.book.specs.Lines.{line_in}
use Rattle.book.proofs.Walk.{a_line, first_reads}
use Rattle.definition.specs.Stack.{Stack}
use Rattle.definition.proofs.Skeleton.{skeleton}
use Rattle.stack.specs.Places.{PlacesHeld}
use Rattle.search_graph.specs.Calls.{Running, part_from, Comes, kept_below}
use Rattle.search_graph.proofs.Cycle.{lower, fewer, work_next, cache_next, running_next, running_on, known, full, framed}
use Rattle.search_graph.proofs.Cycle.{computed_kept, part_counts, pushed_counts, pushed_places, ran_counts}
use Rattle.search_graph.proofs.Cycle.{turn_refused, turn_ends, turn_again}
use Rattle.search_graph.proofs.Walks.{call_known, call_comes, undecided_comes, comes_as, passed, none_left}
use Rattle.search_graph.proofs.Walks.{group_starts, group_ends, group_stops, group_next}
use Rattle.search_graph.proofs.Walks.{begun_same, entered_skeleton, pick_starts, pick_whole, pick_ends, pick_refused, pick_next}
use Rattle.search_graph.proofs.+evaluate_read_part_rerun.Goals as goal
use Rattle.search_graph.proofs.+evaluate_read_part_rerun.Goals.{read_part-in-Call-below, read_part-in_default-below, read_part-in-Call-candidate, read_part-in_default-candidate}

pub evaluate-returns-then-goals-height : goal.evaluate-returns-then-goals-height
evaluate-returns-then-goals-height t c =
    full c.requires.running c.look_up-found.ensures c.in-Push.is c.if-goals-height.true

pub evaluate-rerun-ran-requires : goal.evaluate-rerun-ran-requires
evaluate-rerun-ran-requires t c =
    let inside : c.args.goal < 64 = omega arith in (
      lower ((c.args.h.goals - c.args.height) * 128 + 0)
          ((c.args.h.goals - (c.args.height + 1)) * 128 + (c.saturating_sub-left.result + 1)) 0 0 t c.decreases
          (omega arith) (omega arith),
      (
        running_next _ _ _ (c.args.height + 1) c.args.entries c.requires.running refl (c.push.auto.work ∙ c.look_up-found.auto.work)
            (omega arith) c.requires.running.entries (pushed_counts c.requires.running c.look_up-found.ensures c.in-Push.is c.push.ensures)
            (pushed_places c.requires.running c.look_up-found.ensures c.in-Push.is c.push.ensures inside),
        (
          omega arith,
          (
            omega arith,
            rw c.of_goal-p.ensures
                (c.requires.running.read.started c.args.goal c.requires.goal_lt_goals).reads,
          ),
        ),
      ),
    )

pub evaluate-finish-requires : goal.evaluate-finish-requires
evaluate-finish-requires t c =
    record {
      bytes = work_next _ c.requires.running.bytes
          (c.rerun-ran.auto.work ∙ c.push.auto.work ∙ c.look_up-found.auto.work);
      slots = cache_next _ c.requires.running.slots c.rerun-ran.auto.cache;
      stack = omega arith;
      known = c.requires.goal_lt_goals;
      few = c.rerun-ran.ensures.few;
      counts = ran_counts c.requires.running c.look_up-found.ensures c.in-Push.is (omega arith) c.requires.goal_lt_goals
          c.push.ensures c.of_goal-p.ensures (c.saturating_sub-left.ensures ∙ sub-one c.args.h.limit) c.rerun-ran.ensures;
    }

pub evaluate-returns-in-Known : goal.evaluate-returns-in-Known
evaluate-returns-in-Known t c =
    known c.requires.running c.look_up-found.ensures _ c.in-Known.is

pub evaluate-returns-else-goals-height : goal.evaluate-returns-else-goals-height
evaluate-returns-else-goals-height t c =
    framed c.requires.running c.look_up-found.ensures c.in-Push.is (omega arith) c.requires.goal_lt_goals
    c.push.ensures c.of_goal-p.ensures (c.saturating_sub-left.ensures ∙ sub-one c.args.h.limit) c.rerun-ran.ensures c.finish.ensures

pub read_part-slice_bounds-t-count : goal.read_part-slice_bounds-t-count
read_part-slice_bounds-t-count t c =
    let line = a_line c.args.h.goals c.args.in_pick c.args.p.now (line_in c.args.p.now) refl c.requires.le_height.1 in omega arith

pub read_part-slice_bounds-t-start : goal.read_part-slice_bounds-t-start
read_part-slice_bounds-t-start t c =
    let line = a_line c.args.h.goals c.args.in_pick c.args.p.now (line_in c.args.p.now) refl c.requires.le_height.1 in omega arith

pub read_part-slice_bounds-rest-count : goal.read_part-slice_bounds-rest-count
read_part-slice_bounds-rest-count t c =
    let line = a_line c.args.h.goals c.args.in_pick c.args.p.now (line_in c.args.p.now) refl c.requires.le_height.1 in omega arith

pub read_part-slice_bounds-rest-start : goal.read_part-slice_bounds-rest-start
read_part-slice_bounds-rest-start t c =
    let line = a_line c.args.h.goals c.args.in_pick c.args.p.now (line_in c.args.p.now) refl c.requires.le_height.1 in omega arith

pub read_part-loop-left-init : goal.read_part-loop-left-init
read_part-loop-left-init t c = (
  group_starts c.requires.running c.args.in_pick c.args.p.now c.requires.le_height.1 _ (sym c.code-code.ensures ∙ c.in-Group.is)
      c.start-group.ensures c.count-left.result c.count-left.ensures.0,
  (refl, refl),
)

pub read_part-code-below-requires : goal.read_part-code-below-requires
read_part-code-below-requires t c =
    record { goals = c.args.h.goals; in_pick = c.args.in_pick; reads = first_reads c.args.h.goals c.args.in_pick c.loop-left.left c.loop-left.t.now c.loop-left.invariant.0.parts c.loop-left-test.true }

pub read_part-first-call-requires-in-Call-below : goal.read_part-first-call-requires-in-Call-below
read_part-first-call-requires-in-Call-below t c =
    (record { goals = c.args.h.goals; in_pick = c.args.in_pick; reads = first_reads c.args.h.goals c.args.in_pick c.loop-left.left c.loop-left.t.now c.loop-left.invariant.0.parts c.loop-left-test.true }, sym c.code-below.ensures ∙ c.in-Call-below.is)

pub read_part-evaluate-o-requires : goal.read_part-evaluate-o-requires
read_part-evaluate-o-requires t c =
    let l = c.loop-left in
    let reads = first_reads c.args.h.goals c.args.in_pick l.left l.t.now l.invariant.0.parts c.loop-left-test.true in
    let run : Running c.args.book.now c.args.starts.now l.places l.cache l.work c.args.h c.args.root c.args.height l.group.entries =
    running_on _ _ _ _ c.requires.running l.invariant.1.1 l.invariant.1.0 l.invariant.0.few l.invariant.0.bones l.invariant.0.placed in
    let line = a_line c.args.h.goals c.args.in_pick c.args.p.now (line_in c.args.p.now) refl c.requires.le_height.1 in (
      fewer ((c.args.h.goals - c.args.height) * 128 + 0) (length c.args.p.now) 0 t c.decreases (omega arith),
      (
        run,
        rw c.first-call-in-Call-below.ensures
            (call_known c.args.h.goals c.args.in_pick l.t.now reads (sym c.code-below.ensures ∙ c.in-Call-below.is)),
      ),
    )

pub read_part-read_part-o-requires : goal.read_part-read_part-o-requires
read_part-read_part-o-requires t c =
    let l = c.loop-left in
    let reads = first_reads c.args.h.goals c.args.in_pick l.left l.t.now l.invariant.0.parts c.loop-left-test.true in
    let run : Running c.args.book.now c.args.starts.now l.places l.cache l.work c.args.h c.args.root c.args.height l.group.entries =
    running_on _ _ _ _ c.requires.running l.invariant.1.1 l.invariant.1.0 l.invariant.0.few l.invariant.0.bones l.invariant.0.placed in
    let shorter = l.invariant.0.shorter in (
      fewer ((c.args.h.goals - c.args.height) * 128 + 0) (length c.args.p.now) (length l.t.now) t c.decreases
          (omega arith),
      (run, (c.requires.le_height.0, reads)),
    )

pub read_part-returns-in-Break : goal.read_part-returns-in-Break
read_part-returns-in-Break t c =
    let l = c.loop-left in
    let reads = first_reads c.args.h.goals c.args.in_pick l.left l.t.now l.invariant.0.parts c.loop-left-test.true in
    let run : Running c.args.book.now c.args.starts.now l.places l.cache l.work c.args.h c.args.root c.args.height l.group.entries =
    running_on _ _ _ _ c.requires.running l.invariant.1.1 l.invariant.1.0 l.invariant.0.few l.invariant.0.bones l.invariant.0.placed in
    let came : Comes c.args.h.goals c.args.root c.args.height (kept_below c.args.in_pick c.args.height)
    (part_from c.args.book.now l.t.now c.args.in_pick c.args.h c.args.root c.args.height l.group.entries l.work l.cache)
    l.work c.match-below.work c.match-below.cache c.match-below.places c.match-below.o =
    elim c.match-below.branch [
      | read_part-in-Call-below w ↦
          comes_as w.work-is w.cache-is w.places-is w.o-is
          (call_comes run c.args.in_pick l.t.now reads (sym c.code-below.ensures ∙ w.in-Call-below.is)
          w.first-call-in-Call-below.ensures w.evaluate-o.ensures)
      | read_part-in_default-below w ↦ comes_as w.work-is w.cache-is w.places-is w.o-is w.read_part-o.ensures
    ] in
    group_stops l.invariant.0 came c.weigh.ensures c.loop-left-test.true _ c.in-Break.is

pub read_part-next-u-requires : goal.read_part-next-u-requires
read_part-next-u-requires t c =
    record { goals = c.args.h.goals; in_pick = c.args.in_pick; reads = first_reads c.args.h.goals c.args.in_pick c.loop-left.left c.loop-left.t.now c.loop-left.invariant.0.parts c.loop-left-test.true }

pub read_part-loop-left-preserved-then-left-gt0 : goal.read_part-loop-left-preserved-then-left-gt0
read_part-loop-left-preserved-then-left-gt0 t c =
    let l = c.loop-left in
    let reads = first_reads c.args.h.goals c.args.in_pick l.left l.t.now l.invariant.0.parts c.loop-left-test.true in
    let run : Running c.args.book.now c.args.starts.now l.places l.cache l.work c.args.h c.args.root c.args.height l.group.entries =
    running_on _ _ _ _ c.requires.running l.invariant.1.1 l.invariant.1.0 l.invariant.0.few l.invariant.0.bones l.invariant.0.placed in
    let came : Comes c.args.h.goals c.args.root c.args.height (kept_below c.args.in_pick c.args.height)
    (part_from c.args.book.now l.t.now c.args.in_pick c.args.h c.args.root c.args.height l.group.entries l.work l.cache)
    l.work c.match-below.work c.match-below.cache c.match-below.places c.match-below.o =
    elim c.match-below.branch [
      | read_part-in-Call-below w ↦
          comes_as w.work-is w.cache-is w.places-is w.o-is
          (call_comes run c.args.in_pick l.t.now reads (sym c.code-below.ensures ∙ w.in-Call-below.is)
          w.first-call-in-Call-below.ensures w.evaluate-o.ensures)
      | read_part-in_default-below w ↦ comes_as w.work-is w.cache-is w.places-is w.o-is w.read_part-o.ensures
    ] in (
      group_next l.invariant.0 came c.weigh.ensures _ c.in-Continue.is
          (passed c.args.h.goals c.args.in_pick l.left l.t.now l.invariant.0.parts c.loop-left-test.true _
          (c.next-u.ensures c.args.h.goals c.args.in_pick reads)),
      (c.match-below.auto.work ∙ l.invariant.1.0, c.match-below.auto.cache ∙ l.invariant.1.1),
    )

pub read_part-loop-left-preserved : goal.read_part-loop-left-preserved
read_part-loop-left-preserved t c =
    let l = c.loop-left in
    let reads = first_reads c.args.h.goals c.args.in_pick l.left l.t.now l.invariant.0.parts c.loop-left-test.true in
    let run : Running c.args.book.now c.args.starts.now l.places l.cache l.work c.args.h c.args.root c.args.height l.group.entries =
    running_on _ _ _ _ c.requires.running l.invariant.1.1 l.invariant.1.0 l.invariant.0.few l.invariant.0.bones l.invariant.0.placed in
    let came : Comes c.args.h.goals c.args.root c.args.height (kept_below c.args.in_pick c.args.height)
    (part_from c.args.book.now l.t.now c.args.in_pick c.args.h c.args.root c.args.height l.group.entries l.work l.cache)
    l.work c.match-below.work c.match-below.cache c.match-below.places c.match-below.o =
    elim c.match-below.branch [
      | read_part-in-Call-below w ↦
          comes_as w.work-is w.cache-is w.places-is w.o-is
          (call_comes run c.args.in_pick l.t.now reads (sym c.code-below.ensures ∙ w.in-Call-below.is)
          w.first-call-in-Call-below.ensures w.evaluate-o.ensures)
      | read_part-in_default-below w ↦ comes_as w.work-is w.cache-is w.places-is w.o-is w.read_part-o.ensures
    ] in (
      group_next l.invariant.0 came c.weigh.ensures _ c.in-Continue.is
          (none_left c.args.h.goals c.args.in_pick l.left l.t.now l.invariant.0.parts c.loop-left-test.true c.if-left-gt0.false),
      (c.match-below.auto.work ∙ l.invariant.1.0, c.match-below.auto.cache ∙ l.invariant.1.1),
    )

pub read_part-returns-after-loop-left : goal.read_part-returns-after-loop-left
read_part-returns-after-loop-left t c =
    group_ends c.loop-left.invariant.0 c.loop-left-test.false c.close.ensures

pub read_part-evaluate-requires : goal.read_part-evaluate-requires
read_part-evaluate-requires t c =
    let line = a_line c.args.h.goals c.args.in_pick c.args.p.now (line_in c.args.p.now) refl c.requires.le_height.1 in (
      fewer ((c.args.h.goals - c.args.height) * 128 + 0) (length c.args.p.now) 0 t c.decreases (omega arith),
      (
        c.requires.running,
        rw c.first-call.ensures
            (call_known c.args.h.goals c.args.in_pick c.args.p.now c.requires.le_height.1
            (sym c.code-code.ensures ∙ c.in-Call.is)),
      ),
    )

pub read_part-returns-in-Call : goal.read_part-returns-in-Call
read_part-returns-in-Call t c =
    call_comes c.requires.running c.args.in_pick c.args.p.now c.requires.le_height.1
    (sym c.code-code.ensures ∙ c.in-Call.is) c.first-call.ensures c.evaluate.ensures

pub read_part-returns-in_default : goal.read_part-returns-in_default
read_part-returns-in_default t c =
    undecided_comes c.requires.running c.args.in_pick c.args.p.now c.requires.le_height.1 c.code-code.result
    c.code-code.ensures c.in_default.in_default-own.keys4

pub read_part-loop-untried-init : goal.read_part-loop-untried-init
read_part-loop-untried-init t c = (
  pick_starts c.requires.running c.args.in_pick c.args.p.now c.requires.le_height.1 (sym c.code-code.ensures ∙ c.in-Pick.is) c.begin-pick.ensures
      c.count-untried.result c.count-untried.ensures.0,
  (refl, refl),
)

pub read_part-code-candidate-requires : goal.read_part-code-candidate-requires
read_part-code-candidate-requires t c =
    record { goals = c.args.h.goals; in_pick = true; reads = first_reads c.args.h.goals true c.loop-untried.untried c.loop-untried.rest.now c.loop-untried.invariant.0.parts c.loop-untried-test.true }

pub read_part-first-asked-requires : goal.read_part-first-asked-requires
read_part-first-asked-requires t c =
    (record { goals = c.args.h.goals; in_pick = true; reads = first_reads c.args.h.goals true c.loop-untried.untried c.loop-untried.rest.now c.loop-untried.invariant.0.parts c.loop-untried-test.true }, sym c.code-candidate.ensures ∙ c.in-Call-candidate.is)

pub read_part-evaluate-tried-requires : goal.read_part-evaluate-tried-requires
read_part-evaluate-tried-requires t c =
    let l = c.loop-untried in
    let same = begun_same c.begin-pick.ensures in
    let run : Running c.args.book.now c.args.starts.now l.places l.cache c.enter_candidate.new.work c.args.h c.args.root c.args.height l.pick.entries =
    running_on _ _ _ _ c.requires.running l.invariant.1.1
    (c.enter_candidate.auto.work ∙ l.invariant.1.0 ∙ c.begin-pick.auto.work)
    l.invariant.0.few (entered_skeleton c.enter_candidate.ensures ∙ l.invariant.0.bones ∙ ap skeleton same)
    (subst (λ (x : Stack). PlacesHeld x l.places) same l.invariant.0.placed) in
    let reads = first_reads c.args.h.goals true l.untried l.rest.now l.invariant.0.parts c.loop-untried-test.true in
    let line = a_line c.args.h.goals c.args.in_pick c.args.p.now (line_in c.args.p.now) refl c.requires.le_height.1 in (
      fewer ((c.args.h.goals - c.args.height) * 128 + 0) (length c.args.p.now) 0 t c.decreases (omega arith),
      (
        run,
        rw c.first-asked.ensures
            (call_known c.args.h.goals true l.rest.now reads (sym c.code-candidate.ensures ∙ c.in-Call-candidate.is)),
      ),
    )

pub read_part-read_part-tried-requires : goal.read_part-read_part-tried-requires
read_part-read_part-tried-requires t c =
    let l = c.loop-untried in
    let same = begun_same c.begin-pick.ensures in
    let run : Running c.args.book.now c.args.starts.now l.places l.cache c.enter_candidate.new.work c.args.h c.args.root c.args.height l.pick.entries =
    running_on _ _ _ _ c.requires.running l.invariant.1.1
    (c.enter_candidate.auto.work ∙ l.invariant.1.0 ∙ c.begin-pick.auto.work)
    l.invariant.0.few (entered_skeleton c.enter_candidate.ensures ∙ l.invariant.0.bones ∙ ap skeleton same)
    (subst (λ (x : Stack). PlacesHeld x l.places) same l.invariant.0.placed) in
    let reads = first_reads c.args.h.goals true l.untried l.rest.now l.invariant.0.parts c.loop-untried-test.true in
    let shorter = l.invariant.0.shorter in (
      fewer ((c.args.h.goals - c.args.height) * 128 + 0) (length c.args.p.now) (length l.rest.now) t c.decreases
          (omega arith),
      (run, (c.requires.le_height.0, reads)),
    )

pub read_part-returns-in_err-pick-in-Pick : goal.read_part-returns-in_err-pick-in-Pick
read_part-returns-in_err-pick-in-Pick t c =
    let l = c.loop-untried in
    let same = begun_same c.begin-pick.ensures in
    let run : Running c.args.book.now c.args.starts.now l.places l.cache c.enter_candidate.new.work c.args.h c.args.root c.args.height l.pick.entries =
    running_on _ _ _ _ c.requires.running l.invariant.1.1
    (c.enter_candidate.auto.work ∙ l.invariant.1.0 ∙ c.begin-pick.auto.work)
    l.invariant.0.few (entered_skeleton c.enter_candidate.ensures ∙ l.invariant.0.bones ∙ ap skeleton same)
    (subst (λ (x : Stack). PlacesHeld x l.places) same l.invariant.0.placed) in
    let reads = first_reads c.args.h.goals true l.untried l.rest.now l.invariant.0.parts c.loop-untried-test.true in
    let came : Comes c.args.h.goals c.args.root c.args.height c.args.height
    (part_from c.args.book.now l.rest.now true c.args.h c.args.root c.args.height l.pick.entries c.enter_candidate.new.work l.cache)
    c.enter_candidate.new.work c.match-candidate.work c.match-candidate.cache c.match-candidate.places c.match-candidate.tried =
    elim c.match-candidate.branch [
      | read_part-in-Call-candidate w ↦
          comes_as w.work-is w.cache-is w.places-is w.tried-is
          (call_comes run true l.rest.now reads (sym c.code-candidate.ensures ∙ w.in-Call-candidate.is)
          w.first-asked.ensures w.evaluate-tried.ensures)
      | read_part-in_default-candidate w ↦ comes_as w.work-is w.cache-is w.places-is w.tried-is w.read_part-tried.ensures
    ] in
    let p = err_from_is_err_and c.from_residual.result c.from_residual.ensures.1 in
    rw (p.1, p.2) (pick_whole c.requires.running c.args.in_pick c.args.p.now c.requires.le_height.1 (sym c.code-code.ensures ∙ c.in-Pick.is)
    c.begin-pick.ensures c.count-untried.result c.count-untried.ensures.0
    (pick_refused c.requires.le_height.0 c.requires.running.stack l.invariant.0 c.enter_candidate.ensures came
    c.finish_candidate.ensures c.loop-untried-test.true _ c.in_err-pick-in-Pick.was))

pub read_part-finish_candidate-requires : goal.read_part-finish_candidate-requires
read_part-finish_candidate-requires t c =
    let l = c.loop-untried in
    let same = begun_same c.begin-pick.ensures in
    let run : Running c.args.book.now c.args.starts.now l.places l.cache c.enter_candidate.new.work c.args.h c.args.root c.args.height l.pick.entries =
    running_on _ _ _ _ c.requires.running l.invariant.1.1
    (c.enter_candidate.auto.work ∙ l.invariant.1.0 ∙ c.begin-pick.auto.work)
    l.invariant.0.few (entered_skeleton c.enter_candidate.ensures ∙ l.invariant.0.bones ∙ ap skeleton same)
    (subst (λ (x : Stack). PlacesHeld x l.places) same l.invariant.0.placed) in
    let reads = first_reads c.args.h.goals true l.untried l.rest.now l.invariant.0.parts c.loop-untried-test.true in
    let came : Comes c.args.h.goals c.args.root c.args.height c.args.height
    (part_from c.args.book.now l.rest.now true c.args.h c.args.root c.args.height l.pick.entries c.enter_candidate.new.work l.cache)
    c.enter_candidate.new.work c.match-candidate.work c.match-candidate.cache c.match-candidate.places c.match-candidate.tried =
    elim c.match-candidate.branch [
      | read_part-in-Call-candidate w ↦
          comes_as w.work-is w.cache-is w.places-is w.tried-is
          (call_comes run true l.rest.now reads (sym c.code-candidate.ensures ∙ w.in-Call-candidate.is)
          w.first-asked.ensures w.evaluate-tried.ensures)
      | read_part-in_default-candidate w ↦ comes_as w.work-is w.cache-is w.places-is w.tried-is w.read_part-tried.ensures
    ] in (
      work_next _ run.bytes c.match-candidate.auto.work,
      (c.requires.le_height.0, (c.requires.running.stack, came.few)),
    )

pub read_part-next-after-requires : goal.read_part-next-after-requires
read_part-next-after-requires t c =
    record { goals = c.args.h.goals; in_pick = true; reads = first_reads c.args.h.goals true c.loop-untried.untried c.loop-untried.rest.now c.loop-untried.invariant.0.parts c.loop-untried-test.true }

pub read_part-loop-untried-preserved-then-untried-gt0 : goal.read_part-loop-untried-preserved-then-untried-gt0
read_part-loop-untried-preserved-then-untried-gt0 t c =
    let l = c.loop-untried in
    let same = begun_same c.begin-pick.ensures in
    let run : Running c.args.book.now c.args.starts.now l.places l.cache c.enter_candidate.new.work c.args.h c.args.root c.args.height l.pick.entries =
    running_on _ _ _ _ c.requires.running l.invariant.1.1
    (c.enter_candidate.auto.work ∙ l.invariant.1.0 ∙ c.begin-pick.auto.work)
    l.invariant.0.few (entered_skeleton c.enter_candidate.ensures ∙ l.invariant.0.bones ∙ ap skeleton same)
    (subst (λ (x : Stack). PlacesHeld x l.places) same l.invariant.0.placed) in
    let reads = first_reads c.args.h.goals true l.untried l.rest.now l.invariant.0.parts c.loop-untried-test.true in
    let came : Comes c.args.h.goals c.args.root c.args.height c.args.height
    (part_from c.args.book.now l.rest.now true c.args.h c.args.root c.args.height l.pick.entries c.enter_candidate.new.work l.cache)
    c.enter_candidate.new.work c.match-candidate.work c.match-candidate.cache c.match-candidate.places c.match-candidate.tried =
    elim c.match-candidate.branch [
      | read_part-in-Call-candidate w ↦
          comes_as w.work-is w.cache-is w.places-is w.tried-is
          (call_comes run true l.rest.now reads (sym c.code-candidate.ensures ∙ w.in-Call-candidate.is)
          w.first-asked.ensures w.evaluate-tried.ensures)
      | read_part-in_default-candidate w ↦ comes_as w.work-is w.cache-is w.places-is w.tried-is w.read_part-tried.ensures
    ] in (
      pick_next c.requires.le_height.0 c.requires.running.stack l.invariant.0 c.enter_candidate.ensures came
          c.finish_candidate.ensures _ c.in_ok-pick-in-Pick.was
          (passed c.args.h.goals true l.untried l.rest.now l.invariant.0.parts c.loop-untried-test.true _
          (c.next-after.ensures c.args.h.goals true reads)),
      (
        c.finish_candidate.auto.work ∙ c.match-candidate.auto.work ∙ c.enter_candidate.auto.work ∙ l.invariant.1.0,
        c.match-candidate.auto.cache ∙ l.invariant.1.1,
      ),
    )

pub read_part-loop-untried-preserved : goal.read_part-loop-untried-preserved
read_part-loop-untried-preserved t c =
    let l = c.loop-untried in
    let same = begun_same c.begin-pick.ensures in
    let run : Running c.args.book.now c.args.starts.now l.places l.cache c.enter_candidate.new.work c.args.h c.args.root c.args.height l.pick.entries =
    running_on _ _ _ _ c.requires.running l.invariant.1.1
    (c.enter_candidate.auto.work ∙ l.invariant.1.0 ∙ c.begin-pick.auto.work)
    l.invariant.0.few (entered_skeleton c.enter_candidate.ensures ∙ l.invariant.0.bones ∙ ap skeleton same)
    (subst (λ (x : Stack). PlacesHeld x l.places) same l.invariant.0.placed) in
    let reads = first_reads c.args.h.goals true l.untried l.rest.now l.invariant.0.parts c.loop-untried-test.true in
    let came : Comes c.args.h.goals c.args.root c.args.height c.args.height
    (part_from c.args.book.now l.rest.now true c.args.h c.args.root c.args.height l.pick.entries c.enter_candidate.new.work l.cache)
    c.enter_candidate.new.work c.match-candidate.work c.match-candidate.cache c.match-candidate.places c.match-candidate.tried =
    elim c.match-candidate.branch [
      | read_part-in-Call-candidate w ↦
          comes_as w.work-is w.cache-is w.places-is w.tried-is
          (call_comes run true l.rest.now reads (sym c.code-candidate.ensures ∙ w.in-Call-candidate.is)
          w.first-asked.ensures w.evaluate-tried.ensures)
      | read_part-in_default-candidate w ↦ comes_as w.work-is w.cache-is w.places-is w.tried-is w.read_part-tried.ensures
    ] in (
      pick_next c.requires.le_height.0 c.requires.running.stack l.invariant.0 c.enter_candidate.ensures came
          c.finish_candidate.ensures _ c.in_ok-pick-in-Pick.was
          (none_left c.args.h.goals true l.untried l.rest.now l.invariant.0.parts c.loop-untried-test.true c.if-untried-gt0.false),
      (
        c.finish_candidate.auto.work ∙ c.match-candidate.auto.work ∙ c.enter_candidate.auto.work ∙ l.invariant.1.0,
        c.match-candidate.auto.cache ∙ l.invariant.1.1,
      ),
    )

pub read_part-returns-after-loop-untried : goal.read_part-returns-after-loop-untried
read_part-returns-after-loop-untried t c =
    pick_whole c.requires.running c.args.in_pick c.args.p.now c.requires.le_height.1 (sym c.code-code.ensures ∙ c.in-Pick.is)
    c.begin-pick.ensures c.count-untried.result c.count-untried.ensures.0
    (pick_ends c.requires.le_height.0 c.requires.running.stack c.loop-untried.invariant.0 c.loop-untried-test.false
    c.end.ensures)

pub rerun-read_part-o-requires : goal.rerun-read_part-o-requires
rerun-read_part-o-requires t c = (
  lower ((c.args.h.goals - c.args.height) * 128 + (c.args.left + 1)) ((c.args.h.goals - c.args.height) * 128 + 0) 0
      (length c.args.p.now) t c.decreases (omega arith) c.well_formed.1.1.1.0.0,
  (
    running_on _ _ _ _ c.requires.running c.loop-next.invariant.1.1 c.loop-next.invariant.1.0 c.loop-next.invariant.0.few c.loop-next.invariant.0.bones c.loop-next.invariant.0.placed,
    (c.requires.le_height.0, c.requires.le_height.1.1),
  ),
)

pub rerun-returns-in_err-next : goal.rerun-returns-in_err-next
rerun-returns-in_err-next t c =
    let p = err_from_is_err_and c.from_residual.result c.from_residual.ensures.1 in
    rw (p.1, p.2) (turn_refused c.loop-next.invariant.0 c.read_part-o.ensures c.end_iteration.ensures c.requires.le_height.0 _ c.in_err-next.was)

pub rerun-end_iteration-requires-clause-work_bytes : goal.rerun-end_iteration-requires-clause-work_bytes
rerun-end_iteration-requires-clause-work_bytes t c = (
  work_next _ c.requires.running.bytes (c.read_part-o.auto.work ∙ c.loop-next.invariant.1.0),
  part_counts c.args.book.now c.args.h c.args.root c.args.height c.loop-next.kept c.loop-next.work c.loop-next.cache
      false c.args.p.now c.read_part-o.ensures c.loop-next.invariant.0.counts,
)

pub rerun-returns-in-End : goal.rerun-returns-in-End
rerun-returns-in-End t c =
    turn_ends c.loop-next.invariant.0 c.read_part-o.ensures c.end_iteration.ensures c.in_ok-next.was
    c.requires.le_height.0 c.requires.le_height.1.0 _ c.in-End.is

pub rerun-loop-next-preserved : goal.rerun-loop-next-preserved
rerun-loop-next-preserved t c = (
  turn_again c.loop-next.invariant.0 c.read_part-o.ensures c.end_iteration.ensures c.in_ok-next.was
      (computed_kept c.args.book.now c.args.p.now false c.args.h c.args.height) _ _ c.in-Again.is,
  (
    c.end_iteration.auto.work ∙ c.read_part-o.auto.work ∙ c.loop-next.invariant.1.0,
    c.read_part-o.auto.cache ∙ c.loop-next.invariant.1.1,
  ),
)
