use mathlib.Core.Path.{sym, ◌∙◌}
use Prim.Native.Nat.{◌<◌, ◌*◌}
use native.Mathlib.Omega.{arith}
use mathlib.Core.Bool.{Bool}
use Rattle.std.proofs.lemmas.Option.{none-some}
use Rattle.definition.specs.Lookup.{entry_matches, first_match}
use Rattle.layout.specs.Work.{stack_of, entries_of}
use Rattle.provisional_cache.proofs.Entries.{entry_at_bytes}
use Rattle.provisional_cache.proofs.Loops.{read_at, match_here, match_next, match_none}
use Rattle.provisional_cache.proofs.first_match.Goals as goal

pub is_match-requires : goal.is_match-requires
is_match-requires c =
    let a = c.args in
    let under = c.loop-next.invariant.few c.in-Some.i c.in-Some.is in
    let lt : c.in-Some.i < 2 * a.goals = omega arith in
    (entry_at_bytes a.goals a.graph.now c.entry_at-entry.result.now c.in-Some.i c.requires.0.bytes lt c.entry_at-entry.ensures, c.requires.0)

pub returns-then-is_match : goal.returns-then-is_match
returns-then-is_match c =
    let a = c.args in
    let i = c.in-Some.i in
    let st = stack_of a.goals a.height a.graph.now in
    record {
      few = λ k e. c.loop-next.invariant.few k (c.in-Some.is ∙ e);
      is =
          match_here a.goals a.graph.now a.entries i st a.goal a.step (first_match st a.goal a.step (entries_of a.goals a.entries a.graph.now))
          (rw c.in-Some.is at c.loop-next.invariant.is) (c.loop-next.invariant.few i c.in-Some.is)
          (sym
          (c.is_match.ensures
          ∙ read_at {A = Bool} (entry_matches st a.goal a.step) a.goals a.graph.now i c.entry_at-entry.result.now c.entry_at-entry.ensures)
          ∙ c.if-is_match.true);
    }

pub loop-next-preserved : goal.loop-next-preserved
loop-next-preserved c =
    let a = c.args in
    let i = c.in-Some.i in
    let st = stack_of a.goals a.height a.graph.now in
    record {
      few = c.next_of-next-in-Some.ensures.few;
      is =
          c.next_of-next-in-Some.ensures.is st a.step
          ∙ match_next a.goals a.graph.now a.entries i st a.goal a.step (first_match st a.goal a.step (entries_of a.goals a.entries a.graph.now))
          (rw c.in-Some.is at c.loop-next.invariant.is) (c.loop-next.invariant.few i c.in-Some.is)
          (sym
          (c.is_match.ensures
          ∙ read_at {A = Bool} (entry_matches st a.goal a.step) a.goals a.graph.now i c.entry_at-entry.result.now c.entry_at-entry.ensures)
          ∙ c.if-is_match.false);
    }

pub returns : goal.returns
returns c =
    let a = c.args in
    let st = stack_of a.goals a.height a.graph.now in
    record {
      few = λ k e. absurd (none-some k e);
      is =
          match_none a.goals a.graph.now a.entries a.entries st a.goal a.step (first_match st a.goal a.step (entries_of a.goals a.entries a.graph.now))
          (rw c.in_default.is at c.loop-next.invariant.is) (omega arith);
    }
