use mathlib.Core.Path.{sym, ◌∙◌}
use Prim.Native.Nat.{◌<◌, ◌*◌}
use native.Mathlib.Omega.{arith}
use mathlib.Core.Bool.{Bool}
use Rattle.definition.specs.Lookup.{entry_applies, any_entry_applies}
use Rattle.layout.specs.Work.{stack_of, entries_of}
use Rattle.provisional_cache.proofs.Entries.{entry_at_bytes}
use Rattle.provisional_cache.proofs.Loops.{read_at, any_here, any_next, any_none}
use Rattle.provisional_cache.proofs.any_applies.Goals as goal

pub applies-requires : goal.applies-requires
applies-requires c =
    let s = c in
    let lt : c.loop-i.i < 2 * s.args.goals = omega arith in
    let entry_at = c.entry_at-entry in (
      entry_at_bytes s.args.goals s.args.graph.now entry_at.result.now c.loop-i.i s.requires.0.bytes lt
          entry_at.ensures,
      s.requires.0,
    )

pub returns-then-applies : goal.returns-then-applies
returns-then-applies c =
    let s = c in
    let l = c.loop-i in
    let loop-test = c.loop-i-test in
    let entry_at = c.entry_at-entry in
    any_here s.args.goals s.args.graph.now s.args.entries l.i
    (stack_of s.args.goals s.args.height s.args.graph.now) s.args.step s.args.nested.now
    (any_entry_applies (stack_of s.args.goals s.args.height s.args.graph.now) s.args.step s.args.nested.now
    (entries_of s.args.goals s.args.entries s.args.graph.now)) l.invariant loop-test.true
    (sym
    (c.applies.ensures
    ∙ read_at {A = Bool}
    (entry_applies (stack_of s.args.goals s.args.height s.args.graph.now) s.args.step s.args.nested.now)
    s.args.goals s.args.graph.now l.i entry_at.result.now entry_at.ensures)
    ∙ c.if-applies.true)

pub loop-i-preserved : goal.loop-i-preserved
loop-i-preserved c =
    let s = c in
    let l = c.loop-i in
    let loop-test = c.loop-i-test in
    let entry_at = c.entry_at-entry in
    any_next s.args.goals s.args.graph.now s.args.entries l.i
    (stack_of s.args.goals s.args.height s.args.graph.now) s.args.step s.args.nested.now
    (any_entry_applies (stack_of s.args.goals s.args.height s.args.graph.now) s.args.step s.args.nested.now
    (entries_of s.args.goals s.args.entries s.args.graph.now)) l.invariant loop-test.true
    (sym
    (c.applies.ensures
    ∙ read_at {A = Bool}
    (entry_applies (stack_of s.args.goals s.args.height s.args.graph.now) s.args.step s.args.nested.now)
    s.args.goals s.args.graph.now l.i entry_at.result.now entry_at.ensures)
    ∙ c.if-applies.false)

pub returns : goal.returns
returns c =
    let s = c in
    let l = c.loop-i in
    any_none s.args.goals s.args.graph.now s.args.entries l.i
    (stack_of s.args.goals s.args.height s.args.graph.now) s.args.step s.args.nested.now
    (any_entry_applies (stack_of s.args.goals s.args.height s.args.graph.now) s.args.step s.args.nested.now
    (entries_of s.args.goals s.args.entries s.args.graph.now)) l.invariant c.loop-i-test.false
