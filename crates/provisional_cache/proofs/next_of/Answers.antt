use mathlib.Core.Path.{◌≡◌, sym, ap, ◌∙◌}
use Prim.Native.Nat.{ℕ}
use Rattle.std.proofs.lemmas.Option.{none-some}
use native.Mathlib.Omega.{arith}
use lib.ListN.{drop}
use Rattle.definition.specs.Graph.{Entry}
use Rattle.definition.specs.Lookup.{first_match}
use Rattle.layout.specs.Work.{entries_of}
use Rattle.provisional_cache.specs.Entries.{entry_at}
use Rattle.provisional_cache.proofs.Entries.{entry_at_bytes}
use Rattle.provisional_cache.proofs.Loops.{read_at, match_next}
use Rattle.provisional_cache.proofs.Tests.{match_other}
use Rattle.provisional_cache.proofs.next_of.Goals as goal

pub input-requires : goal.input-requires
input-requires c =
    let a = c.args in
    let few = c.requires.1.0 in
    entry_at_bytes a.goals a.graph.now c.entry_at-entry.result.now c.loop-k.k c.requires.0 (omega arith) c.entry_at-entry.ensures

pub returns-then-input-goal : goal.returns-then-input-goal
returns-then-input-goal c =
    record {
      least = c.loop-k.auto.k;
      few = λ k e. let same : c.loop-k.k ≡ k = cc in omega arith;
      is = c.loop-k.invariant;
    }

pub loop-k-preserved : goal.loop-k-preserved
loop-k-preserved c =
    let a = c.args in
    let k = c.loop-k.k in
    λ st step.
    match_next a.goals a.graph.now a.entries k st a.goal step
    (first_match st a.goal step (drop a.from (entries_of a.goals a.entries a.graph.now))) (c.loop-k.invariant st step) c.loop-k-test.true
    (sym (match_other st a.goal step (entry_at a.goals k a.graph.now)
    (λ e. c.if-input-goal.false (c.input.ensures.0 ∙ read_at (λ (x : Entry). x.input) a.goals a.graph.now k c.entry_at-entry.result.now c.entry_at-entry.ensures ∙ e))))

pub returns : goal.returns
returns c =
    let a = c.args in
    let e : a.entries ≡ c.loop-k.k = omega arith in
    record {
      least = c.requires.1.1;
      few = λ k e. absurd (none-some k e);
      is = λ st step. ap (λ (k : ℕ). first_match st a.goal step (drop k (entries_of a.goals a.entries a.graph.now))) e ∙ c.loop-k.invariant st step;
    }
