use mathlib.Core.Path.{sym, ap, ◌∙◌}
use mathlib.Core.Option.{Option, some}
use native.Mathlib.Omega.{arith}
use Prim.Native.Nat.{ℕ}
use Rattle.definition.specs.declared.answers.Answer.{Answer}
use Rattle.stack.proofs.Graph.{frame_bytes_lem}
use Rattle.stack.proofs.Loops.{read_at}
use Rattle.stack.proofs.Places.{found_nowhere, found_at_lem, at_below, nowhere_below}
use Rattle.stack.proofs.find.Goals as goal

pub returns-then-height-index : goal.returns-then-height-index
returns-then-height-index c =
    let a = c.args in
    record {
      is = sym (found_nowhere a.goals a.graph.now a.places.now a.goal c.from-index.result
          c.from-index.ensures a.height c.requires.placed (λ lt e. let over = c.if-height-index.true in omega arith));
      below = λ o e. nowhere_below o a.height e;
    }

pub input-requires : goal.input-requires
input-requires c =
    let a = c.args in
    frame_bytes_lem a.goals a.graph.now c.frame_at-f.result.now c.from-index.result c.requires.graph_bytes.0 (omega arith)
    c.frame_at-f.ensures

pub returns-then-input-goal : goal.returns-then-input-goal
returns-then-input-goal c =
    let a = c.args in
    let is-input = read_at {A = ℕ} (λ f. f.input) a.goals a.graph.now c.from-index.result c.frame_at-f.result.now c.frame_at-f.ensures in
    record {
      is = sym (found_nowhere a.goals a.graph.now a.places.now a.goal c.from-index.result
          c.from-index.ensures a.height c.requires.placed (λ lt e. c.if-input-goal.true (c.input.ensures.0 ∙ is-input ∙ e)));
      below = λ o e. nowhere_below o a.height e;
    }

pub provisional_result-provisional_result-requires : goal.provisional_result-provisional_result-requires
provisional_result-provisional_result-requires c =
    let a = c.args in
    frame_bytes_lem a.goals a.graph.now c.frame_at-f.result.now c.from-index.result c.requires.graph_bytes.0 (omega arith)
    c.frame_at-f.ensures

pub returns : goal.returns
returns c =
    let a = c.args in
    let i = c.from-index.result in
    let is-input = read_at {A = ℕ} (λ f. f.input) a.goals a.graph.now i c.frame_at-f.result.now c.frame_at-f.ensures in
    let is-result = read_at {A = Option Answer} (λ f. f.provisional_result) a.goals a.graph.now i c.frame_at-f.result.now c.frame_at-f.ensures in
    record {
      is = ap (λ (p : Option Answer). some (record { index = i; provisional_result = p }))
          (c.provisional_result-provisional_result.ensures ∙ is-result)
          ∙ sym (found_at_lem a.goals a.graph.now a.places.now a.goal i c.from-index.ensures a.height c.requires.placed (omega arith)
          (sym (c.input.ensures.0 ∙ is-input) ∙ c.if-input-goal.false));
      below = λ o e. at_below _ o a.height (omega arith) e;
    }
