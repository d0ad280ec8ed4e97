-- What a frame tracks is written in the graph that is lent.
use mathlib.Core.Path.{◌≡◌, ap, ◌∙◌}
use mathlib.Core.Option.{Option}
use mathlib.Core.List.{List}
use Prim.Native.Nat.{ℕ, ◌+◌}
use lib.ListN.{length}
use Rattle.definition.specs.declared.usages.HeadUsages.{HeadUsages}
use Rattle.definition.specs.Candidates.{set_candidate_usages}
use Rattle.layout.specs.Work.{graph_length, stack_of, entries_of}
use Rattle.stack.proofs.Parts.{part, returned}
use Rattle.evaluation.specs.Workspace.{WorkBytes}
use Rattle.evaluation.proofs.Lent.{lent_graph, graph_back, merged_back}
use Rattle.delegate.specs.Picks.{Tracked}

pub tracked : (goals : ℕ) (work : List ℕ) (w : WorkBytes goals work) (n : ℕ) (is : n ≡ graph_length goals) (ys : List ℕ) → length ys ≡ length (part work 0 n) → (own : ℕ) (c : Option (List HeadUsages))
    → stack_of goals (own + 1) ys ≡ set_candidate_usages c (stack_of goals (own + 1) (part work 0 n))
    → ((k : ℕ) → entries_of goals k ys ≡ entries_of goals k (part work 0 n))
    → Tracked goals own c work (returned work 0 n ys)
tracked goals work w n is ys kept own c s e =
    let b = graph_back goals work w n is ys kept in
    let l = lent_graph goals work w n is in
    record {
      stack = ap (stack_of goals (own + 1)) b ∙ s ∙ ap (λ (bs : List ℕ). set_candidate_usages c (stack_of goals (own + 1) bs)) l;
      entries = λ k. ap (entries_of goals k) b ∙ e k ∙ ap (entries_of goals k) l;
      merged = λ i lt. merged_back goals work w n is ys kept i;
    }
