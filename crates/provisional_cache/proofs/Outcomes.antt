-- What the writes are in the definition's graph.
use mathlib.Core.Path.{◌≡◌, sym, ap, ◌∙◌}
use mathlib.Core.Bool.{Bool, true, false}
use mathlib.Core.List.{List, [], ◌∷◌, ◌++◌}
use Prim.Native.Nat.{ℕ, ◌+◌, ◌*◌, ◌≤◌, ◌<◌}
use native.Mathlib.Omega.{arith}
use native.Mathlib.Decide.{dec_lt}
use borrow.Author.Tests.{le-leb, lt-leb}
use lib.Dec.{leb}
use Rattle.definition.specs.declared.paths.PathKind.{PathKind}
use Rattle.definition.specs.declared.answers.Answer.{Answer}
use Rattle.definition.specs.declared.format.Header.{Header}
use Rattle.definition.specs.declared.replies.Refusal.TheVariants.{ProvisionalCacheFull}
use Rattle.definition.specs.Graph.{Entry, Outcome, Done, Stopped, with_provisional_cache, EvaluationResult}
use Rattle.definition.specs.Heads.{highest_index}
use Rattle.definition.specs.Stack.{cycle_path_kind}
use Rattle.definition.specs.Evaluate.{new_entry, insert_provisional_cache}
use Rattle.layout.specs.Work.{entries_start, stack_of, entries_of, graph_of}
use Rattle.layout.proofs.Graphs.{length_entries}
use Rattle.stack.specs.Bytes.{frame_at}
use Rattle.provisional_cache.specs.Entries.{entry_on}
use Rattle.provisional_cache.specs.Inserts.{inserted, Inserted}
use Rattle.provisional_cache.specs.declared.Full.{Full}
use Rattle.std.specs.Prelude.{Result, Ok, Err, ⊤}

-- ---- `insert`
module _ (h : Header) (root height n goal : ℕ) (step : PathKind) (overflow : Bool) (answer : Answer) (old new cache : List ℕ) (i : Result ⊤ Full)
    (made : Inserted h.goals height n goal step overflow answer old new i)
    (r : EvaluationResult) (is-overflow : r.encountered_overflow ≡ overflow) (is-heads : r.heads ≡ (frame_at h.goals height old).heads) (is_answer : r.result ≡ answer) where
  abbrev choice : Bool → Outcome
  choice t =
      elim t [
        | true ↦ Stopped ProvisionalCacheFull
        | false ↦ Done (with_provisional_cache (graph_of h.goals root height n old cache) (entries_of h.goals n old ++ (new_entry (graph_of h.goals root height n old cache) goal step r ∷ []))) r.result
      ]

  opened : insert_provisional_cache h (graph_of h.goals root height n old cache) goal step r ≡ choice (leb (2 * h.goals) n)
  opened = ap (λ (k : ℕ). choice (leb (2 * h.goals) k)) (length_entries h.goals (entries_start h.goals) n old)

  pub insert_stops : 2 * h.goals ≤ n → insert_provisional_cache h (graph_of h.goals root height n old cache) goal step r ≡ Stopped ProvisionalCacheFull
  insert_stops past = opened ∙ ap choice (le-leb (2 * h.goals) n past)

  new_is : new_entry (graph_of h.goals root height n old cache) goal step r ≡ inserted h.goals height goal step overflow answer old
  new_is = λ t. entry_on goal (is-overflow t) (is-heads t) (cycle_path_kind (stack_of h.goals height old) step (highest_index (is-heads t))) (is_answer t)

  pub insert_goes : height ≤ h.goals → n < 2 * h.goals
      → insert_provisional_cache h (graph_of h.goals root height n old cache) goal step r ≡ Done (graph_of h.goals root height (n + 1) new cache) answer
  insert_goes le under =
      let es = ap (λ (e : Entry). entries_of h.goals n old ++ (e ∷ [])) new_is ∙ sym (made.entries under) in
      let s = sym (made.frames.stacks height le) in
      opened ∙ ap choice (lt-leb (2 * h.goals) n under)
      ∙ (λ t. Done (record { root_depth = root; stack = s t; provisional_cache = es t; global_cache = cache }) (is_answer t))

-- what the answer says of the number of entries
module _ (goals height n goal : ℕ) (step : PathKind) (overflow : Bool) (answer : Answer) (old new : List ℕ) (i : Result ⊤ Full) (made : Inserted goals height n goal step overflow answer old new i) where
  pub kept_under : i ≡ Ok tt → n < 2 * goals
  kept_under e =
      elim (dec_lt n (2 * goals)) [
        | yes under ↦ under
        | no past ↦ let f : i ≡ Err (record {}) = made.full (omega arith) in let z : ◌≡◌ {A = ℕ} 0 1 = cc in absurd (omega arith)
      ]

  pub full_past : (f : Full) → i ≡ Err f → 2 * goals ≤ n
  full_past f e =
      elim (dec_lt n (2 * goals)) [
        | yes under ↦ let k : i ≡ Ok tt = made.kept under in let z : ◌≡◌ {A = ℕ} 0 1 = cc in absurd (omega arith)
        | no past ↦ omega arith
      ]
