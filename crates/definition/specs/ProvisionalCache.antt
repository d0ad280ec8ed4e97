-- `clear_dependent_provisional_results_for_rerun` and `rebase_provisional_cache_entries` of mod.rs.
use Rattle.std.specs.Prelude.{ℕ, suc, Bool, true, false, not, ◌&&◌, ◌||◌, List, [], ◌∷◌, eqb, length}
use Rattle.std.proofs.Math.Option.{Option, none, some}
use Rattle.definition.specs.declared.paths.PathKind.{PathKind}
use Rattle.definition.specs.declared.usages.HeadUsages.{HeadUsages}
use Rattle.definition.specs.declared.heads.CycleHead.{CycleHead}
use Rattle.definition.specs.declared.answers.Answer.{Answer}
use Rattle.definition.specs.declared.endings.Fixpoint.{Fixpoint}
use Rattle.definition.specs.declared.endings.Fixpoint.TheVariants.{First, Later}
use Rattle.definition.specs.declared.endings.RebaseReason.{RebaseReason}
use Rattle.definition.specs.declared.endings.RebaseReason.TheVariants.{NoCycleUsages, Ambiguity, ReachedFixpoint}
use Rattle.definition.specs.Paths.{extend, same_kind, iter_paths, extend_with_paths, empty_path}
use Rattle.definition.specs.Usages.{no_usages, is_empty, is_single}
use Rattle.definition.specs.Answers.{same_answer, is_ambiguous}
use Rattle.definition.specs.Heads.{CycleHeads, highest_index, opt_highest_index, remove_head, join_head, for_each_head, usages_at, paths_at}
use Rattle.definition.specs.Stack.{Frame, Stack, cycle_path_kind}
use Rattle.definition.specs.Graph.{Entry, with_entry_heads, with_path_from_head, Graph, with_provisional_cache}

-- ---- clear_dependent_provisional_results_for_rerun

-- the entry does not depend on the result of the frame at `rerun`
abbrev pub survives_rerun : ℕ → Entry → Bool
survives_rerun rerun e = not (eqb (highest_index e.heads) rerun) || is_empty (usages_at e.heads rerun)

abbrev pub survivors : ℕ → List Entry → List Entry
survivors rerun [] = []
survivors rerun (e ∷ es) = elim (survives_rerun rerun e) [ true ↦ e ∷ survivors rerun es | false ↦ survivors rerun es ]

-- the frame to rerun was popped: its index is the stack's height
abbrev pub clear_dependent_provisional_results_for_rerun : Graph → Graph
clear_dependent_provisional_results_for_rerun g =
    with_provisional_cache g (survivors (length g.stack) g.provisional_cache)

-- ---- rebase_provisional_cache_entries: an entry e over the popped frame p, whose own heads are the h
-- ph: paths from p to h, ep: paths from e to p, hp and he: the paths from h

-- where e used p for nothing, it gains the heads of p, used for nothing
abbrev pub unused_head : CycleHead → Option CycleHead → CycleHead
unused_head c h = join_head h empty_path no_usages

-- else it gains them as reached through p
abbrev pub head_through : ℕ → CycleHead → Option CycleHead → CycleHead
head_through ep c h = join_head h (extend_with_paths ep c.paths) c.usages

abbrev pub every_ep_keeps : PathKind → PathKind → PathKind → List PathKind → Bool
every_ep_keeps hph he ph [] = true
every_ep_keeps hph he ph (ep ∷ eps) = same_kind hph (extend (extend ep he) ph) && every_ep_keeps hph he ph eps

abbrev pub every_ph_keeps : PathKind → PathKind → List PathKind → List PathKind → Bool
every_ph_keeps hp he eps [] = true
every_ph_keeps hp he eps (ph ∷ phs) = every_ep_keeps (extend hp ph) he ph eps && every_ph_keeps hp he eps phs

-- at each head of p, from index i on: each path heph has the kind of hph
abbrev pub paths_keep_kind : Stack → PathKind → PathKind → ℕ → ℕ → CycleHeads → Bool
paths_keep_kind s step path_from_head ep i [] = true
paths_keep_kind s step path_from_head ep i (none ∷ ps) = paths_keep_kind s step path_from_head ep (suc i) ps
paths_keep_kind s step path_from_head ep i (some p ∷ ps) =
    every_ph_keeps (cycle_path_kind s step i) (extend (cycle_path_kind s step i) path_from_head) (iter_paths ep) (iter_paths p.paths)
    && paths_keep_kind s step path_from_head ep (suc i) ps

abbrev pub fixpoint_keeps : Fixpoint → HeadUsages → Bool
fixpoint_keeps Later u = true
fixpoint_keeps (First kind) u = is_single u kind

abbrev pub reason_keeps : RebaseReason → Answer → HeadUsages → Bool
reason_keeps NoCycleUsages result u = false
reason_keeps (Ambiguity kind) result u = is_ambiguous result && same_answer result kind
reason_keeps (ReachedFixpoint fixpoint) result u = fixpoint_keeps fixpoint u

-- the heads of e after p, which e used as `u` says; nothing where e is dropped
abbrev pub rebased_heads : Stack → Frame → RebaseReason → Entry → HeadUsages → ℕ → Option CycleHeads
rebased_heads s p reason e u ep =
    elim (is_empty u) [
      | true ↦ some (for_each_head unused_head (remove_head e.heads (length s)) p.heads)
      | false ↦
          elim (paths_keep_kind s p.step_kind_from_parent e.path_from_head ep 0 p.heads && reason_keeps reason e.result u) [
            | true ↦ some (for_each_head (head_through ep) (remove_head e.heads (length s)) p.heads)
            | false ↦ none
          ]
    ]

-- an entry without heads is dropped; else its path starts at the new highest head
abbrev pub under_new_head : Stack → Frame → Entry → CycleHeads → Option Entry
under_new_head s p e hs =
    elim (opt_highest_index hs) [
      | none ↦ none
      | some new ↦
          some (with_path_from_head (with_entry_heads e hs) (extend e.path_from_head (cycle_path_kind s p.step_kind_from_parent new)))
    ]

-- an entry whose highest head is not p stays
abbrev pub rebase_entry : Stack → Frame → RebaseReason → Entry → Option Entry
rebase_entry s p reason e =
    elim (eqb (highest_index e.heads) (length s)) [
      | false ↦ some e
      | true ↦
          elim (rebased_heads s p reason e (usages_at e.heads (length s)) (paths_at e.heads (length s))) [
            | none ↦ none
            | some hs ↦ under_new_head s p e hs
          ]
    ]

abbrev pub rebase_entries : Stack → Frame → RebaseReason → List Entry → List Entry
rebase_entries s p reason [] = []
rebase_entries s p reason (e ∷ es) =
    elim (rebase_entry s p reason e) [ none ↦ rebase_entries s p reason es | some r ↦ r ∷ rebase_entries s p reason es ]

-- the frame p was popped from the graph's stack
abbrev pub rebase_provisional_cache_entries : Graph → Frame → RebaseReason → Graph
rebase_provisional_cache_entries g p reason =
    with_provisional_cache g (rebase_entries g.stack p reason g.provisional_cache)
