-- The graph is lent as the first part of the workspace, and comes back.
use mathlib.Core.Path.{◌≡◌, sym, ap, ap₂, ◌∙◌}
use mathlib.Core.List.{List}
use Prim.Native.Nat.{ℕ, ◌*◌, ◌-◌, ◌≤◌}
use native.Mathlib.Nat.{zero-add, le_trans, le-add_right}
use native.Mathlib.Omega.{arith}
use lib.ListN.{length, take, drop}
use Rattle.buffer.specs.Regions.{region, overwrite}
use Rattle.buffer.proofs.Regions.{length_region, region_same}
use Rattle.layout.specs.Blocks.{block_size}
use Rattle.layout.specs.Work.{graph_length, merged_of}
use Rattle.layout.proofs.Graphs.{at_least, work_length_lem, graph_merged}
use Rattle.stack.specs.Bytes.{GraphBytes}
use Rattle.stack.proofs.Parts.{part, returned, part_back}
use Rattle.evaluation.specs.Workspace.{WorkBytes, graph_in}

module _ (goals : ℕ) (work : List ℕ) (w : WorkBytes goals work) where
  -- the graph's bytes
  pub graph_room : graph_length goals ≤ length work
  graph_room = le_trans (le-add_right (graph_length goals) (goals * block_size goals)) (at_least (w.long ∙ work_length_lem goals))

  pub graph_long : length (graph_in goals work) ≡ graph_length goals
  unfolding graph_in
  graph_long = length_region 0 (graph_length goals) work (le_trans (at_least (sym (zero-add (graph_length goals)))) graph_room)

  -- a workspace stays one while it keeps its length
  pub same_bytes : (new : List ℕ) → length new ≡ length work → WorkBytes goals new
  same_bytes new e = record { some = w.some; few = w.few; long = e ∙ w.long }

  -- its n first bytes
  module _ (n : ℕ) (is : n ≡ graph_length goals) where
    pub lent_room : n ≤ length work
    lent_room = let h = graph_room in rw is h

    all_of_it : n - 0 ≡ n
    all_of_it = omega arith

    pub lent_graph : part work 0 n ≡ graph_in goals work
    unfolding graph_in
    lent_graph = ap (λ (m : ℕ). take m (drop 0 work)) (all_of_it ∙ is)

    pub lent_bytes : GraphBytes goals (part work 0 n)
    lent_bytes = record { some = w.some; few = w.few; long = ap length lent_graph ∙ graph_long }

    module _ (ys : List ℕ) (kept : length ys ≡ length (part work 0 n)) where
      back : returned work 0 n ys ≡ overwrite work 0 ys
      back = part_back work 0 n ys (omega arith) lent_room kept

      whole : length ys ≡ graph_length goals
      whole = kept ∙ lent_bytes.long

      pub graph_back : graph_in goals (returned work 0 n ys) ≡ ys
      unfolding graph_in
      graph_back =
          ap₂ (λ (m : ℕ) (x : List ℕ). region 0 m x) (sym whole) back
          ∙ region_same work 0 ys (let r = graph_room in let e = whole in omega arith)

      pub merged_back : (i : ℕ) → merged_of goals i (returned work 0 n ys) ≡ merged_of goals i work
      merged_back i = ap (merged_of goals i) back ∙ graph_merged goals work w.long 0 ys (let e = whole in omega arith) i
