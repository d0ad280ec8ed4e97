-- `pop`: the graph that is left, by its ending.
use mathlib.Core.Path.{◌≡◌, refl, sym, ap, ap₂, ◌∙◌}
use mathlib.Core.List.{List, [], ◌∷◌}
use types.Run.{OneOf, miss}
use denote.Enum.Declared.{tag_of}
use Prim.Native.Nat.{ℕ, ◌-◌, ◌≤◌, ◌<◌}
use native.Mathlib.Omega.{arith}
use Rattle.definition.specs.declared.endings.Ending.{Ending}
use Rattle.definition.specs.declared.endings.Ending.TheVariants as ending
use Rattle.definition.specs.Stack.{Stack, Frame}
use Rattle.definition.specs.Graph.{Graph}
use Rattle.definition.specs.ProvisionalCache.{survivors, rebase_provisional_cache_entries}
use Rattle.definition.specs.Endings.{tidy_up, pop}
use Rattle.layout.specs.Work.{entries_of, stack_of, graph_of}
use Rattle.layout.proofs.Graphs.{length_stack}
use Rattle.stack.specs.Bytes.{StackBytes, frame_at}
use Rattle.stack.proofs.Counts.{lower_stack}
use Rattle.stack.proofs.Loops.{top}
use Rattle.provisional_cache.specs.Entries.{FramesKept}
use Rattle.provisional_cache.proofs.Loops.{frames_same}
use Rattle.pop.specs.Kept.{Cleared}
use Rattle.definition.specs.contracts.endings.Ending.{the_type}
use Rattle.pop.specs.Rebased.{Rebased, reason_of}
use Rattle.pop.specs.Endings.{FramePopped}

-- an ending that rebases, by the number of its variant
rebases : (e : Ending) → OneOf (1 ∷ 2 ∷ 3 ∷ 4 ∷ []) (tag_of the_type e) → (g : Graph) (p : Frame)
    → rebase_provisional_cache_entries g p (reason_of e) ≡ tidy_up e g p
rebases ending.Nothing k g p = absurd (miss (1 ∷ 2 ∷ 3 ∷ 4 ∷ []) 0 tt k)
rebases (ending.Fixpoint fixpoint) k g p = refl
rebases ending.NoUsages k g p = refl
rebases (ending.Ambiguity kind) k g p = refl
rebases ending.Overflow k g p = refl
rebases ending.Rerun k g p = absurd (miss (1 ∷ 2 ∷ 3 ∷ 4 ∷ []) 5 tt k)

module _ (goals height : ℕ) (old : List ℕ) (s : StackBytes goals height old) (some : 1 ≤ height) where
  abbrev popped : ℕ
  popped = height - 1

  pub popped_under : popped < goals
  popped_under = let h = s.high in omega arith

  pub popped_stack : StackBytes goals popped old
  popped_stack = lower_stack goals height popped old s (omega arith)

  -- the frame on top is the popped one
  abbrev atop : ℕ → ℕ → List ℕ → Stack → Graph
  atop root n cache l =
      record { root_depth = root; stack = l; provisional_cache = entries_of goals n old; global_cache = cache }

  -- told that the ending e is x
  told : (e x : Ending) → e ≡ x → (root n : ℕ) (cache : List ℕ)
      → tidy_up x (graph_of goals root popped n old cache) (frame_at goals popped old)
      ≡ pop e (graph_of goals root height n old cache)
  told e x is root n cache =
      sym (ap₂ (λ (y : Ending) (l : Stack). pop y (atop root n cache l)) is (top goals old height some))

  pub pop_nothing : (e : Ending) → e ≡ ending.Nothing → (n : ℕ) → FramePopped goals height e n old old n
  pop_nothing e is n =
      record {
        is = λ root cache. told e ending.Nothing is root n cache;
        few = omega arith;
        frames = frames_same goals old;
      }

  -- the entries and the frames that are left, in a graph
  left_graph : (root r : ℕ) (new cache : List ℕ) → FramesKept goals old new → {es : List _} → entries_of goals r new ≡ es
      → graph_of goals root popped r new cache
      ≡ record { root_depth = root; stack = stack_of goals popped old; provisional_cache = es; global_cache = cache }
  left_graph root r new cache frames e =
      let t = frames.stacks popped (omega (arith, popped_under)) in
      λ i. record { root_depth = root; stack = t i; provisional_cache = e i; global_cache = cache }

  pub pop_rebased : (e : Ending) → OneOf (1 ∷ 2 ∷ 3 ∷ 4 ∷ []) (tag_of the_type e) → (n r : ℕ) (new : List ℕ)
      → Rebased goals popped (reason_of e) n old new r → FramePopped goals height e n old new r
  pop_rebased e k n r new made =
      record {
        is = λ root cache.
            left_graph root r new cache made.frames made.entries
            ∙ rebases e k (graph_of goals root popped n old cache) (frame_at goals popped old) ∙ told e e refl root n cache;
        few = made.few;
        frames = made.frames;
      }

  pub pop_cleared : (e : Ending) → e ≡ ending.Rerun → (n r : ℕ) (new : List ℕ) → Cleared goals popped n old new r
      → FramePopped goals height e n old new r
  pop_cleared e is n r new made =
      record {
        is = λ root cache.
            left_graph root r new cache made.frames
            (made.entries ∙ ap (λ (k : ℕ). survivors k (entries_of goals n old)) (sym (length_stack goals popped old)))
            ∙ told e ending.Rerun is root n cache;
        few = made.few;
        frames = made.frames;
      }
