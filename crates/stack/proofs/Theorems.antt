-- What the bytes of the frames hold of the counts of steps: push, pop and rerun keep it true.
use mathlib.Core.Path.{◌≡◌, refl, sym, ap, ◌∙◌, subst}
use mathlib.Core.List.{List, ◌∷◌}
use Prim.Native.Nat.{ℕ, zero, suc, ◌+◌, ◌-◌, ◌≤◌, ◌<◌}
use native.Mathlib.Omega.{arith}
use Rattle.definition.specs.declared.paths.PathKind.{PathKind}
use Rattle.definition.specs.declared.answers.Answer.{Answer}
use Rattle.definition.specs.Steps.{count_steps}
use Rattle.definition.specs.Stack.{Stack, step_kinds, CountsTrue}
use Rattle.definition.specs.Task.{rerun_frame}
use Rattle.definition.specs.Evaluate.{new_frame}
use Rattle.definition.proofs.StepCounts.{push_counted}
use Rattle.buffer.specs.Numbers.{number_of}
use Rattle.buffer.specs.Regions.{region}
use Rattle.layout.specs.Frame.{counts_start, counts_size}
use Rattle.layout.specs.Steps.{packed, unpacked}
use Rattle.layout.specs.Work.{stack_of}
use Rattle.layout.proofs.Counts.{unpacked_steps}
use Rattle.layout.proofs.Graphs.{length_stack, stack_unfold}
use Rattle.stack.specs.Bytes.{frame_bytes, frame_at}
use Rattle.stack.specs.Counts.{CountsHeld}
use Rattle.stack.specs.Written.{TopWritten, TopChanged}
use Rattle.stack.proofs.Counts.{lower_counted, all_kinds_bound, frame_steps, top_steps, rerun_true}
use Rattle.stack.proofs.Loops.{none_left}

-- ---- in bytes, and of the stack that they are: the same
module _ (goals : ℕ) (bs : List ℕ) where
  pub true_held : (height : ℕ) → CountsTrue (stack_of goals height bs) → CountsHeld goals height bs
  true_held height c i lt =
      let e : i + 1 - 1 ≡ i = omega arith in
      top_steps goals (i + 1) bs (omega arith)
      (lower_counted goals bs height (height - (i + 1)) (i + 1) (omega arith) c)
      (number_of (region (counts_start goals) counts_size (frame_bytes goals i bs)))
      (frame_steps goals (frame_bytes goals i bs) (counts_start goals) refl _ refl
      ∙ ap (λ (k : ℕ). (frame_at goals k bs).step_counts) (sym e))

  pub held_true : (height : ℕ) → height ≤ 64 → CountsHeld goals height bs → CountsTrue (stack_of goals height bs)
  held_true zero few c = subst CountsTrue (sym (none_left goals bs 0 (omega arith))) tt
  held_true (suc i) few c =
      let t : stack_of goals (suc i) bs ≡ frame_at goals i bs ∷ stack_of goals i bs = stack_unfold goals i bs in
      let e : i + 1 ≡ suc i = omega arith in
      let ks : List PathKind = step_kinds (stack_of goals (suc i) bs) in
      let top-held : (frame_at goals i bs).step_counts ≡ count_steps ks =
      sym (frame_steps goals (frame_bytes goals i bs) (counts_start goals) refl _ refl)
      ∙ ap unpacked (c i (omega arith) ∙ ap (λ (n : ℕ). packed (count_steps (step_kinds (stack_of goals n bs)))) e)
      ∙ unpacked_steps ks (omega (arith, all_kinds_bound (stack_of goals (suc i) bs), length_stack goals (suc i) bs)) in
      subst CountsTrue (sym t) (
        top-held ∙ ap (λ (s : Stack). count_steps (step_kinds s)) t,
        held_true i (omega arith) (λ k lt. c k (omega arith)),
      )

-- ---- the operations
pub push_keeps : (goals height goal : ℕ) (step : PathKind) (available : ℕ) (old new : List ℕ) → height < 64
    → TopWritten goals height (new_frame goals goal step available (stack_of goals height old)) old new
    → CountsHeld goals height old → CountsHeld goals (height + 1) new
push_keeps goals height goal step available old new few w c =
    true_held goals new (height + 1)
    (subst CountsTrue (sym w.stack)
    (push_counted (stack_of goals height old) goals goal step available (held_true goals old height (omega arith) c)))

pub pop_keeps : (goals height : ℕ) (bs : List ℕ) → CountsHeld goals (height + 1) bs → CountsHeld goals height bs
pop_keeps goals height bs c i lt = c i (omega arith)

pub rerun_keeps : (goals own : ℕ) (answer : Answer) (old new : List ℕ) → own < 64
    → TopChanged goals own (λ f. rerun_frame f answer) old new
    → CountsHeld goals (own + 1) old → CountsHeld goals (own + 1) new
rerun_keeps goals own answer old new few w c =
    true_held goals new (own + 1)
    (rerun_true goals own answer old new w (held_true goals old (own + 1) (omega arith) c))
