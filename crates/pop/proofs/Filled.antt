-- The array of the paths, filled from the lowest frame on.
use mathlib.Core.Path.{◌≡◌, sym, ap, ◌∙◌}
use mathlib.Core.List.{List}
use Prim.Native.Nat.{ℕ, ◌+◌, ◌≤◌, ◌<◌}
use native.Mathlib.Omega.{arith}
use native.Mathlib.Decide.{dec_lt}
use lib.ListN.{length, get_or, set, replicate, length-set, length-replicate, get_or-replicate}
use lib.Seq.{get_or-set_same, get_or-set_other}
use Rattle.definition.specs.declared.paths.PathKind.{PathKind}
use Rattle.definition.specs.declared.paths.PathKind.TheVariants.{Inductive}
use Rattle.definition.specs.Stack.{Stack, cycle_path_kind}

-- those below i, and the step at the others
pub record Filling (s : Stack) (step : PathKind) (popped : ℕ) (paths : List PathKind) (i : ℕ) : Type 0 where
  pub few : i ≤ popped
  pub long : length paths ≡ 64
  pub below : (j : ℕ) → j < i → get_or paths j Inductive ≡ cycle_path_kind s step j
  pub above : (j : ℕ) → i ≤ j → j < 64 → get_or paths j Inductive ≡ step

module _ (s : Stack) (step : PathKind) (popped : ℕ) where
  pub filling_start : Filling s step popped (replicate 64 step) 0
  filling_start =
      record {
        few = omega arith;
        long = length-replicate 64 step;
        below = λ j lt. absurd (omega arith);
        above = λ j up lt. get_or-replicate 64 j step Inductive lt;
      }

  pub filling_next : (paths : List PathKind) (i : ℕ) (kind : PathKind) → Filling s step popped paths i → i < popped
      → i < 64 → kind ≡ cycle_path_kind s step i → Filling s step popped (set paths i kind) (i + 1)
  filling_next paths i kind inv lt room is-kind =
      let l = inv.long in
      record {
        few = omega arith;
        long = length-set paths i kind ∙ inv.long;
        below = λ j h.
            elim (dec_lt j i) [
              | yes lo ↦ get_or-set_other paths i j kind Inductive (λ e. omega arith) ∙ inv.below j lo
              | no hi ↦
                  let e : j ≡ i = omega arith in
                  ap (λ (m : ℕ). get_or (set paths i kind) m Inductive) e ∙ get_or-set_same paths i kind Inductive (omega arith)
                  ∙ is-kind ∙ ap (cycle_path_kind s step) (sym e)
            ];
        above = λ j up h. get_or-set_other paths i j kind Inductive (λ e. omega arith) ∙ inv.above j (omega arith) h;
      }

  -- the frames end at `popped`: from there on no path is longer than the step
  pub filling_done : ((j : ℕ) → popped ≤ j → step ≡ cycle_path_kind s step j) → (paths : List PathKind) (i : ℕ)
      → Filling s step popped paths i → popped ≤ i
      → (j : ℕ) → j < 64 → get_or paths j Inductive ≡ cycle_path_kind s step j
  filling_done outside paths i inv end j lt =
      elim (dec_lt j i) [
        | yes h ↦ inv.below j h
        | no h ↦ inv.above j (omega arith) lt ∙ outside j (omega arith)
      ]
