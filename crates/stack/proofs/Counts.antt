-- The counts of steps: what is read of them, and what a rerun keeps.
use mathlib.Core.Path.{◌≡◌, sym, ap, ◌∙◌, subst}
use mathlib.Core.List.{List, [], ◌∷◌, ◌++◌}
use Prim.Native.Nat.{ℕ, zero, suc, ◌+◌, ◌-◌, ◌≤◌, ◌<◌}
use native.Mathlib.Nat.{zero-add}
use native.Mathlib.Omega.{arith}
use lib.ListN.{length, take}
use Rattle.definition.specs.declared.paths.PathKind.{PathKind}
use Rattle.definition.specs.declared.answers.Answer.{Answer}
use Rattle.definition.specs.Paths.{extend_all}
use Rattle.definition.specs.Steps.{count_step, count_steps}
use Rattle.definition.specs.Stack.{Stack, step_kinds, CountsTrue, cycle_step_kinds, cycle_path_kind}
use Rattle.definition.specs.Task.{rerun_frame}
use Rattle.definition.proofs.StepCounts.{pop_counted, rerun_counted}
use Rattle.buffer.specs.Numbers.{number_of}
use Rattle.buffer.specs.Regions.{region}
use Rattle.layout.specs.Frame.{counts_start, frame_of}
use Rattle.layout.specs.Steps.{packed, unpacked, Few, latest_kind}
use Rattle.layout.specs.Work.{stack_of}
use Rattle.layout.proofs.Counts.{packed_unpacked, unpacked_steps, few_steps, above_room, above_steps, latest_extends}
use Rattle.layout.proofs.Graphs.{length_stack}
use Rattle.stack.specs.Bytes.{StackBytes, frame_at}
use Rattle.stack.specs.Written.{TopChanged}
use Rattle.stack.proofs.Loops.{top, stack_top, none_left}

-- ---- a stack that changed
pub rerun_true : (goals own : ℕ) (answer : Answer) (old new : List ℕ)
    → TopChanged goals own (λ f. rerun_frame f answer) old new
    → CountsTrue (stack_of goals (own + 1) old) → CountsTrue (stack_of goals (own + 1) new)
rerun_true goals own answer old new w c =
    subst CountsTrue (sym w.stack)
    (rerun_counted (frame_at goals own old) (stack_of goals own old) answer
    (subst CountsTrue (stack_top goals own old) c))

-- ---- lower stacks
module _ (goals : ℕ) (bs : List ℕ) where
  pub lower_counted : (h k m : ℕ) → h ≡ k + m → CountsTrue (stack_of goals h bs) → CountsTrue (stack_of goals m bs)
  lower_counted h zero m e c = subst (λ (n : ℕ). CountsTrue (stack_of goals n bs)) (e ∙ zero-add m) c
  lower_counted h (suc k) m e c =
      lower_counted (h - 1) k m (omega arith) (pop_counted (frame_at goals (h - 1) bs) (stack_of goals (h - 1) bs)
      (subst CountsTrue (top goals bs h (omega arith)) c))

  -- the steps of the k highest frames, and those of the others
  kinds_split : (h k m : ℕ) → h ≡ k + m
      → step_kinds (stack_of goals h bs) ≡ step_kinds (take k (stack_of goals h bs)) ++ step_kinds (stack_of goals m bs)
  kinds_split h zero m e = ap (λ (n : ℕ). step_kinds (stack_of goals n bs)) (e ∙ zero-add m)
  kinds_split h (suc k) m e =
      let t = top goals bs h (omega arith) in
      ap step_kinds t
      ∙ ap (λ (ks : List PathKind). (frame_at goals (h - 1) bs).step_kind_from_parent ∷ ks)
      (kinds_split (h - 1) k m (omega arith))
      ∙ sym (ap (λ (s : Stack). step_kinds (take (suc k) s) ++ step_kinds (stack_of goals m bs)) t)

pub lower_stack : (goals height m : ℕ) (bs : List ℕ) → StackBytes goals height bs → m ≤ height → StackBytes goals m bs
lower_stack goals height m bs s le =
    record {
      bytes = s.bytes;
      high = omega (arith, s.high);
      counts = lower_counted goals bs height (height - m) m (omega arith) s.counts;
    }

-- no more than the frames
kinds_bound : (k : ℕ) (s : Stack) → length (step_kinds (take k s)) ≤ length s
kinds_bound zero s = omega arith
kinds_bound (suc k) [] = omega arith
kinds_bound (suc k) (f ∷ fs) = omega (arith, kinds_bound k fs)

pub all_kinds_bound : (s : Stack) → length (step_kinds s) ≤ length s
all_kinds_bound [] = omega arith
all_kinds_bound (f ∷ fs) = omega (arith, all_kinds_bound fs)

-- ---- `frame::steps`
pub frame_steps : (goals : ℕ) (bs : List ℕ) (a : ℕ) → a ≡ counts_start goals → (r : ℕ) → r ≡ number_of (region a 8 bs)
    → unpacked r ≡ (frame_of goals bs).step_counts
unfolding frame_of
frame_steps goals bs a is-a r is-r = ap unpacked (is-r ∙ ap (λ (k : ℕ). number_of (region k 8 bs)) is-a)

-- ---- `steps_of`
module _ (goals height : ℕ) (bs : List ℕ) where
  pub no_steps : height ≡ 0 → 0 ≡ packed (count_steps (step_kinds (stack_of goals height bs)))
  unfolding packed
  no_steps e = sym (ap (λ (s : Stack). packed (count_steps (step_kinds s))) (none_left goals bs height (omega arith)))

  pub top_steps : 0 < height → CountsTrue (stack_of goals height bs) → (r : ℕ)
      → unpacked r ≡ (frame_at goals (height - 1) bs).step_counts
      → r ≡ packed (count_steps (step_kinds (stack_of goals height bs)))
  top_steps pos c r is =
      let t = top goals bs height pos in
      sym (packed_unpacked r)
      ∙ ap packed (is ∙ (subst CountsTrue t c).0 ∙ ap (λ (s : Stack). count_steps (step_kinds s)) (sym t))

-- ---- `push`
module _ (goals height : ℕ) (bs : List ℕ) (s : StackBytes goals height bs) (below : ℕ)
    (is : below ≡ packed (count_steps (step_kinds (stack_of goals height bs)))) where
  short : length (step_kinds (stack_of goals height bs)) < 65535
  short =
      let few = s.bytes.few in
      omega (arith, all_kinds_bound (stack_of goals height bs), length_stack goals height bs, s.high)

  held : unpacked below ≡ count_steps (step_kinds (stack_of goals height bs))
  held = ap unpacked is ∙ unpacked_steps (step_kinds (stack_of goals height bs)) short

  pub push_room : Few (unpacked below)
  push_room = subst Few (sym held) (few_steps (step_kinds (stack_of goals height bs)) short)

  pub push_steps : (step : PathKind) (all : ℕ) → unpacked all ≡ count_step step (unpacked below)
      → unpacked all ≡ count_steps (step ∷ step_kinds (stack_of goals height bs))
  push_steps step all e = e ∙ ap (count_step step) held

-- ---- `cycle_path_kind`
-- from an index that no frame has, the path is the step alone
pub path_outside : (s : Stack) (step : PathKind) (i : ℕ) → length s ≤ i → step ≡ cycle_path_kind s step i
path_outside s step i le =
    let e : length s - suc i ≡ 0 = omega arith in
    sym (ap (λ (n : ℕ). extend_all step (step_kinds (take n s))) e)

module _ (goals height head : ℕ) (bs : List ℕ) (s : StackBytes goals height bs) (lt : head < height) (high low : ℕ)
    (is-high : high ≡ packed (count_steps (step_kinds (stack_of goals height bs))))
    (is-low : low ≡ packed (count_steps (step_kinds (stack_of goals (head + 1) bs)))) where
  abbrev ks : List PathKind
  ks = cycle_step_kinds (stack_of goals height bs) head

  abbrev rest : List PathKind
  rest = step_kinds (stack_of goals (head + 1) bs)

  split : step_kinds (stack_of goals height bs) ≡ ks ++ rest
  split =
      kinds_split goals bs height (length (stack_of goals height bs) - suc head) (head + 1)
      (omega (arith, length_stack goals height bs))

  is_all : high ≡ packed (count_steps (ks ++ rest))
  is_all = is-high ∙ ap (λ (l : List PathKind). packed (count_steps l)) split

  few : length ks < 65535
  few =
      omega (
        arith,
        kinds_bound (length (stack_of goals height bs) - suc head) (stack_of goals height bs),
        length_stack goals height bs,
        s.high,
        s.bytes.few,
      )

  pub path_room : low ≤ high
  path_room = above_room ks rest high low is_all is-low

  held_above : unpacked (high - low) ≡ count_steps ks
  held_above = above_steps ks rest high low is_all is-low few

  pub path_few : Few (unpacked (high - low))
  path_few = subst Few (sym held_above) (few_steps ks few)

  pub path_kind : (step : PathKind) (all : ℕ) → unpacked all ≡ count_step step (unpacked (high - low))
      → (r : PathKind) → r ≡ latest_kind (unpacked all) → r ≡ cycle_path_kind (stack_of goals height bs) step head
  path_kind step all e r is =
      is ∙ ap latest_kind (e ∙ ap (count_step step) held_above) ∙ latest_extends step ks
