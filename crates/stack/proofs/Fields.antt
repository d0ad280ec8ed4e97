-- What the writes of `start`, `reset` and `mark_overflow` make of a frame.
use mathlib.Core.Path.{◌≡◌, refl, sym, ap, ap₂, ◌∙◌}
use mathlib.Core.Bool.{false}
use mathlib.Core.Option.{Option, none, some}
use mathlib.Core.List.{List, [], ◌∷◌}
use Prim.Native.Nat.{ℕ, ◌+◌, ◌-◌, ◌^◌, ◌≤◌, ◌<◌}
use native.Mathlib.Nat.{zero-add}
use native.Mathlib.Omega.{arith}
use lib.ListN.{length, get_or, set, replicate, length-set}
use lib.Seq.{get_or-set_same, get_or-set_other}
use Rattle.definition.specs.declared.usages.HeadUsages.{HeadUsages}
use Rattle.definition.specs.declared.paths.PathKind.{PathKind}
use Rattle.definition.specs.declared.answers.Answer.{Answer}
use Rattle.definition.specs.declared.answers.Answer.TheVariants.{No, Yes, Undecided, Overflow}
use Rattle.definition.proofs.Numbers.{kind_back}
use Rattle.definition.specs.Paths.{kind_number}
use Rattle.definition.specs.Answers.{answer_number}
use Rattle.definition.specs.Usages.{no_usages}
use Rattle.definition.specs.Heads.{no_heads}
use Rattle.definition.specs.Nested.{insert_nested}
use Rattle.definition.specs.Steps.{StepCounts, count_steps}
use Rattle.definition.specs.Stack.{Frame, Stack, step_kinds, with_provisional_result, with_heads, with_overflow, with_usages, with_candidate_usages, with_nested_goals}
use Rattle.definition.specs.Parent.{mark_overflow}
use Rattle.definition.specs.Task.{rerun_frame}
use Rattle.definition.specs.Evaluate.{new_frame}
use Rattle.buffer.specs.Numbers.{bytes_of}
use Rattle.buffer.specs.Regions.{region, overwrite}
use Rattle.buffer.proofs.Numbers.{length_bytes, number_bytes}
use Rattle.buffer.proofs.Regions.{length_overwrite, region_same, region_before, byte_before, byte_in}
use Rattle.buffer.proofs.Sized.{sized}
use Rattle.layout.specs.Blocks.{usages_size, usages_of, heads_size, heads_of, block_size}
use Rattle.layout.specs.Frame.{frame_provisional, frame_overflow, frame_is_head, frame_tracks, usages_start, heads_start, candidate_start, nested_start, counts_start, counts_size, frame_size, result_of, when_set, frame_of}
use Rattle.layout.specs.Steps.{unpacked}
use Rattle.layout.proofs.Frames.{frame_by_lem, frame_provisional_lem, frame_overflow_lem, frame_has_usages, frame_has_candidate, frame_usages, frame_nested, frame_counts, with_step_counts}
use Rattle.stack.proofs.Parts.{part, returned, part_length, part_back, returned_length}

-- ---- numbers that are read back
pub result_back : (a : Answer) → result_of (answer_number a + 1) ≡ some a
result_back No = refl
result_back Yes = refl
result_back Undecided = refl
result_back Overflow = refl

pub answer_small : (a : Answer) → answer_number a < 4
answer_small No = omega arith
answer_small Yes = omega arith
answer_small Undecided = omega arith
answer_small Overflow = omega arith

-- ---- `start`
abbrev pub start_fields : ℕ → PathKind → ℕ → List ℕ
start_fields goal step available = goal ∷ kind_number step ∷ available ∷ available ∷ 0 ∷ 0 ∷ 0 ∷ 0 ∷ []

pub start_fields_lem : (bs : List ℕ) → length bs ≡ 8 → (goal available : ℕ) (step : PathKind) (k : ℕ) → k ≡ kind_number step
    → set (set (set (set (set (set (set (set bs 0 goal) 1 k) 2 available) 3 available) 4 0) 5 0) 6 0) 7 0 ≡ start_fields goal step available
start_fields_lem bs len goal available step k ek =
    sized 8 (λ l. set (set (set (set (set (set (set (set l 0 goal) 1 k) 2 available) 3 available) 4 0) 5 0) 6 0) 7 0 ≡ goal ∷ k ∷ available ∷ available ∷ 0 ∷ 0 ∷ 0 ∷ 0 ∷ []) (λ b0 b1 b2 b3 b4 b5 b6 b7. refl) bs len
    ∙ (λ t. goal ∷ ek t ∷ available ∷ available ∷ 0 ∷ 0 ∷ 0 ∷ 0 ∷ [])

-- eight bytes, the heads and the nested goals are written
module _ (goals goal available : ℕ) (step : PathKind) (bs hs zs : List ℕ) (long : length bs ≡ frame_size goals) (heads : length hs ≡ heads_size goals) (nested : length zs ≡ goals) where
  abbrev one : List ℕ
  one = overwrite bs 0 (start_fields goal step available)

  abbrev two : List ℕ
  two = overwrite one heads_start hs

  abbrev three : List ℕ
  three = overwrite two (nested_start goals) zs

  long_one : length one ≡ frame_size goals
  long_one = length_overwrite bs 0 (start_fields goal step available) (omega arith) ∙ long

  fit_heads : heads_start + length hs ≤ length one
  fit_heads = omega (arith, long_one)

  long_two : length two ≡ frame_size goals
  long_two = length_overwrite one heads_start hs fit_heads ∙ long_one

  fit_nested : nested_start goals + length zs ≤ length two
  fit_nested = omega (arith, long_two)

  bytes : (j : ℕ) → j < 8 → get_or three j 0 ≡ get_or (start_fields goal step available) j 0
  bytes j lt =
      byte_before two (nested_start goals) zs fit_nested j (omega arith)
      ∙ byte_before one heads_start hs fit_heads j (omega arith)
      ∙ ap (λ (k : ℕ). get_or one k 0) (sym (zero-add j))
      ∙ byte_in bs 0 (start_fields goal step available) (omega arith) j lt

  heads_there : region heads_start (heads_size goals) three ≡ hs
  heads_there =
      region_before two (nested_start goals) zs fit_nested heads_start (heads_size goals) (omega arith)
      ∙ ap (λ (n : ℕ). region heads_start n two) (sym heads)
      ∙ region_same one heads_start hs fit_heads

  nested_there : region (nested_start goals) goals three ≡ zs
  nested_there = ap (λ (n : ℕ). region (nested_start goals) n three) (sym nested) ∙ region_same two (nested_start goals) zs fit_nested

  long_three : length three ≡ frame_size goals
  long_three = length_overwrite two (nested_start goals) zs fit_nested ∙ long_two

  -- on a stack s
  module _ (s : Stack) where
    -- all but the counts
    started : heads_of goals hs ≡ no_heads goals → zs ≡ replicate goals 0
        → (cs : StepCounts) → with_step_counts (frame_of goals three) cs ≡ with_step_counts (new_frame goals goal step available s) cs
    started clear zeros cs =
        ap (λ (f : Frame). with_step_counts f cs)
        (frame_by_lem goals three (λ j. get_or (start_fields goal step available) j 0) (region usages_start usages_size three) hs (region (candidate_start goals) (block_size goals) three) zs (region (counts_start goals) counts_size three) bytes refl heads_there refl nested_there refl)
        ∙ (λ t. with_step_counts (with_nested_goals (with_heads (new_frame goals goal (kind_back step t) available s) (clear t)) (zeros t)) cs)

    counted : heads_of goals hs ≡ no_heads goals → zs ≡ replicate goals 0 → (steps : ℕ) → steps < 256 ^ 8
        → unpacked steps ≡ count_steps (step ∷ step_kinds s)
        → frame_of goals (overwrite three (counts_start goals) (bytes_of 8 steps)) ≡ new_frame goals goal step available s
    counted clear zeros steps small is =
        frame_counts goals three long_three (bytes_of 8 steps) (length_bytes 8 steps)
        ∙ ap (with_step_counts (frame_of goals three)) (ap unpacked (number_bytes 8 steps small) ∙ is)
        ∙ started clear zeros (count_steps (step ∷ step_kinds s))

-- by what the calls say
module _ (goals goal available : ℕ) (step : PathKind) (bs fs hs zs : List ℕ) (c a : ℕ) (long : length bs ≡ frame_size goals) (is_c : c ≡ candidate_start goals) (is-a : a ≡ nested_start goals) where
  pub start_frame : fs ≡ start_fields goal step available
      → length hs ≡ length (part (returned bs 0 8 fs) 40 c) → heads_of goals hs ≡ no_heads goals
      → length zs ≡ length (part (returned (returned bs 0 8 fs) 40 c hs) a (a + goals))
      → zs ≡ replicate (length (part (returned (returned bs 0 8 fs) 40 c hs) a (a + goals))) 0
      → (out : List ℕ) (k steps : ℕ) → k ≡ counts_start goals → steps < 256 ^ 8
      → out ≡ overwrite (returned (returned (returned bs 0 8 fs) 40 c hs) a (a + goals) zs) k (bytes_of 8 steps)
      → (s : Stack) → unpacked steps ≡ count_steps (step ∷ step_kinds s)
      → frame_of goals out ≡ new_frame goals goal step available s
  start_frame is_f kept-h clear kept-z zeros out k steps is-k small is_out s is-steps =
      let x1 : List ℕ = returned bs 0 8 fs in
      let one : List ℕ = overwrite bs 0 (start_fields goal step available) in
      let e1 : x1 ≡ one = ap (λ (l : List ℕ). returned bs 0 8 l) is_f in
      let l1 : length x1 ≡ frame_size goals = ap length e1 ∙ length_overwrite bs 0 (start_fields goal step available) (omega arith) ∙ long in
      let nh = part_length x1 40 c hs (omega arith) (omega arith) kept-h in
      let wide : length hs ≡ heads_size goals = omega arith in
      let b2 = part_back x1 40 c hs (omega arith) (omega arith) kept-h in
      let x2 : List ℕ = returned x1 40 c hs in
      let l2 : length x2 ≡ frame_size goals = ap length b2 ∙ length_overwrite x1 40 hs (omega arith) ∙ l1 in
      let nz = part_length x2 a (a + goals) zs (omega arith) (omega arith) kept-z in
      let narrow : length zs ≡ goals = omega arith in
      let b3 = part_back x2 a (a + goals) zs (omega arith) (omega arith) kept-z in
      let e3 = b3 ∙ ap₂ (λ (l : List ℕ) (m : ℕ). overwrite l m zs) (b2 ∙ ap (λ (l : List ℕ). overwrite l 40 hs) e1) is-a in
      ap (frame_of goals) (is_out ∙ ap₂ (λ (l : List ℕ) (m : ℕ). overwrite l m (bytes_of 8 steps)) e3 is-k)
      ∙ counted goals goal available step bs hs zs long wide narrow s clear (zeros ∙ ap (λ (n : ℕ). replicate n 0) (sym kept-z ∙ narrow)) steps small is-steps

-- ---- `reset`
module _ (goals n : ℕ) (bs : List ℕ) (answer : Answer) (long : length bs ≡ frame_size goals) (is-n : n ≡ answer_number answer) where
  -- the fields, one after the other
  abbrev b1 : List ℕ
  b1 = set bs frame_provisional (n + 1)

  abbrev b2 : List ℕ
  b2 = set b1 frame_overflow 0

  abbrev b3 : List ℕ
  b3 = set b2 frame_is_head 1

  abbrev b4 : List ℕ
  b4 = set b3 frame_tracks 0

  long1 : length b1 ≡ frame_size goals
  long1 = length-set bs frame_provisional (n + 1) ∙ long

  long2 : length b2 ≡ frame_size goals
  long2 = length-set b1 frame_overflow 0 ∙ long1

  long3 : length b3 ≡ frame_size goals
  long3 = length-set b2 frame_is_head 1 ∙ long2

  long4 : length b4 ≡ frame_size goals
  long4 = length-set b3 frame_tracks 0 ∙ long3

  is_head : get_or b4 frame_is_head 0 ≡ 1
  is_head = get_or-set_other b3 frame_tracks frame_is_head 0 0 (λ e. omega arith) ∙ get_or-set_same b2 frame_is_head 1 0 (omega (arith, long2))

  -- the usages are written behind them
  pub reset_length : (us : List ℕ) → length us ≡ length (part b4 usages_start heads_start) → length (returned b4 usages_start heads_start us) ≡ length bs
  reset_length us kept = returned_length b4 usages_start heads_start us (omega arith) (omega (arith, long4)) kept ∙ long4 ∙ sym long

  pub reset_frame : (us : List ℕ) → length us ≡ length (part b4 usages_start heads_start) → usages_of us ≡ no_usages
      → frame_of goals (returned b4 usages_start heads_start us) ≡ rerun_frame (frame_of goals bs) answer
  reset_frame us kept none-used =
      ap (frame_of goals) (part_back b4 usages_start heads_start us (omega arith) (omega (arith, long4)) kept)
      ∙ frame_usages goals b4 long4 us (part_length b4 usages_start heads_start us (omega arith) (omega (arith, long4)) kept)
      ∙ ap₂ (λ (k : ℕ) (u : HeadUsages). with_usages (frame_of goals b4) (when_set k u)) is_head none-used
      ∙ ap (λ (f : Frame). with_usages f (some no_usages)) (frame_has_candidate goals b3 long3 0)
      ∙ ap (λ (f : Frame). with_usages (with_candidate_usages f none) (some no_usages)) (frame_has_usages goals b2 long2 1)
      ∙ ap (λ (f : Frame). with_usages (with_candidate_usages f none) (some no_usages)) (frame_overflow_lem goals b1 long1 0)
      ∙ ap (λ (f : Frame). with_candidate_usages (with_usages (with_overflow f false) (some no_usages)) none) (frame_provisional_lem goals bs long (n + 1))
      ∙ ap (λ (o : Option Answer). with_candidate_usages (with_usages (with_overflow (with_provisional_result (frame_of goals bs) o) false) (some no_usages)) none) (ap (λ (k : ℕ). result_of (k + 1)) is-n ∙ result_back answer)

-- ---- `mark_overflow`
pub mark_frame : (goals : ℕ) (bs b1 ys : List ℕ) (a : ℕ) → length bs ≡ frame_size goals → b1 ≡ set bs 5 1 → a ≡ nested_start goals → length ys ≡ length (part b1 a (a + goals))
    → (goal : ℕ) → goal ≡ (frame_of goals b1).input → ys ≡ insert_nested (part b1 a (a + goals)) goal 1
    → frame_of goals (returned b1 a (a + goals) ys) ≡ mark_overflow (frame_of goals bs)
unfolding frame_of
mark_frame goals bs b1 ys a long marked is-a kept goal is-goal is_y =
    let l1 : length b1 ≡ frame_size goals = ap length marked ∙ length-set bs 5 1 ∙ long in
    let n : length ys ≡ goals = omega (arith, part_length b1 a (a + goals) ys (omega arith) (omega arith) kept) in
    let e : a + goals - a ≡ goals = omega arith in
    let is : ys ≡ insert_nested (region (nested_start goals) goals b1) (get_or b1 0 0) 1 = is_y ∙ ap₂ (λ (k m : ℕ). insert_nested (region k m b1) goal 1) is-a e ∙ ap (λ (g : ℕ). insert_nested (region (nested_start goals) goals b1) g 1) is-goal in
    ap (frame_of goals) (part_back b1 a (a + goals) ys (omega arith) (omega arith) kept ∙ ap (λ (k : ℕ). overwrite b1 k ys) is-a)
    ∙ frame_nested goals b1 l1 ys n
    ∙ ap (with_nested_goals (frame_of goals b1)) is
    ∙ ap (λ (f : Frame). with_nested_goals f (insert_nested f.nested_goals f.input 1)) (ap (frame_of goals) marked ∙ frame_overflow_lem goals bs long 1)
