-- A write in one field of a frame or of an entry changes that field only.
use mathlib.Core.Path.{◌≡◌, sym, ap, ◌∙◌}
use mathlib.Core.Bool.{true, false}
use mathlib.Core.List.{List, [], ◌∷◌}
use Prim.Native.Nat.{ℕ, ◌+◌, ◌≤◌, ◌<◌}
use native.Mathlib.Omega.{arith}
use native.Mathlib.Nat.{add-zero}
use native.Mathlib.Decide.{ℕ_discrete}
use borrow.Author.Tests.{eq-eqb, ne_eqb}
use lib.ListN.{length, get_or, set}
use lib.Seq.{get_or-set_same, get_or-set_other}
use lib.Dec.{eqb, lit<}
use Rattle.definition.specs.Paths.{kind_of}
use Rattle.definition.specs.Answers.{answer_of}
use Rattle.definition.specs.Steps.{StepCounts}
use Rattle.definition.specs.Stack.{Frame, with_reached, with_provisional_result, with_heads, with_overflow, with_usages, with_candidate_usages, with_nested_goals}
use Rattle.definition.specs.Graph.{Entry, with_entry_heads}
use Rattle.buffer.specs.Numbers.{number_of}
use Rattle.buffer.specs.Regions.{region, overwrite}
use Rattle.buffer.proofs.Regions.{region_before, region_after, region_inside, byte_before, overwrite_one, overwrite_all, length_region}
use Rattle.buffer.proofs.Tables.{length_up}
use Rattle.layout.specs.Blocks.{usages_size, usages_of, heads_size, heads_of, block_size, candidate_of, head_at}
use Rattle.layout.specs.Frame.{frame_reached, frame_provisional, frame_overflow, frame_is_head, frame_tracks, usages_start, heads_start, candidate_start, nested_start, counts_start, counts_size, frame_size, truth, result_of, when_set, frame_by, frame_of}
use Rattle.layout.specs.Steps.{unpacked}
use Rattle.layout.specs.Entry.{entry_heads_start, entry_size, entry_of}

pub length_heads : (goals : ℕ) (bs : List ℕ) → length (heads_of goals bs) ≡ goals
unfolding heads_of
length_heads goals bs = length_up (head_at bs) goals

-- ---- what x becomes where place i is written with v, and x is read at j
abbrev pub if_at : {A : Type 0} → ℕ → ℕ → A → A → A
if_at i j v x = elim (eqb i j) [ true ↦ v | false ↦ x ]

-- what f reads of the byte at j
module _ {A : Type 0} (f : ℕ → A) (bs : List ℕ) (i v : ℕ) (lt : i < length bs) where
  pub byte_set : (j : ℕ) → f (get_or (set bs i v) j 0) ≡ if_at i j (f v) (f (get_or bs j 0))
  byte_set j =
      elim (ℕ_discrete i j) [
        | yes e ↦ rw (eq-eqb i j e, if_at) (ap f (ap (λ (k : ℕ). get_or (set bs i v) k 0) (sym e) ∙ get_or-set_same bs i v 0 lt))
        | no ne ↦ rw (ne_eqb i j ne, if_at) (ap f (get_or-set_other bs i j v 0 (λ e. ne (sym e))))
      ]

-- a byte that is written, and a region after it
module _ (bs : List ℕ) (i v : ℕ) (lt : i < length bs) where
  pub set_after : (b n : ℕ) → i < b → region b n (set bs i v) ≡ region b n bs
  set_after b n h = ap (region b n) (sym (overwrite_one bs i v lt)) ∙ region_after bs i (v ∷ []) (omega arith) b n (omega arith)

-- ---- a frame by its fields and blocks, where each is known
pub frame_by_lem : (goals : ℕ) (bs : List ℕ) (field : ℕ → ℕ) (us hs cs ns ks : List ℕ) → ((j : ℕ) → j < 8 → get_or bs j 0 ≡ field j)
    → region usages_start usages_size bs ≡ us → region heads_start (heads_size goals) bs ≡ hs → region (candidate_start goals) (block_size goals) bs ≡ cs → region (nested_start goals) goals bs ≡ ns
    → region (counts_start goals) counts_size bs ≡ ks
    → frame_of goals bs ≡ frame_by goals field us hs cs ns ks
unfolding frame_of
frame_by_lem goals bs field us hs cs ns ks eb eu eh ec en ek =
    let e0 = eb 0 (lit< tt) in
    let e1 = eb 1 (lit< tt) in
    let e2 = eb 2 (lit< tt) in
    let e3 = eb 3 (lit< tt) in
    let e4 = eb 4 (lit< tt) in
    let e5 = eb 5 (lit< tt) in
    let e6 = eb 6 (lit< tt) in
    let e7 = eb 7 (lit< tt) in
    λ t. frame_by goals (λ j. get_or (e0 t ∷ e1 t ∷ e2 t ∷ e3 t ∷ e4 t ∷ e5 t ∷ e6 t ∷ e7 t ∷ []) j 0) (eu t) (eh t) (ec t) (en t) (ek t)

-- a frame with other counts
abbrev pub with_step_counts : Frame → StepCounts → Frame
with_step_counts f counts =
    record {
      input = f.input;
      step_kind_from_parent = f.step_kind_from_parent;
      available_depth = f.available_depth;
      min_reached_available_depth = f.min_reached_available_depth;
      provisional_result = f.provisional_result;
      heads = f.heads;
      encountered_overflow = f.encountered_overflow;
      usages = f.usages;
      candidate_usages = f.candidate_usages;
      nested_goals = f.nested_goals;
      step_counts = counts;
    }

-- ---- a write in the n bytes from a on, k bytes into them
module _ (bs : List ℕ) (a n k : ℕ) (ys : List ℕ) (inner : k + length ys ≤ n) (fits : a + n ≤ length bs) where
  pub bytes_left : (j : ℕ) → j < a → get_or (overwrite bs (a + k) ys) j 0 ≡ get_or bs j 0
  bytes_left j h = byte_before bs (a + k) ys (omega arith) j (omega arith)

  pub region_left : (b m : ℕ) → b + m ≤ a → region b m (overwrite bs (a + k) ys) ≡ region b m bs
  region_left b m h = region_before bs (a + k) ys (omega arith) b m (omega arith)

  pub region_right : (b m : ℕ) → a + n ≤ b → region b m (overwrite bs (a + k) ys) ≡ region b m bs
  region_right b m h = region_after bs (a + k) ys (omega arith) b m (omega arith)

-- from a write inside to a write of the whole
whole_by : {A : Type 0} (f g : List ℕ → A) (bs : List ℕ) (a n : ℕ) (ys : List ℕ) → length ys ≡ n → a + n ≤ length bs
    → f (overwrite bs (a + 0) ys) ≡ g (overwrite (region a n bs) 0 ys) → f (overwrite bs a ys) ≡ g ys
whole_by f g bs a n ys e fits h =
    ap (λ (x : ℕ). f (overwrite bs x ys)) (sym (add-zero a)) ∙ h ∙ ap g (overwrite_all (region a n bs) ys (e ∙ sym (length_region a n bs fits)))

-- ---- a frame's bytes
module _ (goals : ℕ) (bs : List ℕ) (long : length bs ≡ frame_size goals) where
  -- a field is written
  bytes_by : (i v : ℕ) → i < 8
      → frame_of goals (set bs i v)
      ≡ frame_by goals (λ j. if_at i j v (get_or bs j 0)) (region usages_start usages_size bs) (region heads_start (heads_size goals) bs) (region (candidate_start goals) (block_size goals) bs) (region (nested_start goals) goals bs) (region (counts_start goals) counts_size bs)
  bytes_by i v lt =
      let inside : i < length bs = omega arith in
      frame_by_lem goals (set bs i v) (λ j. if_at i j v (get_or bs j 0)) (region usages_start usages_size bs) (region heads_start (heads_size goals) bs) (region (candidate_start goals) (block_size goals) bs) (region (nested_start goals) goals bs) (region (counts_start goals) counts_size bs)
      (λ j l. byte_set (λ x. x) bs i v inside j)
      (set_after bs i v inside usages_start usages_size (omega arith))
      (set_after bs i v inside heads_start (heads_size goals) (omega arith))
      (set_after bs i v inside (candidate_start goals) (block_size goals) (omega arith))
      (set_after bs i v inside (nested_start goals) goals (omega arith))
      (set_after bs i v inside (counts_start goals) counts_size (omega arith))

  pub frame_reached_lem : (v : ℕ) → frame_of goals (set bs frame_reached v) ≡ with_reached (frame_of goals bs) v
  unfolding frame_of
  frame_reached_lem v = bytes_by frame_reached v (lit< tt)

  pub frame_provisional_lem : (v : ℕ) → frame_of goals (set bs frame_provisional v) ≡ with_provisional_result (frame_of goals bs) (result_of v)
  unfolding frame_of
  frame_provisional_lem v = bytes_by frame_provisional v (lit< tt)

  pub frame_overflow_lem : (v : ℕ) → frame_of goals (set bs frame_overflow v) ≡ with_overflow (frame_of goals bs) (truth v)
  unfolding frame_of
  frame_overflow_lem v = bytes_by frame_overflow v (lit< tt)

  -- whether there are usages, and candidate usages
  pub frame_has_usages : (v : ℕ) → frame_of goals (set bs frame_is_head v) ≡ with_usages (frame_of goals bs) (when_set v (usages_of (region usages_start usages_size bs)))
  unfolding frame_of
  frame_has_usages v = bytes_by frame_is_head v (lit< tt)

  pub frame_has_candidate : (v : ℕ) → frame_of goals (set bs frame_tracks v) ≡ with_candidate_usages (frame_of goals bs) (when_set v (candidate_of goals (region (candidate_start goals) (block_size goals) bs)))
  unfolding frame_of
  frame_has_candidate v = bytes_by frame_tracks v (lit< tt)

  -- a write inside a field of more bytes
  module _ (k : ℕ) (ys : List ℕ) where
    pub frame_usages_inside : k + length ys ≤ usages_size
        → frame_of goals (overwrite bs (usages_start + k) ys) ≡ with_usages (frame_of goals bs) (when_set (get_or bs frame_is_head 0) (usages_of (overwrite (region usages_start usages_size bs) k ys)))
    unfolding frame_of
    frame_usages_inside inner =
        let fits : usages_start + usages_size ≤ length bs = omega arith in
        frame_by_lem goals (overwrite bs (usages_start + k) ys) (λ j. get_or bs j 0) (overwrite (region usages_start usages_size bs) k ys) (region heads_start (heads_size goals) bs) (region (candidate_start goals) (block_size goals) bs) (region (nested_start goals) goals bs) (region (counts_start goals) counts_size bs)
        (λ j l. bytes_left bs usages_start usages_size k ys inner fits j (omega arith))
        (region_inside bs usages_start usages_size k ys inner fits)
        (region_right bs usages_start usages_size k ys inner fits heads_start (heads_size goals) (omega arith))
        (region_right bs usages_start usages_size k ys inner fits (candidate_start goals) (block_size goals) (omega arith))
        (region_right bs usages_start usages_size k ys inner fits (nested_start goals) goals (omega arith))
        (region_right bs usages_start usages_size k ys inner fits (counts_start goals) counts_size (omega arith))

    pub frame_heads_inside : k + length ys ≤ heads_size goals
        → frame_of goals (overwrite bs (heads_start + k) ys) ≡ with_heads (frame_of goals bs) (heads_of goals (overwrite (region heads_start (heads_size goals) bs) k ys))
    unfolding frame_of
    frame_heads_inside inner =
        let fits : heads_start + heads_size goals ≤ length bs = omega arith in
        frame_by_lem goals (overwrite bs (heads_start + k) ys) (λ j. get_or bs j 0) (region usages_start usages_size bs) (overwrite (region heads_start (heads_size goals) bs) k ys) (region (candidate_start goals) (block_size goals) bs) (region (nested_start goals) goals bs) (region (counts_start goals) counts_size bs)
        (λ j l. bytes_left bs heads_start (heads_size goals) k ys inner fits j (omega arith))
        (region_left bs heads_start (heads_size goals) k ys inner fits usages_start usages_size (omega arith))
        (region_inside bs heads_start (heads_size goals) k ys inner fits)
        (region_right bs heads_start (heads_size goals) k ys inner fits (candidate_start goals) (block_size goals) (omega arith))
        (region_right bs heads_start (heads_size goals) k ys inner fits (nested_start goals) goals (omega arith))
        (region_right bs heads_start (heads_size goals) k ys inner fits (counts_start goals) counts_size (omega arith))

    pub frame_candidate_inside : k + length ys ≤ block_size goals
        → frame_of goals (overwrite bs (candidate_start goals + k) ys) ≡ with_candidate_usages (frame_of goals bs) (when_set (get_or bs frame_tracks 0) (candidate_of goals (overwrite (region (candidate_start goals) (block_size goals) bs) k ys)))
    unfolding frame_of
    frame_candidate_inside inner =
        let fits : candidate_start goals + block_size goals ≤ length bs = omega arith in
        frame_by_lem goals (overwrite bs (candidate_start goals + k) ys) (λ j. get_or bs j 0) (region usages_start usages_size bs) (region heads_start (heads_size goals) bs) (overwrite (region (candidate_start goals) (block_size goals) bs) k ys) (region (nested_start goals) goals bs) (region (counts_start goals) counts_size bs)
        (λ j l. bytes_left bs (candidate_start goals) (block_size goals) k ys inner fits j (omega arith))
        (region_left bs (candidate_start goals) (block_size goals) k ys inner fits usages_start usages_size (omega arith))
        (region_left bs (candidate_start goals) (block_size goals) k ys inner fits heads_start (heads_size goals) (omega arith))
        (region_inside bs (candidate_start goals) (block_size goals) k ys inner fits)
        (region_right bs (candidate_start goals) (block_size goals) k ys inner fits (nested_start goals) goals (omega arith))
        (region_right bs (candidate_start goals) (block_size goals) k ys inner fits (counts_start goals) counts_size (omega arith))

    pub frame_nested_inside : k + length ys ≤ goals
        → frame_of goals (overwrite bs (nested_start goals + k) ys) ≡ with_nested_goals (frame_of goals bs) (overwrite (region (nested_start goals) goals bs) k ys)
    unfolding frame_of
    frame_nested_inside inner =
        let fits : nested_start goals + goals ≤ length bs = omega arith in
        frame_by_lem goals (overwrite bs (nested_start goals + k) ys) (λ j. get_or bs j 0) (region usages_start usages_size bs) (region heads_start (heads_size goals) bs) (region (candidate_start goals) (block_size goals) bs) (overwrite (region (nested_start goals) goals bs) k ys) (region (counts_start goals) counts_size bs)
        (λ j l. bytes_left bs (nested_start goals) goals k ys inner fits j (omega arith))
        (region_left bs (nested_start goals) goals k ys inner fits usages_start usages_size (omega arith))
        (region_left bs (nested_start goals) goals k ys inner fits heads_start (heads_size goals) (omega arith))
        (region_left bs (nested_start goals) goals k ys inner fits (candidate_start goals) (block_size goals) (omega arith))
        (region_inside bs (nested_start goals) goals k ys inner fits)
        (region_right bs (nested_start goals) goals k ys inner fits (counts_start goals) counts_size (omega arith))

    frame_counts_inside : k + length ys ≤ counts_size
        → frame_of goals (overwrite bs (counts_start goals + k) ys)
        ≡ with_step_counts (frame_of goals bs) (unpacked (number_of (overwrite (region (counts_start goals) counts_size bs) k ys)))
    unfolding frame_of
    frame_counts_inside inner =
        let fits : counts_start goals + counts_size ≤ length bs = omega arith in
        frame_by_lem goals (overwrite bs (counts_start goals + k) ys) (λ j. get_or bs j 0) (region usages_start usages_size bs) (region heads_start (heads_size goals) bs) (region (candidate_start goals) (block_size goals) bs) (region (nested_start goals) goals bs) (overwrite (region (counts_start goals) counts_size bs) k ys)
        (λ j l. bytes_left bs (counts_start goals) counts_size k ys inner fits j (omega arith))
        (region_left bs (counts_start goals) counts_size k ys inner fits usages_start usages_size (omega arith))
        (region_left bs (counts_start goals) counts_size k ys inner fits heads_start (heads_size goals) (omega arith))
        (region_left bs (counts_start goals) counts_size k ys inner fits (candidate_start goals) (block_size goals) (omega arith))
        (region_left bs (counts_start goals) counts_size k ys inner fits (nested_start goals) goals (omega arith))
        (region_inside bs (counts_start goals) counts_size k ys inner fits)

  -- a write of the whole field
  module _ (ys : List ℕ) where
    pub frame_usages : length ys ≡ usages_size → frame_of goals (overwrite bs usages_start ys) ≡ with_usages (frame_of goals bs) (when_set (get_or bs frame_is_head 0) (usages_of ys))
    frame_usages e =
        whole_by (frame_of goals) (λ l. with_usages (frame_of goals bs) (when_set (get_or bs frame_is_head 0) (usages_of l))) bs usages_start usages_size ys e (omega arith) (frame_usages_inside 0 ys (omega arith))

    pub frame_heads : length ys ≡ heads_size goals → frame_of goals (overwrite bs heads_start ys) ≡ with_heads (frame_of goals bs) (heads_of goals ys)
    frame_heads e =
        whole_by (frame_of goals) (λ l. with_heads (frame_of goals bs) (heads_of goals l)) bs heads_start (heads_size goals) ys e (omega arith) (frame_heads_inside 0 ys (omega arith))

    pub frame_candidate : length ys ≡ block_size goals → frame_of goals (overwrite bs (candidate_start goals) ys) ≡ with_candidate_usages (frame_of goals bs) (when_set (get_or bs frame_tracks 0) (candidate_of goals ys))
    frame_candidate e =
        whole_by (frame_of goals) (λ l. with_candidate_usages (frame_of goals bs) (when_set (get_or bs frame_tracks 0) (candidate_of goals l))) bs (candidate_start goals) (block_size goals) ys e (omega arith) (frame_candidate_inside 0 ys (omega arith))

    pub frame_nested : length ys ≡ goals → frame_of goals (overwrite bs (nested_start goals) ys) ≡ with_nested_goals (frame_of goals bs) ys
    frame_nested e =
        whole_by (frame_of goals) (λ l. with_nested_goals (frame_of goals bs) l) bs (nested_start goals) goals ys e (omega arith) (frame_nested_inside 0 ys (omega arith))

    pub frame_counts : length ys ≡ counts_size → frame_of goals (overwrite bs (counts_start goals) ys) ≡ with_step_counts (frame_of goals bs) (unpacked (number_of ys))
    frame_counts e =
        whole_by (frame_of goals) (λ l. with_step_counts (frame_of goals bs) (unpacked (number_of l))) bs (counts_start goals) counts_size ys e (omega arith) (frame_counts_inside 0 ys (omega arith))

-- ---- an entry's bytes
abbrev pub with_entry_byte : ℕ → ℕ → Entry → Entry
with_entry_byte i v e =
    record {
      input = if_at i 0 v e.input;
      encountered_overflow = if_at i 1 (truth v) e.encountered_overflow;
      heads = e.heads;
      path_from_head = if_at i 2 (kind_of v) e.path_from_head;
      result = if_at i 3 (answer_of v) e.result;
    }

module _ (goals : ℕ) (bs : List ℕ) (long : length bs ≡ entry_size goals) where
  pub entry_byte : (i v : ℕ) → i < 4 → entry_of goals (set bs i v) ≡ with_entry_byte i v (entry_of goals bs)
  unfolding entry_of
  entry_byte i v lt =
      let inside : i < length bs = omega arith in
      let e0 = byte_set (λ x. x) bs i v inside 0 in
      let e1 = byte_set truth bs i v inside 1 in
      let e2 = byte_set kind_of bs i v inside 2 in
      let e3 = byte_set answer_of bs i v inside 3 in
      let eh = set_after bs i v inside entry_heads_start (heads_size goals) (omega arith) in
      λ t. record { input = e0 t; encountered_overflow = e1 t; heads = heads_of goals (eh t); path_from_head = e2 t; result = e3 t }

  pub entry_heads_inside : (k : ℕ) (ys : List ℕ) → k + length ys ≤ heads_size goals
      → entry_of goals (overwrite bs (entry_heads_start + k) ys) ≡ with_entry_heads (entry_of goals bs) (heads_of goals (overwrite (region entry_heads_start (heads_size goals) bs) k ys))
  unfolding entry_of
  entry_heads_inside k ys inner =
      let fits : entry_heads_start + heads_size goals ≤ length bs = omega arith in
      let e0 = bytes_left bs entry_heads_start (heads_size goals) k ys inner fits 0 (omega arith) in
      let e1 = bytes_left bs entry_heads_start (heads_size goals) k ys inner fits 1 (omega arith) in
      let e2 = bytes_left bs entry_heads_start (heads_size goals) k ys inner fits 2 (omega arith) in
      let e3 = bytes_left bs entry_heads_start (heads_size goals) k ys inner fits 3 (omega arith) in
      let eh = region_inside bs entry_heads_start (heads_size goals) k ys inner fits in
      λ t. record { input = e0 t; encountered_overflow = truth (e1 t); heads = heads_of goals (eh t); path_from_head = kind_of (e2 t); result = answer_of (e3 t) }

  pub entry_heads_lem : (ys : List ℕ) → length ys ≡ heads_size goals → entry_of goals (overwrite bs entry_heads_start ys) ≡ with_entry_heads (entry_of goals bs) (heads_of goals ys)
  entry_heads_lem ys e =
      whole_by (entry_of goals) (λ l. with_entry_heads (entry_of goals bs) (heads_of goals l)) bs entry_heads_start (heads_size goals) ys e (omega arith) (entry_heads_inside 0 ys (omega arith))
