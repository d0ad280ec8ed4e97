-- A write in one frame, in one entry or in one block of merged usages changes that one only.
use mathlib.Core.Path.{◌≡◌, refl, sym, ap, ap₂, ◌∙◌, subst}
use mathlib.Core.List.{List, [], ◌∷◌, ◌++◌}
use Prim.Native.Nat.{ℕ, suc, ◌+◌, ◌*◌, ◌≤◌, ◌<◌}
use native.Mathlib.Nat.{zero-add, add-zero, add_assoc, le_trans, le-add_right, mul-le-mul_right}
use native.Mathlib.Omega.{arith}
use native.Mathlib.Decide.{dec_lt}
use lib.ListN.{length, get_or, set, take, drop}
use lib.Seq.{drop-drop, drop-set-lt}
use Rattle.definition.specs.Graph.{Entry}
use Rattle.definition.specs.Query.{work_length}
use Rattle.buffer.specs.Regions.{region, overwrite}
use Rattle.buffer.specs.Tables.{list_up, record_at, table_down}
use Rattle.buffer.proofs.Regions.{region_before, region_after}
use Rattle.buffer.proofs.Tables.{length_up, up_at, up_same, up_snoc, length_down, apart, table_below, table_above, table_whole, table_down_push, record_whole, record_other}
use Rattle.layout.specs.Blocks.{block_size, candidate_of}
use Rattle.layout.specs.Frame.{frame_size, frame_of}
use Rattle.layout.specs.Entry.{entry_size, entry_of}
use Rattle.layout.specs.Work.{frame_start, entries_start, entry_start_from, entries_length, graph_length, merged_start, stack_of, entries_from, entry_from, entries_of, merged_of}

-- ---- a table that starts at 0, the last record first
module _ {A : Type 0} (dec : List ℕ → A) (size : ℕ) where
  down_unfold : (i : ℕ) (bs : List ℕ) → table_down dec size 0 (suc i) bs ≡ dec (region (i * size) size bs) ∷ table_down dec size 0 i bs
  down_unfold i bs = ap (λ (x : ℕ). dec (region x size bs) ∷ table_down dec size 0 i bs) (zero-add (i * size))

  module _ (bs : List ℕ) (i : ℕ) (room : i * size + size ≤ length bs) where
    room_zero : 0 + i * size + size ≤ length bs
    room_zero = omega arith

    down_push : (ys : List ℕ) → length ys ≡ size → table_down dec size 0 (suc i) (overwrite bs (i * size) ys) ≡ dec ys ∷ table_down dec size 0 i bs
    down_push ys e =
        subst (λ (x : ℕ). table_down dec size 0 (suc i) (overwrite bs x ys) ≡ dec ys ∷ table_down dec size 0 i bs) (zero-add (i * size)) (table_down_push dec size 0 bs i ys e room_zero)

-- ---- orders, over what the sizes are
pub at_least : {m n : ℕ} → n ≡ m → m ≤ n
at_least e = omega arith

whole_fits : (a : ℕ) {x y n : ℕ} → x ≡ y → a + y ≤ n → a + x ≤ n
whole_fits a e h = omega arith

pub into_fits : (a k x : ℕ) {y n : ℕ} → k + x ≤ y → a + y ≤ n → a + k + x ≤ n
into_fits a k x p h = omega arith

-- record i of n lies in the bytes
room_of : (size base n i : ℕ) {len : ℕ} → i < n → base + n * size ≤ len → base + i * size + size ≤ len
room_of size base n i lt h = omega (arith, apart i n size lt)

-- ---- the stack
module _ (goals : ℕ) where
  pub length_stack : (h : ℕ) (bs : List ℕ) → length (stack_of goals h bs) ≡ h
  unfolding stack_of
  length_stack h bs = length_down (record_at (frame_of goals) (frame_size goals) 0 bs) h

  pub stack_unfold : (i : ℕ) (bs : List ℕ) → stack_of goals (suc i) bs ≡ frame_of goals (region (frame_start goals i) (frame_size goals) bs) ∷ stack_of goals i bs
  unfolding stack_of
  stack_unfold i bs = down_unfold (frame_of goals) (frame_size goals) i bs

-- ---- entries that start at `base`
module _ (goals base : ℕ) where
  pub length_entries : (n : ℕ) (bs : List ℕ) → length (entries_from goals base n bs) ≡ n
  unfolding entries_from
  length_entries n bs = length_up (record_at (entry_of goals) (entry_size goals) base bs) n

  pub no_entries : (bs : List ℕ) → entries_from goals base 0 bs ≡ []
  unfolding entries_from list_up
  no_entries bs = refl

  pub entries_snoc : (n : ℕ) (bs : List ℕ) → entries_from goals base (suc n) bs ≡ entries_from goals base n bs ++ (entry_from goals base n bs ∷ [])
  unfolding entries_from
  entries_snoc n bs = up_snoc (record_at (entry_of goals) (entry_size goals) base bs) n

  pub entries_at : (d : Entry) (n k : ℕ) (bs : List ℕ) → k < n → get_or (entries_from goals base n bs) k d ≡ entry_from goals base k bs
  unfolding entries_from
  entries_at d n k bs lt = up_at d (record_at (entry_of goals) (entry_size goals) base bs) n k lt

  -- a write below the entries
  pub entries_above : (n : ℕ) (bs : List ℕ) (a : ℕ) (ys : List ℕ) → a + length ys ≤ base → a + length ys ≤ length bs → entries_from goals base n (overwrite bs a ys) ≡ entries_from goals base n bs
  unfolding entries_from
  entries_above n bs a ys down fits = table_above (entry_of goals) (entry_size goals) base bs a ys fits n down

  -- a write above n entries
  pub entries_below : (n : ℕ) (bs : List ℕ) (a : ℕ) (ys : List ℕ) → entry_start_from goals base n ≤ a → a + length ys ≤ length bs → entries_from goals base n (overwrite bs a ys) ≡ entries_from goals base n bs
  unfolding entries_from
  entries_below n bs a ys up fits = table_below (entry_of goals) (entry_size goals) base bs a ys fits n up

  -- the first `start` bytes are left out
  pub entries_dropped : (start n : ℕ) (bs : List ℕ) → entries_from goals base n (drop start bs) ≡ entries_from goals (start + base) n bs
  unfolding entries_from
  entries_dropped start n bs =
      up_same (record_at (entry_of goals) (entry_size goals) base (drop start bs)) (record_at (entry_of goals) (entry_size goals) (start + base) bs) n
      (λ i lt. ap (λ (l : List ℕ). entry_of goals (take (entry_size goals) l))
      (drop-drop (base + i * entry_size goals) start bs ∙ ap (λ (k : ℕ). drop k bs) (sym (add_assoc start base (i * entry_size goals)))))

  module _ (bs : List ℕ) (long : length bs ≡ base + entries_length goals) where
    pub entry_room : (k : ℕ) → k < 2 * goals → entry_start_from goals base k + entry_size goals ≤ length bs
    entry_room k lt = room_of (entry_size goals) base (2 * goals) k lt (at_least long)

    -- ---- a write of entry k
    module _ (k : ℕ) (ys : List ℕ) (lt : k < 2 * goals) (whole : length ys ≡ entry_size goals) where
      pub entry_written : entry_from goals base k (overwrite bs (entry_start_from goals base k) ys) ≡ entry_of goals ys
      entry_written = record_whole (entry_of goals) (entry_size goals) base bs k ys whole (entry_room k lt)

      pub entries_whole : (n : ℕ) → k < n → entries_from goals base n (overwrite bs (entry_start_from goals base k) ys) ≡ set (entries_from goals base n bs) k (entry_of goals ys)
      unfolding entries_from
      entries_whole n under = table_whole (entry_of goals) (entry_size goals) base bs k ys whole (entry_room k lt) n under

      pub fits_whole : entry_start_from goals base k + length ys ≤ length bs
      fits_whole = whole_fits (entry_start_from goals base k) whole (entry_room k lt)

      -- those before it, and those behind entry i
      pub entries_before : (n : ℕ) → n ≤ k → entries_from goals base n (overwrite bs (entry_start_from goals base k) ys) ≡ entries_from goals base n bs
      entries_before n le = entries_below n bs (entry_start_from goals base k) ys (later (mul-le-mul_right (entry_size goals) le)) fits_whole
        where
          later : {x y : ℕ} → x ≤ y → base + x ≤ base + y
          later h = omega arith

      pub entries_behind : (i : ℕ) → k ≤ i → (n : ℕ) → drop (i + 1) (entries_from goals base n (overwrite bs (entry_start_from goals base k) ys)) ≡ drop (i + 1) (entries_from goals base n bs)
      entries_behind i le n =
          elim (dec_lt k n) [
            | yes under ↦
                ap (drop (i + 1)) (entries_whole n under)
                ∙ drop-set-lt (i + 1) (entries_from goals base n bs) k (entry_of goals ys) (omega arith)
            | no past ↦ ap (drop (i + 1)) (entries_before n (omega arith))
          ]

      -- one more
      pub entries_push_back : entries_from goals base (suc k) (overwrite bs (entry_start_from goals base k) ys) ≡ entries_from goals base k bs ++ (entry_of goals ys ∷ [])
      entries_push_back =
          entries_snoc k (overwrite bs (entry_start_from goals base k) ys)
          ∙ ap₂ (λ (l : List Entry) (e : Entry). l ++ (e ∷ [])) (entries_below k bs (entry_start_from goals base k) ys (at_least refl) fits_whole) entry_written

-- ---- in the graph's bytes
module _ (goals : ℕ) (bs : List ℕ) (long : length bs ≡ graph_length goals) where
  frames_end : entries_start goals ≤ length bs
  frames_end = omega arith

  -- frame i is there
  pub frame_room : (i : ℕ) → i < goals → frame_start goals i + frame_size goals ≤ length bs
  frame_room i lt = le_trans (apart i goals (frame_size goals) lt) frames_end

  -- ---- a write of frame i
  module _ (i : ℕ) (ys : List ℕ) (lt : i < goals) (whole : length ys ≡ frame_size goals) where
    -- the top
    pub stack_push : stack_of goals (suc i) (overwrite bs (frame_start goals i) ys) ≡ frame_of goals ys ∷ stack_of goals i bs
    unfolding stack_of
    stack_push = down_push (frame_of goals) (frame_size goals) bs i (frame_room i lt) ys whole

    pub entries_push : (n : ℕ) → entries_of goals n (overwrite bs (frame_start goals i) ys) ≡ entries_of goals n bs
    entries_push n =
        let below : frame_start goals i + length ys ≤ entries_start goals = whole_fits (frame_start goals i) whole (apart i goals (frame_size goals) lt) in
        entries_above goals (entries_start goals) n bs (frame_start goals i) ys below (le_trans below frames_end)

-- ---- the workspace: the graph, then the merged usages
pub work_length_lem : (goals : ℕ) → work_length goals ≡ graph_length goals + goals * block_size goals
work_length_lem goals = omega arith

module _ (goals : ℕ) (work : List ℕ) (long : length work ≡ work_length goals) where
  pub merged_room : (i : ℕ) → i < goals → merged_start goals i + block_size goals ≤ length work
  merged_room i lt = room_of (block_size goals) (graph_length goals) goals i lt (at_least (long ∙ work_length_lem goals))

  -- a write of the merged usages of frame i
  module _ (i : ℕ) (ys : List ℕ) (lt : i < goals) (whole : length ys ≡ block_size goals) where
    fits_merged : merged_start goals i + length ys ≤ length work
    fits_merged = whole_fits (merged_start goals i) whole (merged_room i lt)

    pub merged_whole : merged_of goals i (overwrite work (merged_start goals i) ys) ≡ candidate_of goals ys
    unfolding merged_of
    merged_whole = record_whole (candidate_of goals) (block_size goals) (graph_length goals) work i ys whole (merged_room i lt)

    pub merged_other : (j : ℕ) → (j ≡ i → ⊥) → merged_of goals j (overwrite work (merged_start goals i) ys) ≡ merged_of goals j work
    unfolding merged_of
    merged_other j ne =
        ap (λ (x : ℕ). record_at (candidate_of goals) (block_size goals) (graph_length goals) (overwrite work x ys) j) (sym (add-zero (merged_start goals i)))
        ∙ record_other (candidate_of goals) (block_size goals) (graph_length goals) work i 0 ys (whole_fits 0 whole (at_least (sym (zero-add (block_size goals))))) (merged_room i lt) j ne

    -- the graph's bytes
    pub merged_graph : region 0 (graph_length goals) (overwrite work (merged_start goals i) ys) ≡ region 0 (graph_length goals) work
    merged_graph = region_before work (merged_start goals i) ys fits_merged 0 (graph_length goals) (le_trans (at_least (sym (zero-add (graph_length goals)))) (le-add_right (graph_length goals) (i * block_size goals)))

  -- a write in the graph's bytes
  pub graph_merged : (a : ℕ) (ys : List ℕ) → a + length ys ≤ graph_length goals → (i : ℕ) → merged_of goals i (overwrite work a ys) ≡ merged_of goals i work
  unfolding merged_of
  graph_merged a ys h i =
      ap (candidate_of goals) (region_after work a ys (le_trans h (le_trans (le-add_right (graph_length goals) (goals * block_size goals)) (at_least (long ∙ work_length_lem goals)))) (merged_start goals i) (block_size goals) (le_trans h (le-add_right (graph_length goals) (i * block_size goals))))
