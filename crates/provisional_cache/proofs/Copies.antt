-- Entries where the bytes around one of them are the same, and the heads of a frame that are copied into an entry.
use mathlib.Core.Path.{◌≡◌, sym, ap, ◌∙◌, subst}
use mathlib.Core.Logic.{inl}
use mathlib.Core.List.{List}
use Prim.Native.Nat.{ℕ, ◌+◌, ◌*◌, ◌-◌, ◌≤◌, ◌<◌}
use native.Mathlib.Omega.{arith}
use lib.ListN.{length, drop, length-drop}
use lib.Seq.{ext_get_or, get_or-drop}
use Rattle.definition.specs.Graph.{Entry}
use Rattle.buffer.specs.Regions.{region}
use Rattle.buffer.specs.Tables.{record_at}
use Rattle.buffer.proofs.Regions.{region_region}
use Rattle.buffer.proofs.Tables.{apart, up_same}
use Rattle.layout.specs.Blocks.{heads_size, heads_of}
use Rattle.layout.specs.Copied.{BlocksApart}
use Rattle.layout.specs.Entry.{entry_heads_start, entry_size, entry_of}
use Rattle.layout.specs.Frame.{heads_start, frame_size, frame_of}
use Rattle.layout.specs.Work.{frame_start, entries_start, entry_start_from, entry_start, entries_from, entry_from}
use Rattle.layout.proofs.Graphs.{into_fits, entry_room, frame_room, length_entries, entries_at}
use Rattle.stack.specs.Bytes.{GraphBytes, frame_at}

-- ---- the bytes around entry k are the same
module _ (goals base k : ℕ) (old new : List ℕ) where
  pub entries_low : ((b m : ℕ) → b + m ≤ entry_start_from goals base k → region b m new ≡ region b m old) → (n : ℕ) → n ≤ k
      → entries_from goals base n new ≡ entries_from goals base n old
  unfolding entries_from
  entries_low same n le =
      up_same (record_at (entry_of goals) (entry_size goals) base new) (record_at (entry_of goals) (entry_size goals) base old) n
      (λ i lt. ap (entry_of goals) (same (entry_start_from goals base i) (entry_size goals) (omega (arith, apart i k (entry_size goals) (omega arith)))))

  pub entries_high : ((b m : ℕ) → entry_start_from goals base k + entry_size goals ≤ b → region b m new ≡ region b m old) → (n : ℕ)
      → drop (k + 1) (entries_from goals base n new) ≡ drop (k + 1) (entries_from goals base n old)
  entries_high same n =
      let d : Entry = entry_from goals base 0 old in
      let left : (l : List ℕ) → length (drop (k + 1) (entries_from goals base n l)) ≡ n - (k + 1) =
      λ l. length-drop (k + 1) (entries_from goals base n l) ∙ ap (λ (x : ℕ). x - (k + 1)) (length_entries goals base n l) in
      ext_get_or d (drop (k + 1) (entries_from goals base n new)) (drop (k + 1) (entries_from goals base n old)) (left new ∙ sym (left old))
      (λ i l.
      let lt : k + 1 + i < n = omega (arith, left new) in
      get_or-drop (k + 1) (entries_from goals base n new) i d
      ∙ entries_at goals base d n (k + 1 + i) new lt
      ∙ ap (entry_of goals) (same (entry_start_from goals base (k + 1 + i)) (entry_size goals) (omega (arith, apart k (k + 1 + i) (entry_size goals) (omega arith))))
      ∙ sym (entries_at goals base d n (k + 1 + i) old lt)
      ∙ sym (get_or-drop (k + 1) (entries_from goals base n old) i d))

-- ---- `copy_heads`: from frame `height` to entry i
module _ (goals height i a b : ℕ) (bs : List ℕ) (g : GraphBytes goals bs) (under : height < goals) (lt : i < 2 * goals)
    (is-a : a ≡ frame_start goals height + heads_start) (is_b : b ≡ entry_start goals i + entry_heads_start) where
  pub copy_apart : BlocksApart goals a b bs
  copy_apart =
      let frames = apart height goals (frame_size goals) under in
      let room = entry_room goals (entries_start goals) bs g.long i lt in
      let frame = frame_room goals bs g.long height under in
      let wide : heads_start + heads_size goals ≤ frame_size goals = omega arith in
      let inner : entry_heads_start + heads_size goals ≤ entry_size goals = omega arith in
      record {
        few = g.few;
        source = subst (λ (x : ℕ). x + heads_size goals ≤ length bs) (sym is-a) (into_fits (frame_start goals height) heads_start (heads_size goals) wide frame);
        target = subst (λ (x : ℕ). x + heads_size goals ≤ length bs) (sym is_b) (into_fits (entry_start goals i) entry_heads_start (heads_size goals) inner room);
        apart = inl (order (frame_start goals height) (frame_size goals) (entries_start goals) (i * entry_size goals) frames wide is-a is_b);
      }
    where
      order : (x s y z : ℕ) → x + s ≤ y → heads_start + heads_size goals ≤ s → a ≡ x + heads_start → b ≡ y + z + entry_heads_start → a + heads_size goals ≤ b
      order x s y z h w p q = omega arith

-- ---- what is read of the entry then
pub entry_heads_there : (goals base k : ℕ) (bs : List ℕ) → heads_of goals (region (entry_start_from goals base k + entry_heads_start) (heads_size goals) bs) ≡ (entry_from goals base k bs).heads
unfolding entry_of
entry_heads_there goals base k bs = ap (heads_of goals) (sym (region_region (entry_start_from goals base k) (entry_size goals) entry_heads_start (heads_size goals) bs (omega arith)))

pub frame_heads_there : (goals i : ℕ) (bs : List ℕ) → heads_of goals (region (frame_start goals i + heads_start) (heads_size goals) bs) ≡ (frame_at goals i bs).heads
unfolding frame_of
frame_heads_there goals i bs = ap (heads_of goals) (sym (region_region (frame_start goals i) (frame_size goals) heads_start (heads_size goals) bs (omega arith)))
