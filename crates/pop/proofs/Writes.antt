-- The bytes from the popped frame on: what is read of them, and what a write of entry k does.
use mathlib.Core.Path.{◌≡◌, refl, sym, ap, ◌∙◌, subst}
use mathlib.Core.List.{List}
use Prim.Native.Nat.{ℕ, ◌+◌, ◌*◌, ◌≤◌, ◌<◌}
use native.Mathlib.Omega.{arith}
use lib.ListN.{length}
use Rattle.definition.specs.Graph.{Entry}
use Rattle.buffer.specs.Regions.{region, overwrite}
use Rattle.buffer.proofs.Regions.{length_region, region_region}
use Rattle.layout.specs.Blocks.{heads_size, heads_of, HeadsBlock}
use Rattle.layout.specs.Entry.{entry_heads_start, entry_size, entry_of}
use Rattle.layout.specs.Frame.{heads_start, frame_size, frame_of}
use Rattle.layout.specs.Work.{entry_start_from, entry_from}
use Rattle.layout.proofs.Frames.{length_heads}
use Rattle.layout.proofs.Graphs.{entry_written, entries_before, entries_behind}
use Rattle.stack.specs.Bytes.{FrameBytes}
use Rattle.stack.proofs.Blocks.{heads_block}
use Rattle.stack.proofs.Parts.{part, returned, returned_length}
use Rattle.provisional_cache.specs.Entries.{EntryBytes, EntriesBytes, entry_bytes_from}
use Rattle.provisional_cache.proofs.Entries.{entry_bytes_lem, part_room, part_is, entry_back, entry_whole, entry_heads_block}
use Rattle.provisional_cache.proofs.Loops.{entries_bytes}
use Rattle.provisional_cache.proofs.Writes.{below_whole}
use Rattle.pop.specs.Popped.{FrameFirst, RestBytes, popped_bytes, popped_frame}
use Rattle.pop.specs.Rebased.{OthersKept, EntryWritten}

-- ---- what the bytes are
module _ (goals base : ℕ) (bs : List ℕ) (r : RestBytes goals base bs) where
  pub frame_first : FrameFirst goals bs
  frame_first =
      let w = r.wide in
      let l = r.entries.long in
      record { few = r.entries.few; wide = omega arith }

  pub rest_bytes : (new : List ℕ) → length new ≡ length bs → RestBytes goals base new
  rest_bytes new e = record { wide = r.wide; entries = entries_bytes goals base bs new r.entries e }

-- ---- all but entry k
module _ (goals base k : ℕ) where
  pub others_same : (bs : List ℕ) → OthersKept goals base k bs bs
  others_same bs = record { below = refl; before = λ n h. refl; behind = λ n. refl }

  pub others_then : (a b c : List ℕ) → OthersKept goals base k a b → OthersKept goals base k b c
      → OthersKept goals base k a c
  others_then a b c p q =
      record {
        below = q.below ∙ p.below;
        before = λ n h. q.before n h ∙ p.before n h;
        behind = λ n. q.behind n ∙ p.behind n;
      }

-- the popped frame lies below the entries
pub frame_after : (goals base : ℕ) (old new : List ℕ) → frame_size goals ≤ base → region 0 base new ≡ region 0 base old
    → popped_frame goals new ≡ popped_frame goals old
frame_after goals base old new wide e =
    ap (frame_of goals) (sym (inside new) ∙ ap (region 0 (frame_size goals)) e ∙ inside old)
  where
    inside : (l : List ℕ) → region 0 (frame_size goals) (region 0 base l) ≡ popped_bytes goals l
    inside l = region_region 0 base 0 (frame_size goals) l (omega arith)

-- entry k, at a, of n bytes, is lent and comes back with ys
module _ (goals base : ℕ) (bs : List ℕ) (k a n : ℕ) (g : EntriesBytes goals base bs) (lt : k < 2 * goals)
    (is-a : a ≡ entry_start_from goals base k) (is-n : n ≡ entry_size goals) (ys : List ℕ)
    (kept : length ys ≡ length (part bs a (a + n))) where
  back : returned bs a (a + n) ys ≡ overwrite bs (entry_start_from goals base k) ys
  back = entry_back goals base bs k a n g lt is-a is-n ys kept

  whole : length ys ≡ entry_size goals
  whole = entry_whole goals base bs k a n g lt is-a is-n ys kept

  written_part : (f : Entry → Entry) → entry_of goals ys ≡ f (entry_of goals (part bs a (a + n)))
      → EntryWritten goals base k (f (entry_from goals base k bs)) bs (returned bs a (a + n) ys)
  written_part f e =
      record {
        entry =
            ap (entry_from goals base k) back
            ∙ entry_written goals base bs g.long k ys lt whole
            ∙ e ∙ ap (λ (l : List ℕ). f (entry_of goals l)) (part_is goals base bs k a n g lt is-a is-n);
        others =
            subst (OthersKept goals base k bs) (sym back)
            (record {
              below = below_whole goals base bs g.long k ys lt whole;
              before = entries_before goals base bs g.long k ys lt whole;
              behind = entries_behind goals base bs g.long k ys lt whole k (omega arith);
            });
      }

-- the same by its range, from a to e
module _ {goals base : ℕ} {bs : List ℕ} {k a e : ℕ} (g : EntriesBytes goals base bs) (lt : k < 2 * goals)
    (is-a : a ≡ entry_start_from goals base k) (is-e : e ≡ entry_start_from goals base k + entry_size goals) where
  ends : a + entry_size goals ≡ e
  ends = omega arith

  pub entry_room : e ≤ length bs
  entry_room = subst (λ (x : ℕ). x ≤ length bs) ends (part_room goals base bs k a (entry_size goals) g lt is-a refl)

  pub entry_range : EntryBytes goals (part bs a e)
  entry_range =
      entry_bytes_lem goals base bs (part bs a e) k g lt
      (subst (λ (x : ℕ). part bs a x ≡ entry_bytes_from goals base k bs) ends
      (part_is goals base bs k a (entry_size goals) g lt is-a refl))

  pub entry_kept : (ys : List ℕ) → length ys ≡ length (part bs a e) → length (returned bs a e ys) ≡ length bs
  entry_kept ys = returned_length bs a e ys (omega arith) entry_room

  pub written : (f : Entry → Entry) (ys : List ℕ) → length ys ≡ length (part bs a e)
      → entry_of goals ys ≡ f (entry_of goals (part bs a e))
      → EntryWritten goals base k (f (entry_from goals base k bs)) bs (returned bs a e ys)
  written f ys =
      subst
      (λ (x : ℕ). length ys ≡ length (part bs a x) → entry_of goals ys ≡ f (entry_of goals (part bs a x))
      → EntryWritten goals base k (f (entry_from goals base k bs)) bs (returned bs a x ys))
      ends (λ kept made. written_part goals base bs k a (entry_size goals) g lt is-a refl ys kept f made)

-- ---- the popped frame's bytes, n from the first on
module _ (goals : ℕ) (bs : List ℕ) (f : FrameFirst goals bs) where
  pub popped_bytes_lem : (r : List ℕ) → r ≡ popped_bytes goals bs → FrameBytes goals r
  popped_bytes_lem r e =
      let w = f.wide in
      record { few = f.few; long = ap length e ∙ length_region 0 (frame_size goals) bs (omega arith) }

-- ---- blocks of heads
pub popped_block : (goals : ℕ) (bs hs : List ℕ) → hs ≡ region heads_start (heads_size goals) (popped_bytes goals bs)
    → heads_of goals hs ≡ (popped_frame goals bs).heads
unfolding frame_of
popped_block goals bs hs e = ap (heads_of goals) e

pub entry_block : (goals base k : ℕ) (bs hs : List ℕ)
    → hs ≡ region entry_heads_start (heads_size goals) (entry_bytes_from goals base k bs)
    → heads_of goals hs ≡ (entry_from goals base k bs).heads
unfolding entry_of
entry_block goals base k bs hs e = ap (heads_of goals) e

pub popped_heads_block : (goals : ℕ) (bs hs : List ℕ) → FrameFirst goals bs
    → hs ≡ region heads_start (heads_size goals) (popped_bytes goals bs) → HeadsBlock goals hs
popped_heads_block goals bs hs f e =
    heads_block goals (popped_bytes goals bs) hs (popped_bytes_lem goals bs f (popped_bytes goals bs) refl) e

pub entry_heads_at : (goals base k : ℕ) (bs hs : List ℕ) → EntriesBytes goals base bs → k < 2 * goals
    → hs ≡ region entry_heads_start (heads_size goals) (entry_bytes_from goals base k bs) → HeadsBlock goals hs
entry_heads_at goals base k bs hs g lt e =
    entry_heads_block goals (entry_bytes_from goals base k bs) hs
    (entry_bytes_lem goals base bs (entry_bytes_from goals base k bs) k g lt refl) e

pub popped_length : (goals : ℕ) (bs : List ℕ) → length (popped_frame goals bs).heads ≡ goals
unfolding frame_of
popped_length goals bs = length_heads goals (region heads_start (heads_size goals) (popped_bytes goals bs))
