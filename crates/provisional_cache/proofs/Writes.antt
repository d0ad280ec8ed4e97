-- What a write of an entry does to a graph.
use mathlib.Core.Path.{◌≡◌, sym, ap, ap₂, ◌∙◌, subst}
use mathlib.Core.Bool.{Bool}
use mathlib.Core.List.{List, [], ◌∷◌, ◌++◌}
use Prim.Native.Nat.{ℕ, ◌+◌, ◌*◌, ◌<◌}
use native.Mathlib.Nat.{zero-add}
use native.Mathlib.Numerals.{add-one}
use native.Mathlib.Omega.{arith}
use lib.ListN.{length}
use Rattle.definition.specs.declared.paths.PathKind.{PathKind}
use Rattle.definition.specs.declared.answers.Answer.{Answer}
use Rattle.definition.specs.Graph.{Entry}
use Rattle.buffer.specs.Regions.{region, overwrite}
use Rattle.buffer.specs.Tables.{record_at}
use Rattle.buffer.proofs.Regions.{region_before, region_region}
use Rattle.buffer.proofs.Tables.{apart, down_same}
use Rattle.layout.specs.Copied.{HeadsCopied}
use Rattle.layout.specs.Entry.{entry_heads_start, entry_size, entry_of}
use Rattle.layout.specs.Frame.{heads_start, frame_size, frame_of}
use Rattle.layout.specs.Work.{entries_start, entry_start_from, entry_start, entries_length, frame_start, stack_of, entries_of}
use Rattle.layout.proofs.Graphs.{fits_whole, entries_push_back}
use Rattle.stack.specs.Bytes.{GraphBytes, frame_bytes, frame_at}
use Rattle.stack.proofs.Parts.{part, returned}
use Rattle.provisional_cache.specs.Entries.{EntriesBytes, entry_at, entry_on, with_fields, FramesKept}
use Rattle.provisional_cache.specs.Inserts.{Appended}
use Rattle.provisional_cache.proofs.Entries.{graph_entries, part_is, entry_back, entry_whole}
use Rattle.provisional_cache.proofs.Copies.{entries_low, entry_heads_there, frame_heads_there}
use Rattle.provisional_cache.proofs.Loops.{frames_then, graph_bytes}

-- the bytes of a frame are among those that are kept
frame_of_lem : (goals : ℕ) (old new : List ℕ) (i : ℕ) → region 0 (entries_start goals) new ≡ region 0 (entries_start goals) old → i < goals → frame_at goals i new ≡ frame_at goals i old
frame_of_lem goals old new i e lt = ap (frame_of goals) (sym (inside new) ∙ ap (region (frame_start goals i) (frame_size goals)) e ∙ inside old)
  where
    inside : (l : List ℕ) → region (frame_start goals i) (frame_size goals) (region 0 (entries_start goals) l) ≡ frame_bytes goals i l
    inside l =
        region_region 0 (entries_start goals) (frame_start goals i) (frame_size goals) l (apart i goals (frame_size goals) lt)
        ∙ ap (λ (a : ℕ). region a (frame_size goals) l) (zero-add (frame_start goals i))

pub frame_kept : (goals : ℕ) (old new : List ℕ) (i : ℕ) → FramesKept goals old new → i < goals → frame_at goals i new ≡ frame_at goals i old
frame_kept goals old new i f lt = frame_of_lem goals old new i f.bytes lt

-- the bytes below the entries hold every stack
pub frames_of : (goals : ℕ) (old new : List ℕ) → region 0 (entries_start goals) new ≡ region 0 (entries_start goals) old → FramesKept goals old new
unfolding stack_of
frames_of goals old new e =
    record {
      bytes = e;
      stacks = λ h le. down_same (record_at (frame_of goals) (frame_size goals) 0 new) (record_at (frame_of goals) (frame_size goals) 0 old) h (λ i lt. at i (omega arith));
    }
  where
    at : (i : ℕ) → i < goals → record_at (frame_of goals) (frame_size goals) 0 new i ≡ record_at (frame_of goals) (frame_size goals) 0 old i
    at i lt = let z = zero-add (i * frame_size goals) in ap (λ (a : ℕ). frame_of goals (region a (frame_size goals) new)) z ∙ frame_of_lem goals old new i e lt ∙ sym (ap (λ (a : ℕ). frame_of goals (region a (frame_size goals) old)) z)

-- ---- in bytes that hold the entries from `base` on
module _ (goals base : ℕ) (bs : List ℕ) (long : length bs ≡ base + entries_length goals) where
  -- a write of entry k
  pub below_whole : (k : ℕ) (ys : List ℕ) → k < 2 * goals → length ys ≡ entry_size goals → region 0 base (overwrite bs (entry_start_from goals base k) ys) ≡ region 0 base bs
  below_whole k ys lt whole = region_before bs (entry_start_from goals base k) ys (fits_whole goals base bs long k ys lt whole) 0 base (omega arith)

-- ---- `append`: the heads are copied, then the small fields are written in entry k, at a, of n bytes
module _ (goals height k : ℕ) (bs mid : List ℕ) (g : GraphBytes goals bs) (lt : k < 2 * goals) (same : length mid ≡ length bs)
    (copied : HeadsCopied goals (frame_start goals height + heads_start) (entry_start goals k + entry_heads_start) bs mid) where
  pub mid_bytes : GraphBytes goals mid
  mid_bytes = graph_bytes goals bs mid g same

  pub mid_entries_bytes : EntriesBytes goals (entries_start goals) mid
  mid_entries_bytes = graph_entries goals mid mid_bytes

  mid_frames : FramesKept goals bs mid
  mid_frames = frames_of goals bs mid (copied.others.before 0 (entries_start goals) (omega arith))

  mid_entries : entries_of goals k mid ≡ entries_of goals k bs
  mid_entries = entries_low goals (entries_start goals) k bs mid (λ b m h. copied.others.before b m (omega arith)) k (omega arith)

  mid_heads : (entry_at goals k mid).heads ≡ (frame_at goals height bs).heads
  mid_heads = sym (entry_heads_there goals (entries_start goals) k mid) ∙ copied.heads ∙ frame_heads_there goals height bs

  module _ (a n : ℕ) (is-a : a ≡ entry_start goals k) (is-n : n ≡ entry_size goals) (ys : List ℕ) (kept : length ys ≡ length (part mid a (a + n))) where
    back : returned mid a (a + n) ys ≡ overwrite mid (entry_start goals k) ys
    back = entry_back goals (entries_start goals) mid k a n mid_entries_bytes lt is-a is-n ys kept

    whole : length ys ≡ entry_size goals
    whole = entry_whole goals (entries_start goals) mid k a n mid_entries_bytes lt is-a is-n ys kept

    append_frames : FramesKept goals bs (returned mid a (a + n) ys)
    append_frames = subst (FramesKept goals bs) (sym back) (frames_then goals bs mid (overwrite mid (entry_start goals k) ys) mid_frames (frames_of goals mid (overwrite mid (entry_start goals k) ys) (below_whole goals (entries_start goals) mid mid_bytes.long k ys lt whole)))

    pub appended : (goal : ℕ) (overflow : Bool) (path : PathKind) (answer : Answer) → entry_of goals ys ≡ with_fields (entry_of goals (part mid a (a + n))) goal overflow path answer
        → Appended goals k (entry_on goal overflow (frame_at goals height bs).heads path answer) bs (returned mid a (a + n) ys)
    appended goal overflow path answer is =
        record {
          entries =
              ap₂ (λ (m : ℕ) (l : List ℕ). entries_of goals m l) (add-one k) back
              ∙ entries_push_back goals (entries_start goals) mid mid_bytes.long k ys lt whole
              ∙ ap₂ (λ (l : List Entry) (e : Entry). l ++ (e ∷ [])) mid_entries
              (is ∙ (let e = ap (λ (l : List ℕ). (entry_of goals l).heads) (part_is goals (entries_start goals) mid k a n mid_entries_bytes lt is-a is-n) ∙ mid_heads in
              λ t. entry_on goal overflow (e t) path answer));
          frames = append_frames;
        }
