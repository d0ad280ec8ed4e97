-- The turns of the loop over the entries, and the loop in a graph.
use mathlib.Core.Path.{◌≡◌, refl, sym, ap, ap₂, ◌∙◌}
use mathlib.Core.Bool.{Bool, true, false}
use mathlib.Core.Option.{Option, none, some}
use mathlib.Core.List.{List, ◌∷◌, ◌++◌}
use Prim.Native.Nat.{ℕ, ◌+◌, ◌-◌, ◌≤◌, ◌<◌}
use native.Mathlib.Omega.{arith}
use lib.ListN.{length, take, drop, length-drop}
use lib.Seq.{take_all, take-add}
use Rattle.definition.specs.declared.endings.RebaseReason.{RebaseReason}
use Rattle.definition.specs.declared.paths.PathKind.{PathKind}
use Rattle.definition.specs.Paths.{kind_number}
use Rattle.definition.specs.Heads.{highest_index}
use Rattle.definition.specs.Stack.{Stack, Frame}
use Rattle.definition.specs.Graph.{Entry}
use Rattle.definition.specs.ProvisionalCache.{rebase_entry, rebase_entries}
use Rattle.buffer.specs.Regions.{region, overwrite}
use Rattle.buffer.proofs.Regions.{region_same, region_before, length_overwrite}
use Rattle.buffer.proofs.Tables.{apart}
use Rattle.layout.specs.Frame.{frame_size, frame_of}
use Rattle.layout.specs.Work.{frame_start, entries_start, entries_length, stack_of, entries_from, entry_from, entries_of}
use Rattle.layout.proofs.Graphs.{length_stack, entries_dropped}
use Rattle.stack.specs.Bytes.{StackBytes, frame_at}
use Rattle.stack.proofs.Parts.{part, returned, part_length, part_back}
use Rattle.provisional_cache.specs.Entries.{FramesKept}
use Rattle.pop.specs.Kept.{kept_of, Compacted}
use Rattle.provisional_cache.proofs.Loops.{frames_same}
use Rattle.provisional_cache.proofs.Writes.{frames_of}
use Rattle.pop.proofs.Kept.{Compacting, Whole, compact_next, whole_start, whole_next, whole_done}
use Rattle.pop.proofs.Kept.{kept_in_place}
use Rattle.pop.proofs.Entries.{entry_other}
use Rattle.pop.specs.Popped.{popped_frame, PathsFrom, Decides, MayBeLeft}
use Rattle.pop.specs.Rebased.{kept_entry, EntryRebased, StayBefore, RestRebased, Rebased}

-- one entry of the rest
abbrev first : Stack → Frame → RebaseReason → List Entry → Option Entry → List Entry
first s p reason es o = elim o [ none ↦ rebase_entries s p reason es | some r ↦ r ∷ rebase_entries s p reason es ]

kept_first : (s : Stack) (p : Frame) (reason : RebaseReason) (e n : Entry) (keep : Bool)
    → kept_entry keep n ≡ rebase_entry s p reason e
    → (es : List Entry) → kept_of keep n ++ rebase_entries s p reason es ≡ rebase_entries s p reason (e ∷ es)
kept_first s p reason e n keep is es = start keep ∙ ap (first s p reason es) is
  where
    start : (t : Bool) → kept_of t n ++ rebase_entries s p reason es ≡ first s p reason es (kept_entry t n)
    start true = refl
    start false = refl

module _ (goals base popped : ℕ) (paths : List PathKind) (lowest : PathKind) (reason : RebaseReason) (count : ℕ) (old : List ℕ) where
  abbrev p : Frame
  p = popped_frame goals old

  -- the entries so far, and those that are left, make the whole
  pub record Rebasing (new : List ℕ) (kept k : ℕ) : Type 0 where
    pub compacting : Compacting base count old new kept k
    pub whole : (s : Stack) → MayBeLeft goals popped old paths lowest s
        → Whole (rebase_entries s (popped_frame goals old) reason) goals base count old new kept k

  pub rebasing_next : (now mid new : List ℕ) (kept k r : ℕ) (keep : Bool) → Rebasing now kept k → k < count
      → popped_frame goals now ≡ p
      → EntryRebased goals base k (MayBeLeft goals popped now paths lowest) (λ s p e. rebase_entry s p reason e) keep now mid
      → length mid ≡ length now
      → Compacted goals base k kept keep mid new r → length new ≡ length mid → Rebasing new r (k + 1)
  rebasing_next now mid new kept k r keep inv lt is-p is len1 made len2 =
      record {
        compacting =
            compact_next base count old goals now mid new kept k r keep inv.compacting lt len1 is.others.below
            made len2;
        whole = λ s m.
            whole_next (rebase_entries s p reason) goals base count old now mid new kept k r keep (inv.whole s m) lt
            (is.others.before kept inv.compacting.kept_few) (is.others.behind count)
            (kept_first s p reason (entry_from goals base k now) (entry_from goals base k mid) keep
            (is.entry s (record { height = m.height; from = rw is-p m.from; keeps = rw is-p m.keeps })
            ∙ ap (λ (f : Frame). rebase_entry s f reason (entry_from goals base k now)) is-p))
            made;
      }

  pub rebasing_done : (now : List ℕ) (kept k : ℕ) → Rebasing now kept k → count ≤ k
      → RestRebased goals base popped paths lowest reason count old now kept
  rebasing_done now kept k inv h =
      let k0 = inv.compacting.kept_few in
      let k1 = inv.compacting.few in
      record {
        few = omega arith;
        entries = λ s m. whole_done (rebase_entries s p reason) goals base count old refl now kept k (inv.whole s m) h;
        below = inv.compacting.below;
      }

-- ---- `first_under`: entry i does not lean on the popped frame
pub stay_next : (goals base popped n : ℕ) (bs : List ℕ) (i : ℕ) → StayBefore goals base popped n bs i → i < n
    → (h : ℕ) → h ≡ highest_index (entry_from goals base i bs).heads → (h ≡ popped → ⊥)
    → StayBefore goals base popped n bs (i + 1)
stay_next goals base popped n bs i b lt h is-h ne =
    record {
      few = omega arith;
      stay = λ s p reason high.
          let e : Entry = entry_from goals base i bs in
          whole_next (rebase_entries s p reason) goals base n bs bs bs bs i i (i + 1) true (b.stay s p reason high) lt
          refl refl
          (kept_first s p reason e e true (entry_other s p reason e popped high h is-h ne))
          (kept_in_place goals base i bs);
    }

pub stay_start : (goals base popped n : ℕ) (bs : List ℕ) → StayBefore goals base popped n bs 0
stay_start goals base popped n bs =
    record { few = omega arith; stay = λ s p reason high. whole_start (rebase_entries s p reason) goals base n bs }

-- ---- `rebase_provisional_cache_entries`

-- the graph's bytes from the popped frame on are lent: the frames end at `end`
module _ (goals popped : ℕ) (old : List ℕ) (g : StackBytes goals popped old) (under : popped < goals) (start end : ℕ)
    (is-start : start ≡ frame_start goals popped) (is-end : end ≡ entries_start goals) (small : end ≤ 2097152) where
  abbrev rest : List ℕ
  rest = part old start (length old)

  above : start + frame_size goals ≤ end
  above = rw (is-start, is-end) (apart popped goals (frame_size goals) under)

  pub ends : start + (end - start) ≡ end
  ends = let a = above in omega arith

  long : length old ≡ end + entries_length goals
  long = g.bytes.long ∙ ap (λ (x : ℕ). x + entries_length goals) (sym is-end)

  pub start_in : start ≤ length old
  start_in = let a = above in let l = long in omega arith

  is_rest : rest ≡ drop start old
  is_rest = take_all (length old - start) (drop start old) (omega (arith, length-drop start old))

  popped_is : popped_frame goals rest ≡ frame_at goals popped old
  popped_is =
      ap (λ (l : List ℕ). frame_of goals (region 0 (frame_size goals) l)) is_rest
      ∙ ap (λ (a : ℕ). frame_of goals (region a (frame_size goals) old)) is-start

  all_entries : (n : ℕ) (l : List ℕ) → entries_from goals (end - start) n (drop start l) ≡ entries_of goals n l
  all_entries n l =
      entries_dropped goals (end - start) start n l ∙ ap (λ (b : ℕ). entries_from goals b n l) (ends ∙ is-end)

  rest_entries : (n : ℕ) → entries_from goals (end - start) n rest ≡ entries_of goals n old
  rest_entries n = ap (entries_from goals (end - start) n) is_rest ∙ all_entries n old

  -- no entry leans on the popped frame
  pub rebased_none : (reason : RebaseReason) (n r : ℕ) → StayBefore goals (end - start) popped n rest r → r ≡ n
      → Rebased goals popped reason n old old n
  rebased_none reason n r b is =
      let F : List Entry → List Entry = rebase_entries (stack_of goals popped old) (frame_at goals popped old) reason in
      let stay = b.stay (stack_of goals popped old) (frame_at goals popped old) reason (length_stack goals popped old) in
      record {
        few = omega arith;
        entries =
            sym (rest_entries n)
            ∙ sym (ap (λ (m : ℕ). entries_from goals (end - start) m rest) is)
            ∙ whole_done F goals (end - start) n rest refl rest r r stay (omega arith)
            ∙ ap F (rest_entries n);
        frames = frames_same goals old;
      }

  -- and come back as ys
  module _ (ys : List ℕ) (kept : length ys ≡ length rest) where
    abbrev new : List ℕ
    new = returned old start (length old) ys

    whole : length ys ≡ length old - start
    whole = part_length old start (length old) ys start_in (omega arith) kept

    fits : start + length ys ≤ length old
    fits = let w = whole in let s = start_in in omega arith

    back : new ≡ overwrite old start ys
    back = part_back old start (length old) ys start_in (omega arith) kept

    dropped : drop start new ≡ ys
    dropped =
        let len : length new ≡ length old = ap length back ∙ length_overwrite old start ys fits in
        sym (take_all (length ys) (drop start new) (omega (arith, length-drop start new, len, whole)))
        ∙ ap (region start (length ys)) back ∙ region_same old start ys fits

    frames_back : region 0 (end - start) ys ≡ region 0 (end - start) rest → FramesKept goals old new
    frames_back e =
        frames_of goals old new
        (sym (front new)
        ∙ ap₂ (λ (x y : List ℕ). x ++ y)
        (ap (take start) back ∙ region_before old start ys fits 0 start (omega arith))
        (ap (take (end - start)) dropped ∙ e ∙ ap (take (end - start)) is_rest)
        ∙ front old)
      where
        front : (l : List ℕ) → take start l ++ take (end - start) (drop start l) ≡ take (entries_start goals) l
        front l = sym (take-add start (end - start) l) ∙ ap (λ (n : ℕ). take n l) (ends ∙ is-end)

    pub rebased : (paths : List PathKind) (lowest : PathKind) (reason : RebaseReason) (n r : ℕ)
        → PathsFrom (stack_of goals popped old) (frame_at goals popped old) paths
        → ((s : Stack) → PathsFrom s (popped_frame goals rest) paths → Decides s (popped_frame goals rest) (kind_number lowest))
        → RestRebased goals (end - start) popped paths lowest reason n rest ys r
        → Rebased goals popped reason n old new r
    rebased paths lowest reason n r are decides q =
        let s : Stack = stack_of goals popped old in
        let from : PathsFrom s (popped_frame goals rest) paths = rw popped_is are in
        record {
          few = q.few;
          entries =
              sym (all_entries r new) ∙ ap (entries_from goals (end - start) r) dropped
              ∙ q.entries s (record { height = length_stack goals popped old; from = from; keeps = decides s from })
              ∙ ap₂ (λ (p : Frame) (es : List Entry). rebase_entries s p reason es) popped_is (rest_entries n);
          frames = frames_back q.below;
        }
