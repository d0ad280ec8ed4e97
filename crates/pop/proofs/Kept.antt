-- Entries that are kept move to the front: the turns of the loops that do so.
use mathlib.Core.Path.{◌≡◌, refl, sym, ap, ap₂, ◌∙◌, subst}
use mathlib.Core.Bool.{Bool, true, false}
use mathlib.Core.List.{List, [], ◌∷◌, ◌++◌, append-nil, append_assoc}
use mathlib.Core.Logic.{inr}
use Prim.Native.Nat.{ℕ, ◌+◌, ◌*◌, ◌-◌, ◌≤◌, ◌<◌}
use native.Mathlib.Numerals.{add-one}
use native.Mathlib.Omega.{arith}
use lib.ListN.{length, get_or, drop}
use lib.Seq.{drop-drop}
use Rattle.definition.specs.Paths.{kind_of}
use Rattle.definition.specs.Answers.{answer_of}
use Rattle.definition.specs.Graph.{Entry}
use Rattle.definition.specs.ProvisionalCache.{survives_rerun, survivors}
use Rattle.buffer.specs.Regions.{region, overwrite}
use Rattle.buffer.proofs.Regions.{length_region, region_region, region_same, region_before, region_after, byte_at, length_overwrite}
use Rattle.buffer.proofs.Tables.{apart}
use Rattle.layout.specs.Blocks.{heads_size, heads_of}
use Rattle.layout.specs.Copied.{BlocksApart, HeadsCopied}
use Rattle.layout.specs.Entry.{entry_heads_start, entry_size, entry_of}
use Rattle.layout.specs.Frame.{truth}
use Rattle.layout.specs.Work.{entries_start, entry_start_from, entries_from, entry_from}
use Rattle.layout.proofs.Graphs.{no_entries, entries_snoc, entry_room}
use Rattle.provisional_cache.specs.Entries.{EntriesBytes}
use Rattle.provisional_cache.proofs.Copies.{entries_low, entries_high}
use Rattle.provisional_cache.proofs.Loops.{rest_open, rest_none}
use Rattle.provisional_cache.proofs.Writes.{frames_of}
use Rattle.pop.specs.Kept.{kept_of, Compacted, Cleared}
use Rattle.pop.specs.Rebased.{EntryWritten}

-- lists that are the same from one place on are so from a later one on
further : (i k : ℕ) → k ≤ i → (xs ys : List Entry) → drop (k + 1) xs ≡ drop (k + 1) ys → drop (i + 1) xs ≡ drop (i + 1) ys
further i k le xs ys e =
    let m : k + 1 + (i - k) ≡ i + 1 = omega arith in
    ap (λ (n : ℕ). drop n xs) (sym m) ∙ sym (drop-drop (i - k) (k + 1) xs) ∙ ap (drop (i - k)) e ∙ drop-drop (i - k) (k + 1) ys ∙ ap (λ (n : ℕ). drop n ys) m

module _ (goals base : ℕ) (bs : List ℕ) (g : EntriesBytes goals base bs) where
  -- ---- `move_entry`
  -- from `a` on, and to `b`
  module _ (from to a b : ℕ) (below : to < from) (lt : from < 2 * goals) (is-a : a ≡ entry_start_from goals base from)
      (is_b : b ≡ entry_start_from goals base to) where
    ends : b + entry_size goals ≤ a
    ends = let order = apart to from (entry_size goals) below in omega arith

    room : a + entry_size goals ≤ length bs
    room = subst (λ (x : ℕ). x + entry_size goals ≤ length bs) (sym is-a) (entry_room goals base bs g.long from lt)

    pub move_room : (b ≤ a) × (a + entry_heads_start ≤ length bs)
    move_room = let e = ends in let r = room in (omega arith, omega arith)

    module _ (mid : List ℕ) (is-mid : mid ≡ overwrite bs b (region a entry_heads_start bs)) where
      fields : length (region a entry_heads_start bs) ≡ entry_heads_start
      fields = length_region a entry_heads_start bs (let r = room in omega arith)

      fits : b + length (region a entry_heads_start bs) ≤ length bs
      fits = let e = ends in let r = room in omega (arith, fields)

      mid_before : (c m : ℕ) → c + m ≤ b → region c m mid ≡ region c m bs
      mid_before c m h = ap (region c m) is-mid ∙ region_before bs b (region a entry_heads_start bs) fits c m h

      mid_behind : (c m : ℕ) → b + entry_heads_start ≤ c → region c m mid ≡ region c m bs
      mid_behind c m h = ap (region c m) is-mid ∙ region_after bs b (region a entry_heads_start bs) fits c m (omega (arith, fields))

      pub move_apart : BlocksApart goals (a + entry_heads_start) (b + entry_heads_start) mid
      move_apart =
          let e = ends in
          let r = room in
          let same : length mid ≡ length bs = ap length is-mid ∙ length_overwrite bs b (region a entry_heads_start bs) fits in
          let whole : entry_heads_start + heads_size goals ≡ entry_size goals = omega arith in
          record { few = g.few; source = omega arith; target = omega arith; apart = inr (omega arith) }

      module _ (new : List ℕ) (copied : HeadsCopied goals (a + entry_heads_start) (b + entry_heads_start) mid new) where
        field : (j : ℕ) → j < entry_heads_start → get_or (region b (entry_size goals) new) j 0 ≡ get_or (region a (entry_size goals) bs) j 0
        field j h =
            byte_at b (entry_size goals) new j (omega arith)
            ∙ sym (byte_at b entry_heads_start new j h)
            ∙ ap (λ (l : List ℕ). get_or l j 0)
            (copied.others.before b entry_heads_start (omega arith)
            ∙ ap (region b entry_heads_start) is-mid
            ∙ ap (λ (m : ℕ). region b m (overwrite bs b (region a entry_heads_start bs))) (sym fields)
            ∙ region_same bs b (region a entry_heads_start bs) fits)
            ∙ byte_at a entry_heads_start bs j h
            ∙ sym (byte_at a (entry_size goals) bs j (omega arith))

        heads : heads_of goals (region entry_heads_start (heads_size goals) (region b (entry_size goals) new))
            ≡ heads_of goals (region entry_heads_start (heads_size goals) (region a (entry_size goals) bs))
        heads =
            let e = ends in
            ap (heads_of goals) (region_region b (entry_size goals) entry_heads_start (heads_size goals) new (omega arith))
            ∙ copied.heads
            ∙ ap (heads_of goals) (mid_behind (a + entry_heads_start) (heads_size goals) (omega arith))
            ∙ sym (ap (heads_of goals) (region_region a (entry_size goals) entry_heads_start (heads_size goals) bs (omega arith)))

        same : entry_of goals (region b (entry_size goals) new) ≡ entry_of goals (region a (entry_size goals) bs)
        unfolding entry_of
        same =
            let e0 = field 0 (omega arith) in
            let e1 = field 1 (omega arith) in
            let e2 = field 2 (omega arith) in
            let e3 = field 3 (omega arith) in
            λ t. record {
              input = e0 t;
              encountered_overflow = truth (e1 t);
              heads = heads t;
              path_from_head = kind_of (e2 t);
              result = answer_of (e3 t);
            }

        before : (c m : ℕ) → c + m ≤ entry_start_from goals base to → region c m new ≡ region c m bs
        before c m h = copied.others.before c m (omega arith) ∙ mid_before c m (omega arith)

        behind : (c m : ℕ) → entry_start_from goals base to + entry_size goals ≤ c → region c m new ≡ region c m bs
        behind c m h = copied.others.behind c m (omega arith) ∙ mid_behind c m (omega arith)

        pub moved : EntryWritten goals base to (entry_from goals base from bs) bs new
        moved =
            record {
              entry =
                  ap (λ (x : ℕ). entry_of goals (region x (entry_size goals) new)) (sym is_b)
                  ∙ same
                  ∙ ap (λ (x : ℕ). entry_of goals (region x (entry_size goals) bs)) is-a;
              others = record {
                below = before 0 base (omega arith);
                before = entries_low goals base to bs new before;
                behind = entries_high goals base to bs new behind;
              };
            }

  -- ---- `keep_if`
  pub keep_moved : (i kept : ℕ) (keep : Bool) (new : List ℕ) → keep ≡ true → kept ≤ i
      → EntryWritten goals base kept (entry_from goals base i bs) bs new → Compacted goals base i kept keep bs new (kept + 1)
  keep_moved i kept keep new keeps le written =
      record {
        least = omega arith;
        most = omega arith;
        below = written.others.below;
        entries =
            ap (λ (k : ℕ). entries_from goals base k new) (add-one kept)
            ∙ entries_snoc goals base kept new
            ∙ ap₂ (λ (es : List Entry) (e : Entry). es ++ (e ∷ [])) (written.others.before kept (omega arith)) written.entry
            ∙ sym (ap (λ (t : Bool). entries_from goals base kept bs ++ kept_of t (entry_from goals base i bs)) keeps);
        rest = λ n. further i kept le (entries_from goals base n new) (entries_from goals base n bs) (written.others.behind n);
      }

-- ---- the loops that compact: the entries kept so far, and what F makes of the rest, are what F makes of all
pub record Compacting (base n : ℕ) (old new : List ℕ) (kept i : ℕ) : Type 0 where
  pub kept_few : kept ≤ i
  pub few : i ≤ n
  pub same_length : length new ≡ length old
  pub below : region 0 base new ≡ region 0 base old

module _ (base n : ℕ) (old : List ℕ) where
  pub compact_start : (i : ℕ) → i ≤ n → Compacting base n old old i i
  compact_start i le = record { kept_few = omega arith; few = le; same_length = refl; below = refl }

  -- entry i changes, and is kept or not
  pub compact_next : (goals : ℕ) (now mid new : List ℕ) (kept i r : ℕ) (keep : Bool)
      → Compacting base n old now kept i → i < n
      → length mid ≡ length now → region 0 base mid ≡ region 0 base now → Compacted goals base i kept keep mid new r
      → length new ≡ length mid
      → Compacting base n old new r (i + 1)
  compact_next goals now mid new kept i r keep inv lt len1 same made len2 =
      let k0 = inv.kept_few in
      let k1 = made.most in
      record {
        kept_few = omega arith;
        few = omega arith;
        same_length = len2 ∙ len1 ∙ inv.same_length;
        below = made.below ∙ same ∙ inv.below;
      }

module _ (F : List Entry → List Entry) (goals base n : ℕ) (old : List ℕ) where
  abbrev pub Whole : List ℕ → ℕ → ℕ → Type 0
  Whole new kept i = entries_from goals base kept new ++ F (drop i (entries_from goals base n new))
      ≡ F (entries_from goals base n old)

  pub whole_start : Whole old 0 0
  whole_start = ap (λ (l : List Entry). l ++ F (entries_from goals base n old)) (no_entries goals base old)

  pub whole_next : (now mid new : List ℕ) (kept i r : ℕ) (keep : Bool) → Whole now kept i → i < n
      → entries_from goals base kept mid ≡ entries_from goals base kept now
      → drop (i + 1) (entries_from goals base n mid) ≡ drop (i + 1) (entries_from goals base n now)
      → ((es : List Entry) → kept_of keep (entry_from goals base i mid) ++ F es ≡ F (entry_from goals base i now ∷ es))
      → Compacted goals base i kept keep mid new r → Whole new r (i + 1)
  whole_next now mid new kept i r keep inv lt before behind one made =
      let es : List Entry = drop (i + 1) (entries_from goals base n now) in
      let e : Entry = entry_from goals base i mid in
      ap₂ (λ (x y : List Entry). x ++ F y) (made.entries ∙ ap (λ (l : List Entry). l ++ kept_of keep e) before)
      (made.rest n ∙ behind)
      ∙ append_assoc (entries_from goals base kept now) (kept_of keep e) (F es)
      ∙ ap (λ (x : List Entry). entries_from goals base kept now ++ x)
      (one es ∙ sym (ap F (rest_open goals base now n i lt)))
      ∙ inv

  pub whole_done : F [] ≡ [] → (now : List ℕ) (kept i : ℕ) → Whole now kept i → n ≤ i
      → entries_from goals base kept now ≡ F (entries_from goals base n old)
  whole_done end now kept i inv h =
      sym (append-nil (entries_from goals base kept now))
      ∙ sym (ap (λ (l : List Entry). entries_from goals base kept now ++ l)
      (ap F (rest_none goals base now n i h) ∙ end))
      ∙ inv

-- an entry that stays in its place
pub kept_in_place : (goals base i : ℕ) (bs : List ℕ) → Compacted goals base i i true bs bs (i + 1)
kept_in_place goals base i bs =
    record {
      least = omega arith;
      most = omega arith;
      below = refl;
      entries = ap (λ (k : ℕ). entries_from goals base k bs) (add-one i) ∙ entries_snoc goals base i bs;
      rest = λ n. refl;
    }

-- ---- `clear_for_rerun`
pub survivor_first : (rerun : ℕ) (e : Entry) (keep : Bool) → keep ≡ survives_rerun rerun e → (es : List Entry)
    → kept_of keep e ++ survivors rerun es ≡ survivors rerun (e ∷ es)
survivor_first rerun e keep is es = go keep (survives_rerun rerun e) is
  where
    go : (a b : Bool) → a ≡ b
        → kept_of a e ++ survivors rerun es ≡ elim b [ true ↦ e ∷ survivors rerun es | false ↦ survivors rerun es ]
    go a true d = ap (λ (t : Bool). kept_of t e ++ survivors rerun es) d
    go a false d = ap (λ (t : Bool). kept_of t e ++ survivors rerun es) d

pub cleared : (goals base rerun n : ℕ) (old new : List ℕ) (kept i : ℕ) → base ≡ entries_start goals
    → Compacting base n old new kept i
    → Whole (survivors rerun) goals base n old new kept i → n ≤ i → Cleared goals rerun n old new kept
cleared goals base rerun n old new kept i is inv whole past =
    let k0 = inv.kept_few in
    let k1 = inv.few in
    record {
      few = omega arith;
      entries = subst (λ (b : ℕ). entries_from goals b kept new ≡ survivors rerun (entries_from goals b n old)) is
          (whole_done (survivors rerun) goals base n old refl new kept i whole past);
      frames = frames_of goals old new (subst (λ (b : ℕ). region 0 b new ≡ region 0 b old) is inv.below);
    }
