-- What the writes of heads, of usages, of `reach` and of nested goals make of a frame.
use mathlib.Core.Path.{◌≡◌, refl, sym, ap, ap₂, ◌∙◌}
use mathlib.Core.Bool.{Bool, true, false, not, ◌||◌, true≢false}
use mathlib.Core.Logic.{◌≢◌}
use mathlib.Core.Option.{Option, none, some}
use mathlib.Core.List.{List}
use Prim.Native.Nat.{ℕ, zero, suc, ◌+◌, ◌-◌, ◌≤◌, ◌<◌, min}
use native.Mathlib.Omega.{arith}
use borrow.Author.Tests.{lt-ltb, le-ltb, eq-eqb, ne_eqb}
use lib.ListN.{length, get_or, set, length-set}
use lib.Seq.{get_or-set_same, get_or-set_other}
use Rattle.definition.specs.declared.paths.PathKind.{PathKind}
use Rattle.definition.specs.declared.paths.PathKind.TheVariants.{Inductive, Unknown, Coinductive, ForcedAmbiguity}
use Rattle.definition.specs.declared.usages.HeadUsages.{HeadUsages}
use Rattle.definition.specs.Paths.{extend_with, empty_path, flag_of}
use Rattle.definition.specs.Usages.{no_usages, add_usages_from_nested}
use Rattle.definition.specs.Heads.{insert_head}
use Rattle.definition.specs.Nested.{NestedGoals, nested_empty, insert_nested, extend_from_child}
use Rattle.definition.specs.Stack.{Frame, with_reached, with_heads, with_overflow, with_usages, with_candidate_usages, with_nested_goals}
use Rattle.definition.specs.Parent.{or_no_usages, add_rest, Ordinary, CycleOnStack, ProvisionalCacheHit}
use Rattle.buffer.specs.Regions.{region, overwrite}
use Rattle.buffer.proofs.Regions.{length_overwrite, region_same}
use Rattle.layout.specs.Blocks.{usages_of, heads_size, heads_of, block_size, candidate_of}
use Rattle.layout.specs.Frame.{frame_overflow, frame_tracks, candidate_start, nested_start, frame_size, truth, when_set, frame_of}
use Rattle.layout.proofs.Frames.{set_after, frame_reached_lem, frame_overflow_lem, frame_has_usages, frame_usages, frame_heads, frame_candidate, frame_nested}
use Rattle.stack.specs.Results.{is_some}
use Rattle.stack.proofs.Parts.{part, returned, part_length, part_back}
use Rattle.layout.specs.AtIndex.{add_from_nested_at}
use Rattle.stack.specs.Child.{HeadBegun, tracked_at, used, track_at, join_used, use_own, use_at, reach_frame, insert_own}

-- ---- `track`
tracked_none : (o : Option (List HeadUsages)) (i : ℕ) (u : HeadUsages) → is_some o ≡ false → o ≡ tracked_at o i u
tracked_none none i u e = refl
tracked_none (some us) i u e = absurd (true≢false e)

pub track_none : (f : Frame) (i : ℕ) (u : HeadUsages) (t : Bool) → t ≡ is_some f.candidate_usages → t ≡ false → f ≡ track_at i u f
track_none f i u t is e = ap (with_candidate_usages f) (tracked_none f.candidate_usages i u (sym is ∙ e))

tracked : (n : ℕ) (us : List HeadUsages) (i : ℕ) (u : HeadUsages) → when_set n (add_from_nested_at us i u) ≡ tracked_at (when_set n us) i u
tracked zero us i u = refl
tracked (suc n) us i u = refl

pub track_frame : (goals : ℕ) (bs ys : List ℕ) (a e i : ℕ) (u : HeadUsages) → length bs ≡ frame_size goals → a ≡ candidate_start goals → e ≡ nested_start goals
    → length ys ≡ length (part bs a e) → candidate_of goals ys ≡ add_from_nested_at (candidate_of goals (part bs a e)) i u
    → frame_of goals (returned bs a e ys) ≡ track_at i u (frame_of goals bs)
unfolding frame_of
track_frame goals bs ys a e i u long is-a is-e kept is_y =
    let n : length ys ≡ block_size goals = omega (arith, part_length bs a e ys (omega arith) (omega arith) kept) in
    let w : e - a ≡ block_size goals = omega arith in
    let us : List HeadUsages = candidate_of goals (region (candidate_start goals) (block_size goals) bs) in
    let is : candidate_of goals ys ≡ add_from_nested_at us i u = is_y ∙ ap₂ (λ (k m : ℕ). add_from_nested_at (candidate_of goals (region k m bs)) i u) is-a w in
    ap (frame_of goals) (part_back bs a e ys (omega arith) (omega arith) kept ∙ ap (λ (k : ℕ). overwrite bs k ys) is-a)
    ∙ frame_candidate goals bs long ys n
    ∙ ap (λ (l : List HeadUsages). with_candidate_usages (frame_of goals bs) (when_set (get_or bs frame_tracks 0) l)) is
    ∙ ap (with_candidate_usages (frame_of goals bs)) (tracked (get_or bs frame_tracks 0) us i u)

-- ---- `join`
pub join_frame : (goals : ℕ) (bs ys : List ℕ) (e i p : ℕ) (u : HeadUsages) → length bs ≡ frame_size goals → e ≡ candidate_start goals
    → length ys ≡ length (part bs 40 e) → heads_of goals ys ≡ insert_head (heads_of goals (part bs 40 e)) i p u
    → frame_of goals (returned bs 40 e ys) ≡ join_used i p u (frame_of goals bs)
unfolding frame_of
join_frame goals bs ys e i p u long is-e kept is_y =
    let n : length ys ≡ heads_size goals = omega (arith, part_length bs 40 e ys (omega arith) (omega arith) kept) in
    let w : e - 40 ≡ heads_size goals = omega arith in
    let is : heads_of goals ys ≡ insert_head (heads_of goals (region 40 (heads_size goals) bs)) i p u = is_y ∙ ap (λ (m : ℕ). insert_head (heads_of goals (region 40 m bs)) i p u) w in
    ap (frame_of goals) (part_back bs 40 e ys (omega arith) (omega arith) kept)
    ∙ frame_heads goals bs long ys n
    ∙ ap (with_heads (frame_of goals bs)) is

-- ---- `become_head`
set_some : (n : ℕ) (u : HeadUsages) → is_some (when_set n u) ≡ true → n ≢ 0
set_some zero u e = absurd (true≢false (sym e))
set_some (suc n) u e = λ q. omega arith

some_is : (n : ℕ) (u : HeadUsages) → n ≢ 0 → when_set n u ≡ some u
some_is zero u ne = absurd (ne refl)
some_is (suc n) u ne = refl

none_is : (o : Option HeadUsages) → is_some o ≡ false → or_no_usages o ≡ no_usages
none_is none e = refl
none_is (some u) e = absurd (true≢false e)

pub head_already : (goals : ℕ) (bs : List ℕ) (t : Bool) → t ≡ is_some (frame_of goals bs).usages → t ≡ true → HeadBegun goals bs bs
unfolding frame_of
head_already goals bs t is e =
    let ne = set_some (get_or bs 6 0) (usages_of (region 8 32 bs)) (sym is ∙ e) in
    record {
      marked = ne;
      usages = sym (ap or_no_usages (some_is (get_or bs 6 0) (usages_of (region 8 32 bs)) ne));
      others = λ u. refl;
    }

pub head_new : (goals : ℕ) (bs ys : List ℕ) (t : Bool) (x : HeadUsages) → length bs ≡ frame_size goals → t ≡ is_some (frame_of goals bs).usages → t ≡ false
    → x ≡ no_usages → length ys ≡ length (part bs 8 40) → usages_of ys ≡ x → HeadBegun goals bs (set (returned bs 8 40 ys) 6 1)
head_new goals bs ys t x long is e is_x kept is_y =
    let n : length ys ≡ 32 = omega (arith, part_length bs 8 40 ys (omega arith) (omega arith) kept) in
    let o : List ℕ = overwrite bs 8 ys in
    let back : returned bs 8 40 ys ≡ o = part_back bs 8 40 ys (omega arith) (omega arith) kept in
    let lo : length o ≡ frame_size goals = length_overwrite bs 8 ys (omega arith) ∙ long in
    let there : region 8 32 o ≡ ys = ap (λ (m : ℕ). region 8 m o) (sym n) ∙ region_same bs 8 ys (omega arith) in
    let one : get_or (set o 6 1) 6 0 ≡ 1 = get_or-set_same o 6 1 0 (omega arith) in
    record {
      marked = λ q. let z : ◌≡◌ {A = ℕ} 1 0 = sym one ∙ ap (λ (l : List ℕ). get_or (set l 6 1) 6 0) (sym back) ∙ q in omega arith;
      usages =
          ap (λ (l : List ℕ). usages_of (region 8 32 (set l 6 1))) back
          ∙ ap usages_of (set_after o 6 1 (omega arith) 8 32 (omega arith) ∙ there) ∙ is_y ∙ is_x
          ∙ sym (none_is (frame_of goals bs).usages (sym is ∙ e));
      others = λ u.
          ap (λ (l : List ℕ). with_usages (frame_of goals (set l 6 1)) u) back
          ∙ ap (λ (f : Frame). with_usages f u) (frame_has_usages goals o lo 1)
          ∙ ap (λ (f : Frame). with_usages f u) (frame_usages goals bs long ys n);
    }

-- ---- `use_itself`
pub use_frame : (goals : ℕ) (old bs ys : List ℕ) (u : HeadUsages) → length bs ≡ frame_size goals → HeadBegun goals old bs
    → length ys ≡ length (part bs 8 40) → usages_of ys ≡ add_usages_from_nested (usages_of (part bs 8 40)) u
    → frame_of goals (returned bs 8 40 ys) ≡ use_own u (frame_of goals old)
use_frame goals old bs ys u long begun kept is_y =
    let n : length ys ≡ 32 = omega (arith, part_length bs 8 40 ys (omega arith) (omega arith) kept) in
    ap (frame_of goals) (part_back bs 8 40 ys (omega arith) (omega arith) kept)
    ∙ frame_usages goals bs long ys n
    ∙ ap (with_usages (frame_of goals bs)) (some_is (get_or bs 6 0) (usages_of ys) begun.marked)
    ∙ begun.others (some (usages_of ys))
    ∙ ap (λ (x : HeadUsages). with_usages (frame_of goals old) (some x)) (is_y ∙ ap (λ (x : HeadUsages). add_usages_from_nested x u) begun.usages)

-- ---- `count_head`: the step's own path is the same one step further
pub flag_extended : (k : PathKind) → flag_of k ≡ extend_with (flag_of k) k
flag_extended Inductive = refl
flag_extended Unknown = refl
flag_extended Coinductive = refl
flag_extended ForcedAmbiguity = refl

-- ---- `add`
module _ (own i p : ℕ) (u : HeadUsages) (f g h : Frame) (first : g ≡ track_at i u f) where
  abbrev choice : Bool → Bool → Frame
  choice t s =
      with_candidate_usages
      (with_usages
      (with_heads f (elim t [ true ↦ insert_head f.heads i p u | false ↦ f.heads ]))
      (elim s [ true ↦ used u f.usages | false ↦ f.usages ]))
      (tracked_at f.candidate_usages i u)

  pub head_below : h ≡ join_used i p u g → i < own → h ≡ use_at own i p u f
  head_below e lt = e ∙ ap (join_used i p u) first ∙ sym (ap₂ choice (lt-ltb i own lt) (ne_eqb i own (λ q. omega arith)))

  pub head_own : h ≡ use_own u g → i ≡ own → h ≡ use_at own i p u f
  head_own e q = e ∙ ap (use_own u) first ∙ sym (ap₂ choice (le-ltb i own (omega arith)) (eq-eqb i own q))

  pub head_above : h ≡ g → own ≤ i → (i ≡ own → ⊥) → h ≡ use_at own i p u f
  head_above e le ne = e ∙ first ∙ sym (ap₂ choice (le-ltb i own le) (ne_eqb i own ne))

-- ---- `reach`
pub reach_frame_lem : (goals : ℕ) (bs : List ℕ) (m l : ℕ) (overflow : Bool) (reached : ℕ) → length bs ≡ frame_size goals
    → truth m ≡ (truth (get_or bs 5 0) || overflow) → l ≡ min (get_or (set bs 5 m) 3 0) reached
    → frame_of goals (set (set bs 5 m) 3 l) ≡ reach_frame overflow reached (frame_of goals bs)
unfolding frame_of
reach_frame_lem goals bs m l overflow reached long is_m is-l =
    let l1 : length (set bs 5 m) ≡ frame_size goals = length-set bs 5 m ∙ long in
    let e3 : l ≡ min (get_or bs 3 0) reached = is-l ∙ ap (λ (x : ℕ). min x reached) (get_or-set_other bs 5 3 m 0 (λ e. omega arith)) in
    frame_reached_lem goals (set bs frame_overflow m) l1 l
    ∙ ap (λ (f : Frame). with_reached f l) (frame_overflow_lem goals bs long m)
    ∙ (λ t. with_overflow (with_reached (frame_of goals bs) (e3 t)) (is_m t))

-- ---- the nested goals, changed by f
pub nested_frame : (f : NestedGoals → NestedGoals) (goals : ℕ) (bs ys : List ℕ) (a : ℕ) → length bs ≡ frame_size goals → a ≡ nested_start goals
    → length ys ≡ length (part bs a (a + goals)) → ys ≡ f (part bs a (a + goals))
    → frame_of goals (returned bs a (a + goals) ys) ≡ with_nested_goals (frame_of goals bs) (f (frame_of goals bs).nested_goals)
unfolding frame_of
nested_frame f goals bs ys a long is-a kept is_y =
    let n : length ys ≡ goals = omega (arith, part_length bs a (a + goals) ys (omega arith) (omega arith) kept) in
    let e : a + goals - a ≡ goals = omega arith in
    let is : ys ≡ f (region (nested_start goals) goals bs) = is_y ∙ ap₂ (λ (k m : ℕ). f (region k m bs)) is-a e in
    ap (frame_of goals) (part_back bs a (a + goals) ys (omega arith) (omega arith) kept ∙ ap (λ (k : ℕ). overwrite bs k ys) is-a)
    ∙ frame_nested goals bs long ys n
    ∙ ap (with_nested_goals (frame_of goals bs)) is

-- the frame's own goal
pub itself_frame : (f h : Frame) (g : ℕ) → g ≡ f.input → h ≡ with_nested_goals f (insert_nested f.nested_goals g 1) → h ≡ insert_own f
itself_frame f h g is e = e ∙ ap (λ (x : ℕ). with_nested_goals f (insert_nested f.nested_goals x 1)) is

-- ---- after a nested goal; f, and what it becomes step by step
module _ (step : PathKind) (overflow : Bool) (reached : ℕ) (f f1 : Frame) (first : f1 ≡ reach_frame overflow reached f) where
  module _ (child : NestedGoals) (t : Bool) (is-t : t ≡ nested_empty child) (f2 : Frame) (next : f2 ≡ with_nested_goals f1 (extend_from_child f1.nested_goals step child)) where
    abbrev after : Bool → Frame
    after b = with_nested_goals (reach_frame overflow reached f) (elim b [ true ↦ insert_nested (extend_from_child f.nested_goals step child) f.input empty_path | false ↦ extend_from_child f.nested_goals step child ])

    so_far : f2 ≡ with_nested_goals (reach_frame overflow reached f) (extend_from_child f.nested_goals step child)
    so_far = next ∙ ap (λ (x : Frame). with_nested_goals x (extend_from_child x.nested_goals step child)) first

    pub ordinary_empty : t ≡ true → f2 ≡ add_rest step overflow (Ordinary child) reached f
    ordinary_empty e = so_far ∙ sym (ap after (ap not (sym is-t ∙ e)))

    pub ordinary_more : t ≡ false → (f3 : Frame) → f3 ≡ insert_own f2 → f3 ≡ add_rest step overflow (Ordinary child) reached f
    ordinary_more e f3 last = last ∙ ap insert_own so_far ∙ sym (ap after (ap not (sym is-t ∙ e)))

  pub entry_added : (f2 : Frame) → f2 ≡ insert_own f1 → f2 ≡ add_rest step overflow ProvisionalCacheHit reached f
  entry_added f2 e = e ∙ ap insert_own first

  pub cycle_added : (goal p : ℕ) (f2 f3 : Frame) → p ≡ flag_of step → f2 ≡ with_nested_goals f1 (insert_nested f1.nested_goals goal p) → f3 ≡ insert_own f2 → f3 ≡ add_rest step overflow (CycleOnStack goal) reached f
  cycle_added goal p f2 f3 is e last =
      last ∙ ap insert_own (e ∙ ap₂ (λ (x : Frame) (q : ℕ). with_nested_goals x (insert_nested x.nested_goals goal q)) first is)
