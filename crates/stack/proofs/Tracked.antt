-- What is read of the candidate that a frame tracks, and what its writes make of a frame.
use mathlib.Core.Path.{◌≡◌, refl, sym, ap, ap₂, ◌∙◌, subst}
use mathlib.Core.Bool.{Bool, true, false, true≢false, false≢true}
use mathlib.Core.Option.{Option, none, some}
use mathlib.Core.List.{List}
use Prim.Native.Nat.{ℕ, zero, suc, ◌≤◌}
use native.Mathlib.Omega.{arith}
use lib.ListN.{length, get_or, set}
use Rattle.definition.specs.declared.usages.HeadUsages.{HeadUsages}
use Rattle.definition.specs.Usages.{no_usages, ignore_usages, usages_cover}
use Rattle.definition.specs.Heads.{usages_at}
use Rattle.definition.specs.Stack.{Frame, with_heads, with_usages, with_candidate_usages}
use Rattle.definition.specs.Parent.{or_no_usages}
use Rattle.definition.specs.Candidates.{no_candidate_usages, ignore_own_usages}
use Rattle.bits.proofs.Marks.{only}
use Rattle.buffer.specs.Regions.{region, overwrite}
use Rattle.buffer.proofs.Regions.{length_overwrite, region_same}
use Rattle.layout.specs.Blocks.{usages_of, heads_size, heads_of, block_size, candidate_of}
use Rattle.layout.specs.Frame.{candidate_start, nested_start, heads_start, frame_size, when_set, frame_of}
use Rattle.layout.specs.AtIndex.{Names, ignore_at}
use Rattle.layout.proofs.Kept.{names_no_usages}
use Rattle.layout.proofs.Frames.{frame_has_candidate, frame_usages, frame_heads, frame_candidate}
use Rattle.stack.specs.Results.{is_some}
use Rattle.stack.proofs.Blocks.{head_part}
use Rattle.stack.proofs.Parts.{part, returned, part_length, part_back}
use Rattle.stack.specs.Tracked.{tracked_of, ignore_head_at, ignore_own}

-- ---- what a frame tracks
abbrev chosen : ℕ → Option (List HeadUsages) → List HeadUsages
chosen goals o = elim o [ none ↦ no_candidate_usages goals | some us ↦ us ]

chosen_none : (goals : ℕ) (o : Option (List HeadUsages)) → is_some o ≡ false → no_candidate_usages goals ≡ chosen goals o
chosen_none goals none e = refl
chosen_none goals (some us) e = absurd (true≢false e)

chosen_some : (goals n : ℕ) (us : List HeadUsages) → is_some (when_set n us) ≡ true → us ≡ chosen goals (when_set n us)
chosen_some goals zero us e = absurd (false≢true e)
chosen_some goals (suc n) us e = refl

module _ (goals : ℕ) (bs : List ℕ) (t : Bool) (is-t : t ≡ is_some (frame_of goals bs).candidate_usages) where
  none_tracked : t ≡ false → no_candidate_usages goals ≡ tracked_of goals (frame_of goals bs)
  none_tracked e = chosen_none goals (frame_of goals bs).candidate_usages (sym is-t ∙ e)

  some_tracked : t ≡ true → (r : List ℕ) → r ≡ region (candidate_start goals) (block_size goals) bs → candidate_of goals r ≡ tracked_of goals (frame_of goals bs)
  unfolding frame_of
  some_tracked e r is-r =
      ap (candidate_of goals) is-r
      ∙ chosen_some goals (get_or bs 7 0) (candidate_of goals (region (candidate_start goals) (block_size goals) bs)) (sym is-t ∙ e)

  pub names_none : goals ≤ 64 → t ≡ false → Names goals 0 (tracked_of goals (frame_of goals bs))
  names_none few e = subst (Names goals 0) (none_tracked e) (names_no_usages goals few)

  pub names_some : t ≡ true → (r : List ℕ) (m : ℕ) → r ≡ region (candidate_start goals) (block_size goals) bs → Names goals m (candidate_of goals r) → Names goals m (tracked_of goals (frame_of goals bs))
  names_some e r m is-r h = subst (Names goals m) (some_tracked e r is-r) h

  pub tracked_none : t ≡ false → (i : ℕ) (u : HeadUsages) → u ≡ no_usages → u ≡ get_or (tracked_of goals (frame_of goals bs)) i no_usages
  tracked_none e i u is = is ∙ sym (only no_usages goals i) ∙ ap (λ (l : List HeadUsages). get_or l i no_usages) (none_tracked e)

  pub tracked_some : t ≡ true → (r : List ℕ) → r ≡ region (candidate_start goals) (block_size goals) bs → (i : ℕ) (u : HeadUsages) → u ≡ get_or (candidate_of goals r) i no_usages → u ≡ get_or (tracked_of goals (frame_of goals bs)) i no_usages
  tracked_some e r is-r i u is = is ∙ ap (λ (l : List HeadUsages). get_or l i no_usages) (some_tracked e r is-r)

-- ---- `head_covers`
pub covers_head : (goals : ℕ) (bs r : List ℕ) (i : ℕ) (u v : HeadUsages) (t : Bool) → r ≡ region heads_start (heads_size goals) bs → v ≡ usages_at (heads_of goals r) i → t ≡ usages_cover v u
    → t ≡ usages_cover (usages_at (frame_of goals bs).heads i) u
unfolding frame_of
covers_head goals bs r i u v t is-r is-v is-t = is-t ∙ ap (λ (x : HeadUsages). usages_cover x u) (is-v ∙ ap (λ (l : List ℕ). usages_at (heads_of goals l) i) is-r)

-- ---- `enter`, `finish`
pub enter_frame : (goals : ℕ) (bs ys : List ℕ) (a e : ℕ) → length bs ≡ frame_size goals → a ≡ candidate_start goals → e ≡ nested_start goals
    → length ys ≡ length (part bs a e) → candidate_of goals ys ≡ no_candidate_usages goals
    → frame_of goals (set (returned bs a e ys) 7 1) ≡ with_candidate_usages (frame_of goals bs) (some (no_candidate_usages goals))
enter_frame goals bs ys a e long is-a is-e kept clear =
    let n : length ys ≡ block_size goals = omega (arith, part_length bs a e ys (omega arith) (omega arith) kept) in
    let o : List ℕ = overwrite bs (candidate_start goals) ys in
    let lo : length o ≡ frame_size goals = length_overwrite bs (candidate_start goals) ys (omega arith) ∙ long in
    let there : region (candidate_start goals) (block_size goals) o ≡ ys = ap (λ (m : ℕ). region (candidate_start goals) m o) (sym n) ∙ region_same bs (candidate_start goals) ys (omega arith) in
    ap (λ (l : List ℕ). frame_of goals (set l 7 1)) (part_back bs a e ys (omega arith) (omega arith) kept ∙ ap (λ (k : ℕ). overwrite bs k ys) is-a)
    ∙ frame_has_candidate goals o lo 1
    ∙ ap₂ (λ (f : Frame) (us : List HeadUsages). with_candidate_usages f (some us)) (frame_candidate goals bs long ys n) (ap (candidate_of goals) there ∙ clear)

pub finish_frame : (goals : ℕ) (bs : List ℕ) → length bs ≡ frame_size goals → frame_of goals (set bs 7 0) ≡ with_candidate_usages (frame_of goals bs) none
finish_frame goals bs long = frame_has_candidate goals bs long 0

-- ---- `ignore_head`
pub ignore_head_frame : (goals : ℕ) (bs ys : List ℕ) (e i : ℕ) (u : HeadUsages) → length bs ≡ frame_size goals → e ≡ candidate_start goals
    → length ys ≡ length (part bs 40 e) → heads_of goals ys ≡ ignore_at i u (heads_of goals (part bs 40 e))
    → frame_of goals (returned bs 40 e ys) ≡ ignore_head_at i u (frame_of goals bs)
unfolding frame_of
ignore_head_frame goals bs ys e i u long is-e kept is_y =
    let n : length ys ≡ heads_size goals = omega (arith, part_length bs 40 e ys (omega arith) (omega arith) kept) in
    ap (frame_of goals) (part_back bs 40 e ys (omega arith) (omega arith) kept)
    ∙ frame_heads goals bs long ys n
    ∙ ap (with_heads (frame_of goals bs)) (is_y ∙ ap (λ (l : List ℕ). ignore_at i u (heads_of goals l)) (head_part goals bs e is-e))

-- ---- `ignore_own`
own_none : (o : Option HeadUsages) (u : HeadUsages) → is_some o ≡ false → o ≡ ignore_own_usages o u
own_none none u e = refl
own_none (some v) u e = absurd (true≢false e)

pub ignore_own_none : (f : Frame) (u : HeadUsages) (t : Bool) → t ≡ is_some f.usages → t ≡ false → f ≡ ignore_own u f
ignore_own_none f u t is e = ap (with_usages f) (own_none f.usages u (sym is ∙ e))

own_some : (n : ℕ) (v u : HeadUsages) → when_set n (ignore_usages (or_no_usages (when_set n v)) u) ≡ ignore_own_usages (when_set n v) u
own_some zero v u = refl
own_some (suc n) v u = refl

pub ignore_own_frame : (goals : ℕ) (bs ys : List ℕ) (before x u : HeadUsages) → length bs ≡ frame_size goals → before ≡ or_no_usages (frame_of goals bs).usages → x ≡ ignore_usages before u
    → length ys ≡ length (part bs 8 40) → usages_of ys ≡ x → frame_of goals (returned bs 8 40 ys) ≡ ignore_own u (frame_of goals bs)
unfolding frame_of
ignore_own_frame goals bs ys before x u long is_b is_x kept is_y =
    let n : length ys ≡ 32 = omega (arith, part_length bs 8 40 ys (omega arith) (omega arith) kept) in
    ap (frame_of goals) (part_back bs 8 40 ys (omega arith) (omega arith) kept)
    ∙ frame_usages goals bs long ys n
    ∙ ap (λ (v : HeadUsages). with_usages (frame_of goals bs) (when_set (get_or bs 6 0) v)) (is_y ∙ is_x ∙ ap (λ (b : HeadUsages). ignore_usages b u) is_b)
    ∙ ap (with_usages (frame_of goals bs)) (own_some (get_or bs 6 0) (usages_of (region 8 32 bs)) u)
