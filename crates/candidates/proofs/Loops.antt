-- The loops over the indices that a mask names: what is left, and what is done, make the whole.
use mathlib.Core.Path.{◌≡◌, refl, sym, ap, ap₂, ◌∙◌, subst}
use mathlib.Core.Bool.{Bool, true, false, ◌&&◌}
use mathlib.Core.List.{List, ◌∷◌, ◌++◌}
use Prim.Native.Nat.{ℕ, ◌+◌, ◌-◌, ◌^◌, ◌≤◌, ◌<◌}
use native.Mathlib.Omega.{arith}
use lib.ListN.{length, get_or, set, take, replicate}
use Rattle.definition.specs.declared.usages.HeadUsages.{HeadUsages}
use Rattle.definition.specs.Usages.{no_usages, usages_cover, merge_usages}
use Rattle.definition.specs.Heads.{CycleHeads, usages_at, ignore_at_heads}
use Rattle.definition.specs.Stack.{Frame, Stack, with_heads, with_usages}
use Rattle.definition.specs.Parent.{or_no_usages}
use Rattle.definition.specs.Candidates.{candidate_usages_of, heads_cover, can_ignore, ignore_on_top, ignore_own_usages}
use Rattle.bits.specs.Masks.{flags, first_place, place_or}
use Rattle.bits.proofs.Flags.{length_flags}
use Rattle.bits.proofs.Marks.{keep_get, none_left, turn_set, turn_at, turn_still, turn_rest}
use Rattle.bits.proofs.Marks as marks
use Rattle.layout.specs.Work.{stack_of, merged_of}
use Rattle.layout.specs.Frame.{frame_of}
use Rattle.layout.specs.Blocks.{candidate_of}
use Rattle.layout.proofs.Graphs.{length_stack}
use Rattle.stack.specs.Bytes.{frame_at}
use Rattle.stack.proofs.Loops.{stack_top}
use Rattle.evaluation.specs.Workspace.{WorkBytes, graph_in}
use Rattle.layout.specs.AtIndex.{Names, add_at}
use Rattle.stack.specs.Tracked.{tracked_of, ignore_head_at, ignore_heads, ignore_own}
use Rattle.candidates.specs.Written.{merged_bytes, top_bytes, top_of, MergedWritten, WorkWritten, FrameWritten}
use Rattle.layout.proofs.Kept.{keep_is, below_only, below_same}
use Rattle.candidates.proofs.Merging.{merge_none, merge_one, ignore_none, ignore_one, cover_same, cover_one, cover_none, cover_fails}
use Rattle.candidates.proofs.Parts.{merged_is, frame_now, frame_again, frame_same, frame_kept}

-- ---- the mask that is left
abbrev pub Below : ℕ → ℕ → Type 0
Below n left = (i : ℕ) → get_or (flags 64 left) i false ≡ true → i < n

-- a turn, at index i
pub turn_below : (left i : ℕ) → 0 < left → left < 2 ^ 64 → i ≡ place_or 64 (first_place (flags 64 left)) → (n : ℕ) → Below n left → i < n
turn_below left i pos small is n below = below i (turn_set left i pos small is)

-- the usages at the indices that are left
abbrev keep : List Bool → List HeadUsages → List HeadUsages
keep = marks.keep no_usages

-- a mask that names every index that has usages
all_kept : (goals m : ℕ) (us : List HeadUsages) → Names goals m us → keep (flags 64 m) us ≡ us
all_kept goals m us names = sym (keep_is (flags 64 m) us) ∙ names.all

less : (a b n : ℕ) → a < b → b < n → a < n
less a b n p q = omega arith

-- ---- `merge`
pub record Merging (goals own : ℕ) (old new : List ℕ) (left : ℕ) : Type 0 where
  pub same_length : length new ≡ length old
  pub small : left < 2 ^ 64
  pub below : Below goals left
  pub written : MergedWritten goals own (merged_of goals own new) old new
  pub rest : merge_usages (merged_of goals own new) (keep (flags 64 left) (tracked_of goals (top_of goals own old))) ≡ merge_usages (merged_of goals own old) (tracked_of goals (top_of goals own old))

module _ (goals own : ℕ) (old : List ℕ) where
  pub merge_start : (r : List ℕ) (left : ℕ) → r ≡ top_bytes goals own old → left < 2 ^ 64 → Names goals left (tracked_of goals (frame_of goals r)) → Merging goals own old old left
  merge_start r left is-r small names =
      let same : frame_of goals r ≡ top_of goals own old = ap (frame_of goals) is-r in
      let all : keep (flags 64 left) (tracked_of goals (top_of goals own old)) ≡ tracked_of goals (top_of goals own old) = subst (λ (f : Frame). keep (flags 64 left) (tracked_of goals f) ≡ tracked_of goals f) same (all_kept goals left (tracked_of goals (frame_of goals r)) names) in
      record {
        same_length = refl;
        small = small;
        below = names.below;
        written = record { written = refl; others = λ i l. refl; graph = refl };
        rest = ap (merge_usages (merged_of goals own old)) all;
      }

  module _ (now : List ℕ) (left : ℕ) (inv : Merging goals own old now left) where
    pub merge_next : (i : ℕ) → 0 < left → i ≡ place_or 64 (first_place (flags 64 left)) → (r : List ℕ) → r ≡ top_bytes goals own now
        → (u : HeadUsages) → u ≡ get_or (tracked_of goals (frame_of goals r)) i no_usages
        → (new : List ℕ) → length new ≡ length now → MergedWritten goals own (add_at i u (merged_of goals own now)) now new
        → (left' : ℕ) → flags 64 left' ≡ set (flags 64 left) (place_or 64 (first_place (flags 64 left))) false → left' < left → Merging goals own old new left'
    merge_next i pos is r is-r u is-u new len w left' is-left lt =
        let vs : List HeadUsages = tracked_of goals (top_of goals own old) in
        let graph : graph_in goals now ≡ graph_in goals old = inv.written.graph in
        let tracked : tracked_of goals (frame_of goals r) ≡ vs = ap (λ (l : List ℕ). tracked_of goals (frame_of goals l)) is-r ∙ ap (λ (g : List ℕ). tracked_of goals (frame_at goals own g)) graph in
        let at : u ≡ get_or (keep (flags 64 left) vs) i no_usages = is-u ∙ ap (λ (l : List HeadUsages). get_or l i no_usages) tracked ∙ sym (turn_at left i pos inv.small is no_usages vs) in
        record {
          same_length = len ∙ inv.same_length;
          small = less left' left (2 ^ 64) lt inv.small;
          below = λ j h. inv.below j (turn_still left i pos inv.small is left' is-left j h);
          written = record { written = refl; others = λ j l. w.others j l ∙ inv.written.others j l; graph = w.graph ∙ graph };
          rest =
              ap₂ merge_usages w.written (turn_rest left i pos inv.small is left' is-left no_usages vs)
              ∙ merge_one (merged_of goals own now) (keep (flags 64 left) vs) i u at
              ∙ inv.rest;
        }

    pub merge_done : left ≡ 0 → MergedWritten goals own (merge_usages (merged_of goals own old) (candidate_usages_of goals (stack_of goals (own + 1) (graph_in goals old)))) old now
    merge_done h =
        record {
          written =
              sym (merge_none (merged_of goals own now) (keep (flags 64 left) (tracked_of goals (top_of goals own old))) (none_left no_usages left (omega arith) (tracked_of goals (top_of goals own old))))
              ∙ inv.rest
              ∙ sym (ap (λ (s : Stack). merge_usages (merged_of goals own old) (candidate_usages_of goals s)) (stack_top goals own (graph_in goals old)));
          others = inv.written.others;
          graph = inv.written.graph;
        }

-- ---- `heads_cover`
pub record Covering (own : ℕ) (hs : CycleHeads) (us : List HeadUsages) (left : ℕ) : Type 0 where
  pub small : left < 2 ^ 64
  pub below : Below own left
  pub rest : heads_cover own hs (keep (flags 64 left) us) ≡ heads_cover own hs us

module _ (own : ℕ) (hs : CycleHeads) (us : List HeadUsages) where
  pub cover_start : (goals m left : ℕ) → own ≤ goals → goals ≤ 64 → Names goals m us → left < 2 ^ 64 → flags 64 left ≡ take own (flags 64 m) ++ replicate (64 - own) false → Covering own hs us left
  cover_start goals m left le few names small is =
      record {
        small = small;
        below = λ i h. below_only own (flags 64 m) (64 - own) i (ap (λ (xs : List Bool). get_or xs i false) (sym is) ∙ h);
        rest = cover_same own hs (keep (flags 64 left) us) us (λ i l. ap (usages_cover (usages_at hs i)) (same i l));
      }
    where
      flag : (i : ℕ) → i < own → get_or (flags 64 left) i false ≡ get_or (flags 64 m) i false
      flag i l = ap (λ (xs : List Bool). get_or xs i false) is ∙ below_same own (flags 64 m) (64 - own) i l (rw length_flags (omega arith))

      same : (i : ℕ) → i < own → get_or (keep (flags 64 left) us) i no_usages ≡ get_or us i no_usages
      same i l =
          keep_get no_usages (flags 64 left) us i
          ∙ ap (λ (t : Bool). elim t [ true ↦ get_or us i no_usages | false ↦ no_usages ]) (flag i l)
          ∙ sym (keep_get no_usages (flags 64 m) us i)
          ∙ ap (λ (l : List HeadUsages). get_or l i no_usages) (all_kept goals m us names)

  module _ (left : ℕ) (inv : Covering own hs us left) where
    module _ (i : ℕ) (pos : 0 < left) (is : i ≡ place_or 64 (first_place (flags 64 left))) (u : HeadUsages) (is-u : u ≡ get_or us i no_usages) (t : Bool) (is-t : t ≡ usages_cover (usages_at hs i) u) where
      pub cover_next : t ≡ true → (left' : ℕ) → flags 64 left' ≡ set (flags 64 left) (place_or 64 (first_place (flags 64 left))) false → left' < left → Covering own hs us left'
      cover_next e left' is-left lt =
          let covered : usages_cover (usages_at hs i) (get_or (keep (flags 64 left) us) i no_usages) ≡ true = ap (usages_cover (usages_at hs i)) (turn_at left i pos inv.small is no_usages us ∙ sym is-u) ∙ sym is-t ∙ e in
          record {
            small = less left' left (2 ^ 64) lt inv.small;
            below = λ j h. inv.below j (turn_still left i pos inv.small is left' is-left j h);
            rest =
                ap (heads_cover own hs) (turn_rest left i pos inv.small is left' is-left no_usages us)
                ∙ cover_one own hs (keep (flags 64 left) us) i covered
                ∙ inv.rest;
          }

      pub cover_stops : t ≡ false → false ≡ heads_cover own hs us
      cover_stops e = sym (cover_fails own hs us i (turn_below left i pos inv.small is own inv.below) (ap (usages_cover (usages_at hs i)) (sym is-u) ∙ sym is-t ∙ e))

    pub cover_done : left ≡ 0 → true ≡ heads_cover own hs us
    cover_done h = sym (cover_none own hs (keep (flags 64 left) us) (none_left no_usages left (omega arith) us)) ∙ inv.rest

-- ---- `can_ignore`
module _ (goals own : ℕ) (work f b : List ℕ) (w : WorkBytes goals work) (lt : own < goals) (is_f : f ≡ top_bytes goals own work) (is_b : b ≡ merged_bytes goals own work) (t : Bool)
    (is-t : t ≡ heads_cover own (frame_of goals f).heads (candidate_of goals b)) where
  abbrev us : List HeadUsages
  us = merged_of goals own work

  abbrev top : Frame
  top = top_of goals own work

  can_open : (t && usages_cover (or_no_usages top.usages) (get_or us own no_usages)) ≡ can_ignore us (stack_of goals (own + 1) (graph_in goals work))
  can_open =
      ap (λ (s : Bool). s && usages_cover (or_no_usages top.usages) (get_or us own no_usages)) (is-t ∙ ap₂ (λ (l : List ℕ) (vs : List HeadUsages). heads_cover own (frame_of goals l).heads vs) is_f (merged_is goals work w own lt b is_b))
      ∙ ap (λ (n : ℕ). heads_cover n top.heads us && usages_cover (or_no_usages top.usages) (get_or us n no_usages)) (sym (length_stack goals own (graph_in goals work)))
      ∙ sym (ap (can_ignore us) (stack_top goals own (graph_in goals work)))

  pub can_not : t ≡ false → false ≡ can_ignore us (stack_of goals (own + 1) (graph_in goals work))
  can_not e = sym (ap (λ (s : Bool). s && usages_cover (or_no_usages top.usages) (get_or us own no_usages)) e) ∙ can_open

  pub can_if : t ≡ true → (u : HeadUsages) (r : Bool) → u ≡ get_or (candidate_of goals b) own no_usages → r ≡ usages_cover (or_no_usages (frame_of goals f).usages) u
      → r ≡ can_ignore us (stack_of goals (own + 1) (graph_in goals work))
  can_if e u r is-u is-r =
      is-r
      ∙ ap₂ (λ (l : List ℕ) (v : HeadUsages). usages_cover (or_no_usages (frame_of goals l).usages) v) is_f (is-u ∙ ap (λ (vs : List HeadUsages). get_or vs own no_usages) (merged_is goals work w own lt b is_b))
      ∙ sym (ap (λ (s : Bool). s && usages_cover (or_no_usages top.usages) (get_or us own no_usages)) e)
      ∙ can_open

-- ---- `ignore_at_heads`
pub record Ignoring (goals own : ℕ) (old new : List ℕ) (left : ℕ) : Type 0 where
  pub same_length : length new ≡ length old
  pub small : left < 2 ^ 64
  pub below : Below goals left
  pub written : FrameWritten goals own (top_of goals own new) old new
  pub rest : ignore_heads (keep (flags 64 left) (merged_of goals own old)) (top_of goals own new) ≡ ignore_heads (merged_of goals own old) (top_of goals own old)

module _ (goals own : ℕ) (lt : own < goals) (old : List ℕ) (bytes : WorkBytes goals old) where
  pub ignore_start : (b : List ℕ) (left : ℕ) → b ≡ merged_bytes goals own old → left < 2 ^ 64 → Names goals left (candidate_of goals b) → Ignoring goals own old old left
  ignore_start b left is_b small names =
      let same : candidate_of goals b ≡ merged_of goals own old = merged_is goals old bytes own lt b is_b in
      let all : keep (flags 64 left) (merged_of goals own old) ≡ merged_of goals own old = subst (λ (us : List HeadUsages). keep (flags 64 left) us ≡ us) same (all_kept goals left (candidate_of goals b) names) in
      record {
        same_length = refl;
        small = small;
        below = names.below;
        written = frame_kept goals own old;
        rest = ap (λ (us : List HeadUsages). ignore_heads us (top_of goals own old)) all;
      }

  module _ (now : List ℕ) (left : ℕ) (inv : Ignoring goals own old now left) where
    pub ignore_next : WorkBytes goals now → (i : ℕ) → 0 < left → i ≡ place_or 64 (first_place (flags 64 left)) → (b : List ℕ) → b ≡ merged_bytes goals own now
        → (u : HeadUsages) → u ≡ get_or (candidate_of goals b) i no_usages
        → (new : List ℕ) → length new ≡ length now → FrameWritten goals own (ignore_head_at i u (top_of goals own now)) now new
        → (left' : ℕ) → flags 64 left' ≡ set (flags 64 left) (place_or 64 (first_place (flags 64 left))) false → left' < left → Ignoring goals own old new left'
    ignore_next ok i pos is b is_b u is-u new len w left' is-left le =
        let us : List HeadUsages = merged_of goals own old in
        let f : Frame = top_of goals own now in
        let g : Frame = ignore_head_at i u f in
        let top-new : top_of goals own new ≡ g = frame_now goals own g now new w in
        let merged : candidate_of goals b ≡ us = merged_is goals now ok own lt b is_b ∙ inv.written.merged own lt in
        let at : u ≡ get_or (keep (flags 64 left) us) i no_usages = is-u ∙ ap (λ (l : List HeadUsages). get_or l i no_usages) merged ∙ sym (turn_at left i pos inv.small is no_usages us) in
        record {
          same_length = len ∙ inv.same_length;
          small = less left' left (2 ^ 64) le inv.small;
          below = λ j h. inv.below j (turn_still left i pos inv.small is left' is-left j h);
          written = frame_same goals own g old new (frame_again goals own f old now inv.written g new w) (top_of goals own new) (sym top-new);
          rest =
              ap₂ ignore_heads (turn_rest left i pos inv.small is left' is-left no_usages us) top-new
              ∙ ap (with_heads f) (ignore_one f.heads (keep (flags 64 left) us) i u at)
              ∙ inv.rest;
        }

    pub ignore_done : left ≡ 0 → FrameWritten goals own (ignore_heads (merged_of goals own old) (top_of goals own old)) old now
    ignore_done h =
        let us : List HeadUsages = merged_of goals own old in
        let f : Frame = top_of goals own now in
        let is : f ≡ ignore_heads us (top_of goals own old) = ap (with_heads f) (sym (ignore_none f.heads (keep (flags 64 left) us) (none_left no_usages left (omega arith) us))) ∙ inv.rest in
        frame_same goals own f old now inv.written (ignore_heads us (top_of goals own old)) is

-- ---- `ignore`
pub ignored : (goals own : ℕ) (old mid new b : List ℕ) (u : HeadUsages) → own < goals → WorkBytes goals mid
    → FrameWritten goals own (ignore_heads (merged_of goals own old) (top_of goals own old)) old mid
    → b ≡ merged_bytes goals own mid → u ≡ get_or (candidate_of goals b) own no_usages → FrameWritten goals own (ignore_own u (top_of goals own mid)) mid new
    → WorkWritten goals (own + 1) (ignore_on_top (merged_of goals own old) (stack_of goals (own + 1) (graph_in goals old))) old new
ignored goals own old mid new b u lt ok w is_b is-u v =
    let us : List HeadUsages = merged_of goals own old in
    let f : Frame = top_of goals own old in
    let fs : Stack = stack_of goals own (graph_in goals old) in
    let at : u ≡ get_or us own no_usages = is-u ∙ ap (λ (l : List HeadUsages). get_or l own no_usages) (merged_is goals mid ok own lt b is_b ∙ w.merged own lt) in
    let a = frame_again goals own (ignore_heads us f) old mid w (ignore_own u (top_of goals own mid)) new v in
    record {
      stack =
          a.stack
          ∙ ap₂ (λ (g : Frame) (x : HeadUsages). ignore_own x g ∷ fs) (frame_now goals own (ignore_heads us f) old mid w) at
          ∙ ap (λ (n : ℕ). with_usages (with_heads f (ignore_at_heads f.heads us)) (ignore_own_usages f.usages (get_or us n no_usages)) ∷ fs) (sym (length_stack goals own (graph_in goals old)))
          ∙ sym (ap (ignore_on_top us) (stack_top goals own (graph_in goals old)));
      entries = a.entries;
      merged = a.merged;
    }
