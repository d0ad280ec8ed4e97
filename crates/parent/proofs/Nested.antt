-- The nested goals of a frame, joined in place with those of the frame above it.
use mathlib.Core.Path.{◌≡◌, sym, ap, ap₂, ◌∙◌, subst}
use mathlib.Core.Bool.{Bool, true, false, not}
use mathlib.Core.List.{List}
use Prim.Native.Nat.{ℕ, ◌+◌, ◌-◌, ◌≤◌, ◌<◌}
use native.Mathlib.Omega.{arith}
use lib.ListN.{length}
use Rattle.definition.specs.declared.paths.PathKind.{PathKind}
use Rattle.definition.specs.Nested.{NestedGoals, nested_empty, insert_nested, extend_from_child}
use Rattle.definition.specs.Paths.{empty_path}
use Rattle.definition.specs.Stack.{Frame, with_nested_goals}
use Rattle.definition.specs.Parent.{Ordinary, add_rest}
use Rattle.buffer.specs.Regions.{region, overwrite}
use Rattle.buffer.proofs.Regions.{region_region, overwrite_inside, length_region, length_overwrite}
use Rattle.layout.specs.Frame.{nested_start, frame_size, frame_of}
use Rattle.layout.specs.Work.{frame_start}
use Rattle.layout.specs.Copied.{Extended}
use Rattle.layout.proofs.Graphs.{frame_room}
use Rattle.layout.proofs.Frames.{frame_nested}
use Rattle.layout.proofs.NestedExtended.{length_extended}
use Rattle.stack.specs.Bytes.{GraphBytes, frame_at}
use Rattle.stack.specs.Child.{reach_frame, extend_nested, finish_nested}
use Rattle.stack.specs.Written.{TopWritten}
use Rattle.stack.proofs.Graph.{frame_put}
use Rattle.stack.proofs.Parts.{part, returned, part_back}
use Rattle.parent.specs.Updated.{nested_at, NestedJoined}
use Rattle.parent.proofs.Top.{top_frame, top_again, top_same}
use Rattle.parent.proofs.Update.{below_ends}

-- where the nested goals of frame i stand
pub nested_at_lem : (goals i : ℕ) (bs : List ℕ) → region (frame_start goals i + nested_start goals) goals bs ≡ nested_at goals i bs
unfolding frame_of
nested_at_lem goals i bs = sym (region_region (frame_start goals i) (frame_size goals) (nested_start goals) goals bs (omega arith))

next_frame : (goals own : ℕ) → frame_start goals own + frame_size goals ≡ frame_start goals (own + 1)
next_frame goals own = omega arith

-- those of frame `own` start at a + k, and n bytes on those of the frame above
module _ (goals : ℕ) (bs : List ℕ) (own a k n : ℕ) (g : GraphBytes goals bs) (lt : own + 1 < goals) (is-a : a ≡ frame_start goals own) (is-k : k ≡ nested_start goals) (is-n : n ≡ frame_size goals) where
  pub nested_next : a + k + n ≡ frame_start goals (own + 1) + nested_start goals
  nested_next =
      let e : a + n ≡ frame_start goals (own + 1) = ap₂ (λ (x y : ℕ). x + y) is-a is-n ∙ next_frame goals own in
      let f : a + k + n ≡ a + n + k = omega arith in
      f ∙ ap₂ (λ (x y : ℕ). x + y) e is-k

  pub nested_fits : a + k + n + goals ≤ length bs
  nested_fits =
      let room = frame_room goals bs g.long (own + 1) lt in
      let e = nested_next in
      let inner : nested_start goals + goals ≤ frame_size goals = omega arith in
      omega arith

module _ (goals own : ℕ) (step : PathKind) (bs new : List ℕ) (none : Bool) (g : GraphBytes goals bs) (lt : own < goals)
    (to from : ℕ) (is-to : to ≡ frame_start goals own + nested_start goals) (is-from : from ≡ frame_start goals (own + 1) + nested_start goals)
    (extended : Extended to from goals step bs new none) where
  pub nested_joined : NestedJoined goals own step bs new none
  unfolding frame_of
  nested_joined =
      let a : ℕ = frame_start goals own in
      let n : ℕ = frame_size goals in
      let room : a + n ≤ length bs = frame_room goals bs g.long own lt in
      let child : NestedGoals = nested_at goals (own + 1) bs in
      let zs : List ℕ = extend_from_child (nested_at goals own bs) step child in
      let block : length (region a n bs) ≡ n = length_region a n bs room in
      let size : length zs ≡ goals = length_extended (nested_at goals own bs) step child ∙ length_region (nested_start goals) goals (region a n bs) (omega (arith, block)) in
      let ys : List ℕ = overwrite (region a n bs) (nested_start goals) zs in
      let whole : length ys ≡ n = length_overwrite (region a n bs) (nested_start goals) zs (omega (arith, block, size)) ∙ block in
      let e : a + n - a ≡ n = omega arith in
      let kept : length ys ≡ length (part bs a (a + n)) = whole ∙ sym (ap (λ (m : ℕ). length (region a m bs)) e ∙ block) in
      let is : new ≡ returned bs a (a + n) ys =
      extended.goals
      ∙ ap₂ (λ (p c : List ℕ). overwrite bs to (extend_from_child p step c)) (ap (λ (x : ℕ). region x goals bs) is-to ∙ nested_at_lem goals own bs) (ap (λ (x : ℕ). region x goals bs) is-from ∙ nested_at_lem goals (own + 1) bs)
      ∙ ap (λ (x : ℕ). overwrite bs x zs) is-to
      ∙ overwrite_inside bs a n (nested_start goals) zs (omega (arith, size)) room
      ∙ sym (part_back bs a (a + n) ys (omega arith) room kept) in
      let f : Frame = extend_nested step child (frame_at goals own bs) in
      record {
        frame = subst (λ (l : List ℕ). TopWritten goals own f bs l) (sym is)
            (frame_put goals bs own a n g lt (λ i. a) (λ i. n) ys kept f (frame_nested goals (region a n bs) block zs size));
        empty = extended.empty ∙ ap nested_empty (ap (λ (x : ℕ). region x goals bs) is-from ∙ nested_at_lem goals (own + 1) bs);
      }

-- ---- joined, then the rest
abbrev after : PathKind → Bool → ℕ → NestedGoals → Frame → Bool → Frame
after step overflow reached child f b =
    with_nested_goals (reach_frame overflow reached f)
    (elim b [ true ↦ insert_nested (extend_from_child f.nested_goals step child) f.input empty_path | false ↦ extend_from_child f.nested_goals step child ])

finish_rest : (step : PathKind) (overflow none : Bool) (reached : ℕ) (child : NestedGoals) (f : Frame) → none ≡ nested_empty child
    → finish_nested overflow none reached (extend_nested step child f) ≡ add_rest step overflow (Ordinary child) reached f
finish_rest step overflow true reached child f e = sym (ap (after step overflow reached child f) (ap not (sym e)))
finish_rest step overflow false reached child f e = sym (ap (after step overflow reached child f) (ap not (sym e)))

pub joined_rest : (goals own : ℕ) (step : PathKind) (overflow none : Bool) (reached : ℕ) (bs mid out : List ℕ) (child : NestedGoals)
    → TopWritten goals own (extend_nested step child (frame_at goals own bs)) bs mid → none ≡ nested_empty child
    → TopWritten goals own (finish_nested overflow none reached (frame_at goals own mid)) mid out
    → TopWritten goals own (add_rest step overflow (Ordinary child) reached (frame_at goals own bs)) bs out
joined_rest goals own step overflow none reached bs mid out child w e v =
    let f : Frame = extend_nested step child (frame_at goals own bs) in
    let g : Frame = finish_nested overflow none reached (frame_at goals own mid) in
    top_same goals own g bs out (top_again goals own f bs mid w g out v) (add_rest step overflow (Ordinary child) reached (frame_at goals own bs))
    (ap (finish_nested overflow none reached) (top_frame goals own f bs mid w) ∙ finish_rest step overflow none reached child (frame_at goals own bs) e)

-- the child's frame is as it was after the heads were added below it
pub child_kept : (goals height : ℕ) (bs mid : List ℕ) (f : Frame) → 0 < height → TopWritten goals (height - 1) f bs mid → nested_at goals (height - 1 + 1) mid ≡ nested_at goals height bs
child_kept goals height bs mid f pos w =
    let e : height - 1 + 1 ≡ height = omega arith in
    ap (λ (k : ℕ). nested_at goals k mid) e ∙ ap (λ (l : List ℕ). (frame_of goals l).nested_goals) (w.above (frame_start goals height) (frame_size goals) (below_ends goals height pos))
