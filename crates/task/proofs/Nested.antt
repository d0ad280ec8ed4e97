-- What is read of a frame: its nested goals, its heads, the depth that it needs.
use mathlib.Core.Path.{◌≡◌, ap, ◌∙◌}
use mathlib.Core.List.{List}
use Prim.Native.Nat.{ℕ, ◌+◌, ◌≤◌, ◌<◌}
use native.Mathlib.Omega.{arith}
use lib.ListN.{length}
use Rattle.buffer.specs.Regions.{region}
use Rattle.buffer.proofs.Regions.{length_region}
use Rattle.definition.specs.Heads.{heads_empty}
use Rattle.definition.specs.Stack.{required_depth_of}
use Rattle.layout.specs.Blocks.{heads_size, heads_of}
use Rattle.layout.specs.Frame.{frame_size, heads_start, nested_start, frame_of}
use Rattle.layout.specs.Work.{frame_start}
use Rattle.layout.proofs.Graphs.{frame_room}
use Rattle.stack.specs.Bytes.{GraphBytes, frame_bytes, frame_at}

-- there are as many as goals
pub nested_length : (goals : ℕ) (bs : List ℕ) (i : ℕ) → GraphBytes goals bs → i < goals → length (frame_at goals i bs).nested_goals ≡ goals
unfolding frame_of
nested_length goals bs i g lt =
    let inner : nested_start goals + goals ≤ frame_size goals = omega arith in
    length_region (nested_start goals) goals (region (frame_start goals i) (frame_size goals) bs) (omega (arith, inner, length_region (frame_start goals i) (frame_size goals) bs (frame_room goals bs g.long i lt)))

-- ---- what is read of the frame
pub headless_is : (goals i : ℕ) (bs r hs : List ℕ) → r ≡ frame_bytes goals i bs → hs ≡ region heads_start (heads_size goals) r → heads_empty (heads_of goals hs) ≡ heads_empty (frame_at goals i bs).heads
unfolding frame_of
headless_is goals i bs r hs is e = ap (λ (l : List ℕ). heads_empty (heads_of goals l)) (e ∙ ap (region heads_start (heads_size goals)) is)

pub required_is : (goals i : ℕ) (bs r : List ℕ) (d : ℕ) → r ≡ frame_bytes goals i bs → d ≡ required_depth_of (frame_of goals r) → d ≡ required_depth_of (frame_at goals i bs)
required_is goals i bs r d is e = e ∙ ap (λ (l : List ℕ). required_depth_of (frame_of goals l)) is
