-- The blocks of a frame: heads, candidate usages, nested goals.
use mathlib.Core.Path.{◌≡◌, ap, ap₂, ◌∙◌}
use mathlib.Core.List.{List}
use Prim.Native.Nat.{ℕ, ◌+◌, ◌-◌}
use native.Mathlib.Omega.{arith}
use lib.ListN.{length}
use Rattle.buffer.specs.Regions.{region}
use Rattle.buffer.proofs.Regions.{length_region}
use Rattle.layout.specs.Blocks.{heads_size, block_size, HeadsBlock, UsagesBlock}
use Rattle.layout.specs.Frame.{heads_start, candidate_start, nested_start, frame_size, frame_of}
use Rattle.stack.specs.Bytes.{FrameBytes}
use Rattle.stack.proofs.Parts.{part}

pub head_part : (goals : ℕ) (bs : List ℕ) (e : ℕ) → e ≡ candidate_start goals → part bs heads_start e ≡ region heads_start (heads_size goals) bs
head_part goals bs e is = let w : e - heads_start ≡ heads_size goals = omega arith in ap (λ (m : ℕ). region heads_start m bs) w

pub candidate_part : (goals : ℕ) (bs : List ℕ) (a e : ℕ) → a ≡ candidate_start goals → e ≡ nested_start goals → part bs a e ≡ region (candidate_start goals) (block_size goals) bs
candidate_part goals bs a e is-a is-e = let w : e - a ≡ block_size goals = omega arith in ap₂ (λ (k m : ℕ). region k m bs) is-a w

pub nested_part : (goals : ℕ) (bs : List ℕ) (a : ℕ) → a ≡ nested_start goals → part bs a (a + goals) ≡ (frame_of goals bs).nested_goals
unfolding frame_of
nested_part goals bs a is = let w : a + goals - a ≡ goals = omega arith in ap₂ (λ (k m : ℕ). region k m bs) is w

-- their bytes are a block's
module _ (goals : ℕ) (bs r : List ℕ) (f : FrameBytes goals bs) where
  pub heads_block : r ≡ region heads_start (heads_size goals) bs → HeadsBlock goals r
  heads_block e =
      let long : length bs ≡ frame_size goals = f.long in
      record { few = f.few; long = ap length e ∙ length_region heads_start (heads_size goals) bs (omega arith) }

  pub candidate_block : r ≡ region (candidate_start goals) (block_size goals) bs → UsagesBlock goals r
  candidate_block e =
      let long : length bs ≡ frame_size goals = f.long in
      record { few = f.few; long = ap length e ∙ length_region (candidate_start goals) (block_size goals) bs (omega arith) }
