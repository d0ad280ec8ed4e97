-- A graph whose top frame is written, once and again.
use mathlib.Core.Path.{◌≡◌, refl, ap, ◌∙◌}
use mathlib.Core.List.{List, ◌∷◌}
use Prim.Native.Nat.{ℕ}
use Rattle.definition.specs.Stack.{Frame, Stack}
use Rattle.layout.specs.Work.{stack_of}
use Rattle.stack.specs.Bytes.{frame_at}
use Rattle.stack.proofs.Loops.{stack_top, top_is, under_is}
use Rattle.stack.specs.Written.{TopWritten}

module _ (goals own : ℕ) (f : Frame) (bs mid : List ℕ) (w : TopWritten goals own f bs mid) where
  -- the frame that was written
  pub top_frame : frame_at goals own mid ≡ f
  top_frame = top_is goals own mid w.stack

  -- written again
  pub top_again : (h : Frame) (out : List ℕ) → TopWritten goals own h mid out → TopWritten goals own h bs out
  top_again h out v =
      record {
        stack = v.stack ∙ ap (λ (s : Stack). h ∷ s) (under_is goals own mid w.stack);
        entries = λ n. v.entries n ∙ w.entries n;
        above = λ b m up. v.above b m up ∙ w.above b m up;
      }

  -- the same frame
  pub top_same : (h : Frame) → f ≡ h → TopWritten goals own h bs mid
  top_same h e = record { stack = w.stack ∙ ap (λ (x : Frame). x ∷ stack_of goals own bs) e; entries = w.entries; above = w.above }

-- nothing was written
pub top_kept : (goals own : ℕ) (bs : List ℕ) → TopWritten goals own (frame_at goals own bs) bs bs
top_kept goals own bs =
    record { stack = stack_top goals own bs; entries = λ n. refl; above = λ b m h. refl }
