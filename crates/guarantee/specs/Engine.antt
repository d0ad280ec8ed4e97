-- What the engine's masks and steps mean.
use Rattle.std.specs.Prelude.{◌≡◌, Bool, false, ◌&&◌, ◌||◌, List, [], ◌∷◌, ℕ, ◌*◌, ◌<◌, ltb, length, drop, get_or}
use Rattle.std.proofs.Math.Option.{Option, none, some}
use Rattle.definition.specs.Part.{Book}
use Rattle.bits.specs.Masks.{flags, pairwise}
use Rattle.book.specs.Lines.{lines_in}
use Rattle.book.specs.Read.{IsAccepted, book_in}
use Rattle.soundness.specs.Sets.{Goals}
use Rattle.soundness.specs.Groups.{StepLine, step_lines_from, calls_some, reaches, linked}
use Rattle.guarantee.specs.declared.steps.Step.{Step}
use Rattle.guarantee.specs.declared.steps.StepsLeft.{StepsLeft}

-- ---- masks

-- the goals of a mask
abbrev pub in_mask : ℕ → Goals
in_mask m k = get_or (flags 64 m) k false

-- m is the mask of a set
abbrev pub IsMask : Goals → ℕ → Type 0
IsMask s m = (k : ℕ) → in_mask m k ≡ s k

unfoldable pub some_set : List Bool → Bool
some_set [] = false
some_set (x ∷ xs) = x || some_set xs

-- two masks have a goal in common
abbrev pub meets : ℕ → ℕ → Bool
meets m n = some_set (pairwise ◌&&◌ (flags 64 m) (flags 64 n))

-- for every goal the mask of the goals that its part calls: it has a goal in common with a mask m where the part calls a
-- goal of m
abbrev pub CallMasks : Book → List ℕ → Type 0
CallMasks b masks = (i m : ℕ) → meets (get_or masks i 0) m ≡ calls_some b (λ g kind. in_mask m g) i

-- for every goal the mask of the goals that reach it
abbrev pub ReachMasks : Book → List ℕ → Type 0
ReachMasks b masks = (goal : ℕ) → goal < 64 → IsMask (λ from. reaches b from goal) (get_or masks goal 0)

-- of the group of g
abbrev pub IsGroup : Book → ℕ → ℕ → Type 0
IsGroup b g m = IsMask (λ k. ltb k 64 && linked b g k) m

-- a book that was read, and the masks of what reaches its goals
pub record Ready (bytes reach : List ℕ) : Type 0 where
  pub accepted : IsAccepted bytes
  pub places : length reach ≡ 64
  pub reached : ReachMasks (book_in bytes) reach

-- ---- steps
abbrev pub step_line : Step → StepLine
step_line s = record { line = s.line; caller = s.caller; goal = s.goal; kind = s.kind }

-- of bytes whose first line is line n, in the part of `caller` unless it is a goal's line
unfoldable pub steps_in : ℕ → ℕ → List ℕ → List StepLine
steps_in n caller bytes = step_lines_from n caller (lines_in bytes)

abbrev pub steps_left : StepsLeft → List StepLine
steps_left s = steps_in s.line s.caller (drop (16 * s.line) s.book.now)

abbrev pub line_of : Option StepLine → Option ℕ
line_of none = none
line_of (some s) = some s.line
