-- The counts of steps, in the bytes of a graph.
use Rattle.std.specs.Prelude.{◌≡◌, List, ℕ, ◌+◌, ◌<◌}
use Rattle.definition.specs.Steps.{count_steps}
use Rattle.definition.specs.Stack.{step_kinds}
use Rattle.buffer.specs.Numbers.{number_of}
use Rattle.buffer.specs.Regions.{region}
use Rattle.layout.specs.Frame.{counts_start, counts_size}
use Rattle.layout.specs.Steps.{packed}
use Rattle.layout.specs.Work.{stack_of}
use Rattle.stack.specs.Bytes.{frame_bytes}

-- in each of the lowest `height` frames the last bytes hold how many steps of each kind lie at or below it
abbrev pub CountsHeld : ℕ → ℕ → List ℕ → Type 0
CountsHeld goals height bs =
    (i : ℕ) → i < height
    → number_of (region (counts_start goals) counts_size (frame_bytes goals i bs))
    ≡ packed (count_steps (step_kinds (stack_of goals (i + 1) bs)))
