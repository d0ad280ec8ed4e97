-- A frame of the stack in bytes: eight fields of one byte each, then usages, heads, candidate usages, nested goals
-- and the counts of steps.
use Rattle.std.specs.Prelude.{ℕ, zero, suc, ◌+◌, ◌*◌, Bool, true, false, List, get_or}
use Rattle.std.proofs.Math.Option.{Option, none, some}
use Rattle.definition.specs.declared.answers.Answer.{Answer}
use Rattle.definition.specs.Paths.{kind_of}
use Rattle.definition.specs.Answers.{answer_of}
use Rattle.definition.specs.Stack.{Frame}
use Rattle.buffer.specs.Numbers.{number_of}
use Rattle.buffer.specs.Regions.{region}
use Rattle.layout.specs.Blocks.{usages_size, usages_of, heads_size, heads_of, block_size, candidate_of}
use Rattle.layout.specs.Steps.{unpacked}

-- ---- where the fields stand
abbrev pub frame_input : ℕ
frame_input = 0

abbrev pub frame_step : ℕ
frame_step = 1

abbrev pub frame_available : ℕ
frame_available = 2

abbrev pub frame_reached : ℕ
frame_reached = 3

-- 0 where there is no provisional result, else one more than its number
abbrev pub frame_provisional : ℕ
frame_provisional = 4

abbrev pub frame_overflow : ℕ
frame_overflow = 5

-- whether there are usages: the frame is a cycle head
abbrev pub frame_is_head : ℕ
frame_is_head = 6

-- whether there are candidate usages: the frame tracks a candidate
abbrev pub frame_tracks : ℕ
frame_tracks = 7

abbrev pub usages_start : ℕ
usages_start = 8

abbrev pub heads_start : ℕ
heads_start = 40

abbrev pub candidate_start : ℕ → ℕ
candidate_start goals = 48 + goals * 33

abbrev pub nested_start : ℕ → ℕ
nested_start goals = 56 + goals * 65

abbrev pub counts_start : ℕ → ℕ
counts_start goals = 56 + goals * 66

abbrev pub counts_size : ℕ
counts_size = 8

abbrev pub frame_size : ℕ → ℕ
frame_size goals = 64 + goals * 66

-- ---- what they read as

-- a byte that is not 0 says true
abbrev pub truth : ℕ → Bool
truth zero = false
truth (suc n) = true

abbrev pub result_of : ℕ → Option Answer
result_of zero = none
result_of (suc n) = some (answer_of n)

abbrev pub when_set : {A : Type 0} → ℕ → A → Option A
when_set zero x = none
when_set (suc n) x = some x

-- a frame by its fields, and the bytes of its usages, heads, candidate usages, nested goals and counts
abbrev pub frame_by : ℕ → (ℕ → ℕ) → List ℕ → List ℕ → List ℕ → List ℕ → List ℕ → Frame
frame_by goals field us hs cs ns ks =
    record {
      input = field frame_input;
      step_kind_from_parent = kind_of (field frame_step);
      available_depth = field frame_available;
      min_reached_available_depth = field frame_reached;
      provisional_result = result_of (field frame_provisional);
      heads = heads_of goals hs;
      encountered_overflow = truth (field frame_overflow);
      usages = when_set (field frame_is_head) (usages_of us);
      candidate_usages = when_set (field frame_tracks) (candidate_of goals cs);
      nested_goals = ns;
      step_counts = unpacked (number_of ks);
    }

unfoldable pub frame_of : ℕ → List ℕ → Frame
frame_of goals bs =
    frame_by goals
    (λ i. get_or bs i 0)
    (region usages_start usages_size bs)
    (region heads_start (heads_size goals) bs)
    (region (candidate_start goals) (block_size goals) bs)
    (region (nested_start goals) goals bs)
    (region (counts_start goals) counts_size bs)
