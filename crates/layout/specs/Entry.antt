-- A provisional cache entry in bytes: four fields of one byte each, and heads.
use Rattle.std.specs.Prelude.{ℕ, ◌+◌, ◌*◌, List, get_or}
use Rattle.definition.specs.Paths.{kind_of}
use Rattle.definition.specs.Answers.{answer_of}
use Rattle.definition.specs.Graph.{Entry}
use Rattle.buffer.specs.Regions.{region}
use Rattle.layout.specs.Blocks.{heads_size, heads_of}
use Rattle.layout.specs.Frame.{truth}

-- ---- where they stand
abbrev pub entry_input : ℕ
entry_input = 0

abbrev pub entry_overflow : ℕ
entry_overflow = 1

abbrev pub entry_path : ℕ
entry_path = 2

abbrev pub entry_result : ℕ
entry_result = 3

abbrev pub entry_heads_start : ℕ
entry_heads_start = 4

abbrev pub entry_size : ℕ → ℕ
entry_size goals = 12 + goals * 33

-- ---- what they read as
unfoldable pub entry_of : ℕ → List ℕ → Entry
entry_of goals bs =
    record {
      input = get_or bs entry_input 0;
      encountered_overflow = truth (get_or bs entry_overflow 0);
      heads = heads_of goals (region entry_heads_start (heads_size goals) bs);
      path_from_head = kind_of (get_or bs entry_path 0);
      result = answer_of (get_or bs entry_result 0);
    }
