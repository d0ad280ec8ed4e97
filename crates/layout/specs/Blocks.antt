-- Usages, heads and blocks of them in bytes. A block is a mask of 64 bits and a record for each index; where the mask's bit is
-- clear nothing is kept, and the record's bytes mean nothing.
use Rattle.std.specs.Prelude.{◌≡◌, ℕ, ◌+◌, ◌*◌, ◌≤◌, Bool, true, false, List, [], ◌∷◌, get_or, length}
use Rattle.std.proofs.Math.Option.{Option, none, some}
use Rattle.definition.specs.declared.usages.HeadUsages.{HeadUsages}
use Rattle.definition.specs.declared.heads.CycleHead.{CycleHead}
use Rattle.definition.specs.Usages.{no_usages}
use Rattle.definition.specs.Heads.{CycleHeads}
use Rattle.bits.specs.Masks.{flags}
use Rattle.buffer.specs.Numbers.{number_of}
use Rattle.buffer.specs.Regions.{region}
use Rattle.buffer.specs.Tables.{list_up}

-- ---- usages: four numbers of 8 bytes
abbrev pub usages_size : ℕ
usages_size = 32

unfoldable pub usages_of : List ℕ → HeadUsages
usages_of bs =
    record {
      inductive = number_of (region 0 8 bs);
      unknown = number_of (region 8 8 bs);
      coinductive = number_of (region 16 8 bs);
      forced = number_of (region 24 8 bs);
    }

-- ---- a head: its paths, and its usages
abbrev pub head_size : ℕ
head_size = 33

unfoldable pub head_of : List ℕ → CycleHead
head_of bs = record { paths = get_or bs 0 0; usages = usages_of (region 1 usages_size bs) }

-- ---- a block's mask
unfoldable pub flag_at : List ℕ → ℕ → Bool
flag_at bs i = get_or (flags 64 (number_of (region 0 8 bs))) i false

-- ---- a block: what a record reads as where its bit is set, `absent` where not
unfoldable pub kept_at : {A : Type 0} → (List ℕ → A) → A → ℕ → List ℕ → ℕ → A
kept_at dec absent size bs i = elim (flag_at bs i) [ true ↦ dec (region (8 + i * size) size bs) | false ↦ absent ]

-- ---- a block of heads
abbrev pub heads_size : ℕ → ℕ
heads_size goals = 8 + goals * head_size

abbrev pub head_at : List ℕ → ℕ → Option CycleHead
head_at bs i = kept_at (λ r. some (head_of r)) none head_size bs i

unfoldable pub heads_of : ℕ → List ℕ → CycleHeads
heads_of goals bs = list_up (head_at bs) goals

-- ---- a block of usages
abbrev pub block_size : ℕ → ℕ
block_size goals = 8 + goals * usages_size

abbrev pub usages_in : List ℕ → ℕ → HeadUsages
usages_in bs i = kept_at usages_of no_usages usages_size bs i

unfoldable pub candidate_of : ℕ → List ℕ → List HeadUsages
candidate_of goals bs = list_up (usages_in bs) goals

-- ---- what a block's bytes must be
pub record HeadsBlock (goals : ℕ) (bs : List ℕ) : Type 0 where
  pub few : goals ≤ 64
  pub long : length bs ≡ heads_size goals

pub record UsagesBlock (goals : ℕ) (bs : List ℕ) : Type 0 where
  pub few : goals ≤ 64
  pub long : length bs ≡ block_size goals

-- the indices that have a head
abbrev pub present : CycleHeads → List Bool
present [] = []
present (none ∷ hs) = false ∷ present hs
present (some h ∷ hs) = true ∷ present hs
