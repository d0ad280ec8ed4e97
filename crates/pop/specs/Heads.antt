-- The heads that entry k gains from the popped frame.
use Rattle.std.specs.Prelude.{Bool, true, false, ◌&&◌, List, ℕ}
use Rattle.std.proofs.Math.Option.{Option}
use Rattle.definition.specs.declared.usages.HeadUsages.{HeadUsages}
use Rattle.definition.specs.declared.heads.CycleHead.{CycleHead}
use Rattle.definition.specs.declared.endings.RebaseReason.{RebaseReason}
use Rattle.definition.specs.Paths.{extend_with_paths, empty_path}
use Rattle.definition.specs.Usages.{no_usages}
use Rattle.definition.specs.Heads.{CycleHeads, join_head, for_each_head}
use Rattle.definition.specs.Stack.{Frame, Stack}
use Rattle.definition.specs.Graph.{Entry, with_entry_heads}
use Rattle.definition.specs.ProvisionalCache.{reason_keeps}
use Rattle.layout.specs.Work.{entry_from}
use Rattle.provisional_cache.specs.Entries.{without_head}
use Rattle.pop.specs.Popped.{popped_frame, heads_keep}

-- whether an entry that used the popped frame in this way stays: ep are the paths to it
abbrev pub entry_stays : Stack → Frame → RebaseReason → Entry → HeadUsages → ℕ → Bool
entry_stays s p reason e usages ep = heads_keep s p e.path_from_head ep && reason_keeps reason e.result usages

-- what an entry gains for the head c of the popped frame: the head as reached by the paths ep, or used for nothing
abbrev pub gained_head : Bool → ℕ → CycleHead → CycleHead
gained_head true ep c = record { paths = extend_with_paths ep c.paths; usages = c.usages }
gained_head false ep c = record { paths = empty_path; usages = no_usages }

abbrev pub gain_head : Bool → ℕ → CycleHead → Option CycleHead → CycleHead
gain_head used ep c h = join_head h (gained_head used ep c).paths (gained_head used ep c).usages

-- an entry that gains the heads cs
abbrev pub with_gained : Bool → ℕ → Entry → CycleHeads → Entry
with_gained used ep e cs = with_entry_heads e (for_each_head (gain_head used ep) e.heads cs)

-- entry k gains the heads of the popped frame
abbrev pub gained_entry : ℕ → ℕ → ℕ → Bool → ℕ → List ℕ → Entry
gained_entry goals base k used ep rest =
    with_gained used ep (entry_from goals base k rest) (popped_frame goals rest).heads

-- they take the place of the popped frame among its heads
abbrev pub replaced_entry : ℕ → ℕ → ℕ → ℕ → Bool → ℕ → List ℕ → Entry
replaced_entry goals base popped k used ep rest =
    with_gained used ep (without_head (entry_from goals base k rest) popped) (popped_frame goals rest).heads
