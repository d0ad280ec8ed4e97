-- What a rebase makes of the entries.
use Rattle.std.specs.Prelude.{◌≡◌, Bool, true, false, List, ◌++◌, ℕ, ◌+◌, ◌≤◌, length, drop}
use Rattle.std.proofs.Math.Option.{Option, none, some}
use Rattle.definition.specs.declared.answers.Answer.TheVariants.{Overflow}
use Rattle.definition.specs.declared.endings.RebaseReason.{RebaseReason}
use Rattle.definition.specs.declared.paths.PathKind.{PathKind}
use Rattle.definition.specs.declared.endings.RebaseReason.TheVariants.{NoCycleUsages, Ambiguity, ReachedFixpoint}
use Rattle.definition.specs.declared.endings.Ending.{Ending}
use Rattle.definition.specs.declared.endings.Ending.TheVariants as ending
use Rattle.definition.specs.Heads.{CycleHeads, usages_at, paths_at}
use Rattle.definition.specs.Stack.{Frame, Stack}
use Rattle.definition.specs.Graph.{Entry, with_entry_heads}
use Rattle.definition.specs.ProvisionalCache.{rebased_heads, rebase_entries}
use Rattle.buffer.specs.Regions.{region}
use Rattle.layout.specs.Work.{stack_of, entries_from, entry_from, entries_of}
use Rattle.stack.specs.Bytes.{frame_at}
use Rattle.provisional_cache.specs.Entries.{FramesKept}
use Rattle.pop.specs.Popped.{popped_frame, MayBeLeft}

-- ---- entry k, in bytes that hold the entries from `base` on

-- the entry, where it is kept
abbrev pub kept_entry : Bool → Entry → Option Entry
kept_entry true e = some e
kept_entry false e = none

-- all but entry k is as before
pub record OthersKept (goals base k : ℕ) (old new : List ℕ) : Type 0 where
  pub below : region 0 base new ≡ region 0 base old
  pub before : (n : ℕ) → n ≤ k → entries_from goals base n new ≡ entries_from goals base n old
  pub behind : (n : ℕ) → drop (k + 1) (entries_from goals base n new) ≡ drop (k + 1) (entries_from goals base n old)

-- entry k becomes e
pub record EntryWritten (goals base k : ℕ) (e : Entry) (old new : List ℕ) : Type 0 where
  pub entry : entry_from goals base k new ≡ e
  pub others : OthersKept goals base k old new

-- entry k becomes what `make` makes of it, or is not to be kept, whatever stack Left allows
pub record EntryRebased (goals base k : ℕ) (Left : Stack → Type 0) (make : Stack → Frame → Entry → Option Entry)
    (keep : Bool) (old new : List ℕ) : Type 0 where
  pub entry : (s : Stack) → Left s
      → kept_entry keep (entry_from goals base k new) ≡ make s (popped_frame goals old) (entry_from goals base k old)
  pub others : OthersKept goals base k old new

abbrev pub under_heads : Entry → Option CycleHeads → Option Entry
under_heads e none = none
under_heads e (some hs) = some (with_entry_heads e hs)

-- an entry with its heads after the popped frame
abbrev pub entry_under_heads : ℕ → RebaseReason → Stack → Frame → Entry → Option Entry
entry_under_heads popped reason s p e =
    under_heads e (rebased_heads s p reason e (usages_at e.heads popped) (paths_at e.heads popped))

-- the first r of the n entries do not lean on the popped frame: whatever is made of the others, these stay
pub record StayBefore (goals base popped n : ℕ) (bs : List ℕ) (r : ℕ) : Type 0 where
  pub few : r ≤ n
  pub stay : (s : Stack) (p : Frame) (reason : RebaseReason) → length s ≡ popped
      → entries_from goals base r bs ++ rebase_entries s p reason (drop r (entries_from goals base n bs))
      ≡ rebase_entries s p reason (entries_from goals base n bs)

-- ---- r of the n entries are left

-- in the bytes from the popped frame on, whatever stack may be left
pub record RestRebased (goals base popped : ℕ) (paths : List PathKind) (lowest : PathKind) (reason : RebaseReason) (n : ℕ)
    (old new : List ℕ) (r : ℕ) : Type 0 where
  pub few : r ≤ n
  pub entries : (s : Stack) → MayBeLeft goals popped old paths lowest s
      → entries_from goals base r new ≡ rebase_entries s (popped_frame goals old) reason (entries_from goals base n old)
  pub below : region 0 base new ≡ region 0 base old

-- why an ending rebases; of the two that do not, any reason
abbrev pub reason_of : Ending → RebaseReason
reason_of ending.Nothing = Ambiguity Overflow
reason_of (ending.Fixpoint fixpoint) = ReachedFixpoint fixpoint
reason_of ending.NoUsages = NoCycleUsages
reason_of (ending.Ambiguity kind) = Ambiguity kind
reason_of ending.Overflow = Ambiguity Overflow
reason_of ending.Rerun = Ambiguity Overflow

-- in a graph
pub record Rebased (goals popped : ℕ) (reason : RebaseReason) (n : ℕ) (old new : List ℕ) (r : ℕ) : Type 0 where
  pub few : r ≤ n
  pub entries : entries_of goals r new
      ≡ rebase_entries (stack_of goals popped old) (frame_at goals popped old) reason (entries_of goals n old)
  pub frames : FramesKept goals old new
