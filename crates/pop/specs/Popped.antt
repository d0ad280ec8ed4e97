-- The popped frame, and the stack that is left, as far as the loop over the entries is told of them.
use Rattle.std.specs.Prelude.{◌≡◌, Bool, true, ◌&&◌, List, [], ◌∷◌, ℕ, ◌≤◌, ◌<◌, min, leb, length, get_or}
use Rattle.std.proofs.Math.Option.{none, some}
use Rattle.definition.specs.declared.paths.PathKind.{PathKind}
use Rattle.definition.specs.declared.paths.PathKind.TheVariants.{Inductive}
use Rattle.definition.specs.declared.heads.CycleHead.{CycleHead}
use Rattle.definition.specs.Paths.{kind_number, extend, iter_paths}
use Rattle.definition.specs.Stack.{Frame, Stack, cycle_path_kind}
use Rattle.definition.specs.ProvisionalCache.{paths_keep_kind}
use Rattle.buffer.specs.Regions.{region}
use Rattle.layout.specs.Frame.{frame_size, frame_of}
use Rattle.provisional_cache.specs.Entries.{EntriesBytes}

-- ---- the bytes of a graph from the popped frame on

-- they start with a frame
pub record FrameFirst (goals : ℕ) (rest : List ℕ) : Type 0 where
  pub few : goals ≤ 64
  pub wide : frame_size goals ≤ length rest

-- and the entries start at `base`
pub record RestBytes (goals base : ℕ) (rest : List ℕ) : Type 0 where
  pub wide : frame_size goals ≤ base
  pub entries : EntriesBytes goals base rest

-- the bytes of the popped frame
abbrev pub popped_bytes : ℕ → List ℕ → List ℕ
popped_bytes goals rest = region 0 (frame_size goals) rest

abbrev pub popped_frame : ℕ → List ℕ → Frame
popped_frame goals rest = frame_of goals (popped_bytes goals rest)

-- c is its head at index i
abbrev pub PoppedHead : ℕ → List ℕ → ℕ → CycleHead → Type 0
PoppedHead goals rest i c = get_or (popped_frame goals rest).heads i none ≡ some c

-- ---- the paths to it

-- the array holds the kinds of those from the frames of the stack s
abbrev pub PathsFrom : Stack → Frame → List PathKind → Type 0
PathsFrom s p paths =
    (i : ℕ) → i < 64 → get_or paths i Inductive ≡ cycle_path_kind s p.step_kind_from_parent i

-- ---- where they go by way of an entry: `path` is the entry's, ep are the paths to it

-- whether those from each head of the popped frame p keep their kind
abbrev pub heads_keep : Stack → Frame → PathKind → ℕ → Bool
heads_keep s p path ep = paths_keep_kind s p.step_kind_from_parent path ep 0 p.heads

-- whether no ep that goes on with `path` is of a kind above the bound b
abbrev pub bound_keeps : ℕ → PathKind → List PathKind → Bool
bound_keeps b path [] = true
bound_keeps b path (ep ∷ eps) = leb (kind_number (extend ep path)) b && bound_keeps b path eps

-- the bound b decides it for every entry
abbrev pub Decides : Stack → Frame → ℕ → Type 0
Decides s p b = (path : PathKind) (ep : ℕ) → heads_keep s p path ep ≡ bound_keeps b path (iter_paths ep)

-- the lowest of the kinds, as a number; the highest kind where there is none
abbrev pub lowest_of : List PathKind → ℕ
lowest_of [] = 3
lowest_of (k ∷ ks) = min (kind_number k) (lowest_of ks)

-- ---- the stack that is left

-- s may be it: all that is told of it is its height, the paths from its frames, and the bound
pub record MayBeLeft (goals popped : ℕ) (rest : List ℕ) (paths : List PathKind) (lowest : PathKind) (s : Stack) : Type 0 where
  pub height : length s ≡ popped
  pub from : PathsFrom s (popped_frame goals rest) paths
  pub keeps : Decides s (popped_frame goals rest) (kind_number lowest)
