-- The theorems. What they say stands in specs/: Sets, Statement, Groups, Trace, Always, Pop and Passes.
use mathlib.Core.Bool.{Bool}
use mathlib.Core.List.{List}
use mathlib.Core.Option.{some}
use mathlib.Core.Path.{◌≡◌}
use Prim.Native.Nat.{ℕ}
use Rattle.definition.specs.Graph.{Graph}
use Rattle.definition.specs.Part.{Book}
use Rattle.definition.specs.Reader.{Accepted, lines_of, read_book}
use Rattle.definition.specs.declared.format.Header.{Header}
use Rattle.definition.specs.declared.format.Line.{Line}
use Rattle.definition.specs.declared.replies.Refusal.TheVariants.{CacheConflict, ProvisionalCacheFull}
use Rattle.soundness.specs.Always.{Always, Conflict, Follows, Full, InOrder, NeverUnreachable, OnlyUnder}
use Rattle.soundness.specs.Groups.{GroupsFit, RightByGroups, StepsAreLines}
use Rattle.soundness.specs.Passes.{PassesCounted, PassesUnread}
use Rattle.soundness.specs.Pop.{PopKeepsHeads}
use Rattle.soundness.specs.Sets.{GreatestSelfSupporting, LeastClosed, greatest, least}
use Rattle.soundness.specs.Statement.{Demand3}
use Rattle.soundness.proofs.Fixpoints.{greatest_is, least_is}
use Rattle.soundness.proofs.Passes.{counted_from_zeros}
use Rattle.soundness.proofs.Pop.{keeps_heads_lem}
use Rattle.soundness.proofs.Reading.{any_read}
use Rattle.soundness.proofs.StepLines.{steps_are_lines}
use Rattle.soundness.proofs.Unread.{unread}
use Rattle.soundness.proofs.Demand3.{demand_3_of_groups, groups_fit, right_by_groups}
use Rattle.soundness.proofs.EveryBook.{always_in_order, in_order_follows, only_on_conflict, only_when_full, query_never_unreachable}

-- ---- mixed books
pub mixed_books : RightByGroups
mixed_books = right_by_groups

pub mixed_groups : (bytes : List ℕ) (b : Book) → read_book bytes ≡ Accepted b → GroupsFit b
mixed_groups bytes b e = groups_fit b (any_read bytes b e)

-- every call line stands in some goal's part
pub step_lines : (bytes : List ℕ) (b : Book) (ls : List Line) → read_book bytes ≡ Accepted b → lines_of bytes ≡ some ls
    → StepsAreLines b ls
step_lines = steps_are_lines

-- ---- demand 3, of mixed books: with one choice for all groups the set is the least, or the greatest
pub demand_3_follows : RightByGroups → Demand3
demand_3_follows = demand_3_of_groups

pub demand_3 : Demand3
demand_3 = demand_3_follows mixed_books

-- ---- the sets are what document 01 says of them
pub least_set : (bytes : List ℕ) (b : Book) → read_book bytes ≡ Accepted b → (reading : Bool)
    → LeastClosed b reading (least b reading)
least_set bytes b e = least_is b (any_read bytes b e).whole

pub greatest_set : (bytes : List ℕ) (b : Book) → read_book bytes ≡ Accepted b → (reading : Bool)
    → GreatestSelfSupporting b reading (greatest b reading)
greatest_set bytes b e = greatest_is b (any_read bytes b e).whole

-- ---- books of every kind
pub always : (bytes : List ℕ) (b : Book) → read_book bytes ≡ Accepted b → Always b
always bytes b e = always_in_order b (any_read bytes b e)

pub follows : (h : Header) (g : Graph) → InOrder h g → Follows h g
follows = in_order_follows

pub never_unreachable : NeverUnreachable
never_unreachable = query_never_unreachable

-- ---- refusals 10 and 11 come only under their conditions
pub refused_when_full : OnlyUnder ProvisionalCacheFull Full
refused_when_full = only_when_full

pub refused_on_conflict : OnlyUnder CacheConflict Conflict
refused_on_conflict = only_on_conflict

-- ---- after document 02's pop no entry has a head off the stack
pub pop_keeps_heads : PopKeepsHeads
pop_keeps_heads = keeps_heads_lem

-- ---- in every cache that queries leave from zeros, each held slot says how often the goal's part was run
pub passes_counted : PassesCounted
passes_counted = counted_from_zeros

-- ---- and nothing else depends on it
pub passes_unread : PassesUnread
passes_unread = unread
