-- One entry of a graph: its bytes, and what its reads and writes give.
use mathlib.Core.Path.{◌≡◌, sym, ap, ap₂, ◌∙◌, subst}
use mathlib.Core.Bool.{Bool}
use mathlib.Core.List.{List}
use Prim.Native.Nat.{ℕ, ◌+◌, ◌*◌, ◌-◌, ◌≤◌, ◌<◌}
use native.Mathlib.Nat.{mul-le-mul}
use native.Mathlib.Omega.{arith}
use lib.ListN.{length, set, take, drop, length-set}
use Rattle.definition.specs.declared.paths.PathKind.{PathKind}
use Rattle.definition.specs.declared.answers.Answer.{Answer}
use Rattle.definition.specs.Paths.{kind_number, kind_of, extend}
use Rattle.definition.specs.Answers.{answer_number, answer_of}
use Rattle.definition.specs.Heads.{CycleHeads}
use Rattle.definition.specs.Graph.{Entry, with_entry_heads, with_path_from_head}
use Rattle.definition.proofs.Numbers.{answer_back}
use Rattle.buffer.specs.Regions.{region, overwrite}
use Rattle.buffer.proofs.Regions.{length_region}
use Rattle.layout.specs.Blocks.{heads_size, heads_of, HeadsBlock}
use Rattle.layout.specs.Frame.{truth, frame_size}
use Rattle.layout.specs.Entry.{entry_heads_start, entry_size, entry_of}
use Rattle.layout.specs.Work.{entries_start, entry_start_from}
use Rattle.layout.proofs.Frames.{entry_byte, entry_heads_lem, with_entry_byte}
use Rattle.layout.proofs.Graphs.{entry_room}
use Rattle.stack.specs.Bytes.{GraphBytes}
use Rattle.stack.proofs.Parts.{part, returned, part_length, part_back}
use Rattle.definition.proofs.Numbers.{kind_back}
use Rattle.provisional_cache.specs.Entries.{EntryBytes, EntriesBytes, entry_bytes_from, entry_bytes, with_fields, with_longer_path}

-- a graph holds them behind its frames
pub graph_entries : (goals : ℕ) (bs : List ℕ) → GraphBytes goals bs → EntriesBytes goals (entries_start goals) bs
graph_entries goals bs g =
    let f = g.few in
    let wide : frame_size goals ≤ 4288 = omega arith in
    record { few = f; low = omega (arith, mul-le-mul f wide); long = g.long }

-- the same, of the base that is worked out
pub entries_from : (goals base : ℕ) (bs : List ℕ) → GraphBytes goals bs → base ≡ entries_start goals → EntriesBytes goals base bs
entries_from goals base bs g e = subst (λ (x : ℕ). EntriesBytes goals x bs) (sym e) (graph_entries goals bs g)

-- the bytes of an entry are an entry's
pub entry_bytes_lem : (goals base : ℕ) (bs r : List ℕ) (i : ℕ) → EntriesBytes goals base bs → i < 2 * goals → r ≡ entry_bytes_from goals base i bs → EntryBytes goals r
entry_bytes_lem goals base bs r i g lt e =
    record { few = g.few; long = ap length e ∙ length_region (entry_start_from goals base i) (entry_size goals) bs (entry_room goals base bs g.long i lt) }

-- in a graph
pub entry_at_bytes : (goals : ℕ) (bs r : List ℕ) (i : ℕ) → GraphBytes goals bs → i < 2 * goals → r ≡ entry_bytes goals i bs → EntryBytes goals r
entry_at_bytes goals bs r i g lt e = entry_bytes_lem goals (entries_start goals) bs r i (graph_entries goals bs g) lt e

-- entry i, at a, of n bytes
module _ (goals base : ℕ) (bs : List ℕ) (i a n : ℕ) (g : EntriesBytes goals base bs) (lt : i < 2 * goals) (is-a : a ≡ entry_start_from goals base i) (is-n : n ≡ entry_size goals) where
  pub part_room : a + n ≤ length bs
  part_room = subst (λ (x : ℕ). x ≤ length bs) (sym (ap₂ (λ (x y : ℕ). x + y) is-a is-n)) (entry_room goals base bs g.long i lt)

  pub part_is : part bs a (a + n) ≡ entry_bytes_from goals base i bs
  part_is = let e : a + n - a ≡ n = omega arith in ap₂ (λ (m k : ℕ). take m (drop k bs)) (e ∙ is-n) is-a

  -- it comes back with ys
  module _ (ys : List ℕ) (kept : length ys ≡ length (part bs a (a + n))) where
    pub entry_back : returned bs a (a + n) ys ≡ overwrite bs (entry_start_from goals base i) ys
    entry_back = part_back bs a (a + n) ys (omega arith) part_room kept ∙ ap (λ (x : ℕ). overwrite bs x ys) is-a

    pub entry_whole : length ys ≡ entry_size goals
    entry_whole = let e : a + n - a ≡ n = omega arith in part_length bs a (a + n) ys (omega arith) part_room kept ∙ e ∙ is-n

-- ---- a block of heads, n bytes from a on
pub heads_part : (bs : List ℕ) (a n m : ℕ) → n ≡ m → part bs a (a + n) ≡ region a m bs
heads_part bs a n m is-n = let e : a + n - a ≡ n = omega arith in ap (λ (k : ℕ). take k (drop a bs)) (e ∙ is-n)

pub entry_heads_block : (goals : ℕ) (bs r : List ℕ) → EntryBytes goals bs → r ≡ region entry_heads_start (heads_size goals) bs → HeadsBlock goals r
entry_heads_block goals bs r b e =
    let l = b.long in
    record { few = b.few; long = ap length e ∙ length_region entry_heads_start (heads_size goals) bs (omega arith) }

-- ---- writes
module _ (goals : ℕ) (bs : List ℕ) (long : length bs ≡ entry_size goals) where
  pub path_written : (path : PathKind) (k : ℕ) → k ≡ kind_number path → entry_of goals (set bs 2 k) ≡ with_path_from_head (entry_of goals bs) path
  path_written path k is =
      entry_byte goals bs long 2 k (omega arith)
      ∙ (let e = ap kind_of is ∙ kind_back path in λ t. with_path_from_head (entry_of goals bs) (e t))

  pub fields_written : (goal : ℕ) (overflow : Bool) (path : PathKind) (answer : Answer) (g o k a : ℕ) → g ≡ goal → truth o ≡ overflow → k ≡ kind_number path → a ≡ answer_number answer
      → entry_of goals (set (set (set (set bs 0 g) 1 o) 2 k) 3 a) ≡ with_fields (entry_of goals bs) goal overflow path answer
  fields_written goal overflow path answer g o k a is-g is-o is-k is-a =
      let b1 : List ℕ = set bs 0 g in
      let b2 : List ℕ = set b1 1 o in
      let b3 : List ℕ = set b2 2 k in
      let l1 : length b1 ≡ entry_size goals = length-set bs 0 g ∙ long in
      let l2 : length b2 ≡ entry_size goals = length-set b1 1 o ∙ l1 in
      let l3 : length b3 ≡ entry_size goals = length-set b2 2 k ∙ l2 in
      let e1 = entry_byte goals bs long 0 g (omega arith) in
      let e2 = entry_byte goals b1 l1 1 o (omega arith) ∙ ap (with_entry_byte 1 o) e1 in
      let e3 = entry_byte goals b2 l2 2 k (omega arith) ∙ ap (with_entry_byte 2 k) e2 in
      let e4 = entry_byte goals b3 l3 3 a (omega arith) ∙ ap (with_entry_byte 3 a) e3 in
      let ek = ap kind_of is-k ∙ kind_back path in
      let ea = ap answer_of is-a ∙ answer_back answer in
      e4 ∙ (λ t. with_fields (entry_of goals bs) (is-g t) (is-o t) (ek t) (ea t))

-- ---- the heads of one entry's bytes are written, in the n bytes from their start on
pub heads_written : (goals : ℕ) (bs : List ℕ) (n : ℕ) (ys : List ℕ) (f : CycleHeads → CycleHeads) → EntryBytes goals bs → n ≡ heads_size goals → length ys ≡ length (part bs entry_heads_start (entry_heads_start + n))
    → heads_of goals ys ≡ f (heads_of goals (part bs entry_heads_start (entry_heads_start + n))) → entry_of goals (returned bs entry_heads_start (entry_heads_start + n) ys) ≡ with_entry_heads (entry_of goals bs) (f (entry_of goals bs).heads)
unfolding entry_of
heads_written goals bs n ys f b is-n kept e =
    let long = b.long in
    let fits : entry_heads_start + n ≤ length bs = omega arith in
    let w : entry_heads_start + n - entry_heads_start ≡ n = omega arith in
    let whole : length ys ≡ heads_size goals = part_length bs entry_heads_start (entry_heads_start + n) ys (omega arith) fits kept ∙ w ∙ is-n in
    ap (entry_of goals) (part_back bs entry_heads_start (entry_heads_start + n) ys (omega arith) fits kept)
    ∙ entry_heads_lem goals bs long ys whole
    ∙ ap (with_entry_heads (entry_of goals bs)) (e ∙ ap (λ (l : List ℕ). f (heads_of goals l)) (heads_part bs entry_heads_start n (heads_size goals) is-n))

-- the path goes on
pub path_extended : (e n : Entry) (before after kind : PathKind) → n ≡ with_path_from_head e after → after ≡ extend before kind → before ≡ e.path_from_head → n ≡ with_longer_path e kind
path_extended e n before after kind is is-after is-before = is ∙ ap (with_path_from_head e) (is-after ∙ ap (λ (x : PathKind). extend x kind) is-before)
