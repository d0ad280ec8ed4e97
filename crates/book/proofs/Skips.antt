-- Passing over a part: so many parts are pending, and each line opens others.
use mathlib.Core.Path.{◌≡◌, refl, sym, ap, ◌∙◌}
use mathlib.Core.Bool.{Bool, true, false}
use mathlib.Core.Option.{Option, none, some}
use mathlib.Core.List.{List}
use Prim.Native.Nat.{ℕ, suc, ◌+◌, ◌*◌, ◌-◌, ◌/◌, ◌≤◌, ◌<◌}
use native.Mathlib.Omega.{arith}
use lib.ListN.{length, take, drop}
use lib.Seq.{drop-drop}
use Rattle.definition.specs.declared.format.Line.{Line}
use Rattle.definition.specs.Part.{End}
use Rattle.definition.specs.Reader.{TakenPart, TakenParts, read_parts, read_part}
use Rattle.definition.proofs.Lists.{part_from_lem}
use Rattle.book.specs.Lines.{line_in, lines_in}
use Rattle.book.specs.Grammar.{after_parts}
use Rattle.book.specs.Codes.{parts_below}
use Rattle.book.specs.Parts.{part_read, part_in, rest_in, Reads, PassedOver, StartsPart}
use Rattle.book.proofs.Lines.{lines_cons, lines_length}
use Rattle.book.proofs.Views.{never, of_some, First, uncons, cons, Looser, part_within, parts_within, part_shrinks, parts_room, parts_add, below_of}
use Rattle.book.proofs.Walk.{reads, has_line, viewed}

-- n parts are pending, and after them come the lines r
abbrev pub Pending : ℕ → ℕ → List ℕ → List Line → Type 0
Pending goals n bytes r = after_parts (read_parts (read_part goals 8 false) n (lines_in bytes)) ≡ some r

out : (p : Bool) → Looser p false
out true = tt
out false = tt

pub one_pending : (goals : ℕ) (p : Bool) (bytes : List ℕ) → Reads goals p bytes → Pending goals 1 bytes (rest_in goals p bytes)
unfolding part_read
one_pending goals p bytes h =
    let t : TakenPart = record { part = part_in goals p bytes; rest = rest_in goals p bytes } in
    let e = part_within goals 8 8 (omega arith) p false (out p) (lines_in bytes) t h in
    ap after_parts (cons (read_part goals 8 false) 0 (lines_in bytes) t (record { parts = End; rest = t.rest }) e refl)

record Taken (x : Option TakenParts) (r : List Line) : Type 0 where
  taken : TakenParts
  is : x ≡ some taken
  rest : taken.rest ≡ r

taken_of : (x : Option TakenParts) (r : List Line) → after_parts x ≡ some r → Taken x r
taken_of none r e = never e
taken_of (some t) r e = record { taken = t; is = refl; rest = of_some e }

module _ (goals n : ℕ) (bytes : List ℕ) (r : List Line) (h : Pending goals n bytes r) where
  abbrev f : List Line → Option TakenPart
  f = read_part goals 8 false

  all_taken : Taken (read_parts f n (lines_in bytes)) r
  all_taken = taken_of (read_parts f n (lines_in bytes)) r h

  -- each takes a line
  pub pending_room : n ≤ length bytes / 16
  pending_room =
      let a = parts_room f (part_shrinks goals 8 false) n (lines_in bytes) all_taken.taken all_taken.is in
      let b = lines_length bytes in
      omega arith

  pub none_pending : n ≤ 0 → lines_in bytes ≡ r
  none_pending z =
      let e : n ≡ 0 = omega arith in
      of_some (ap (λ (m : ℕ). after_parts (read_parts f m (lines_in bytes))) (sym e) ∙ h)

  module _ (pos : 0 < n) where
    split : First f (n - 1) (lines_in bytes) all_taken.taken
    split =
        let e : suc (n - 1) ≡ n = omega arith in
        uncons f (n - 1) (lines_in bytes) all_taken.taken (ap (λ (m : ℕ). read_parts f m (lines_in bytes)) e ∙ all_taken.is)

    first_read : part_read goals false bytes ≡ some split.one
    unfolding part_read
    first_read = split.one_is

    pub pending_line : 16 ≤ length bytes
    pending_line = has_line goals false bytes split.one 8 split.one_is

    pub pending_part : StartsPart bytes
    pending_part = record { goals = goals; in_pick = false; reads = reads goals false bytes split.one first_read }

    pub next_pending : Pending goals (n - 1 + parts_below (line_in bytes)) (drop 16 bytes) r
    next_pending =
        let b = below_of (read_part goals 7) (line_in bytes) (lines_in (drop 16 bytes)) split.one goals false (viewed goals false bytes split.one 8 split.one_is) in
        let w = parts_within (read_part goals 7 b.inside) f (part_within goals 7 8 (omega arith) b.inside false (out b.inside)) (parts_below (line_in bytes)) (lines_in (drop 16 bytes)) b.taken b.read in
        let c : n - 1 + parts_below (line_in bytes) ≡ parts_below (line_in bytes) + (n - 1) = omega arith in
        ap (λ (m : ℕ). after_parts (read_parts f m (lines_in (drop 16 bytes)))) c
        ∙ parts_add f (parts_below (line_in bytes)) (n - 1) (lines_in (drop 16 bytes)) b.taken w
        ∙ ap (λ (ls : List Line). after_parts (read_parts f (n - 1) ls)) b.rest
        ∙ ap after_parts split.others_are
        ∙ ap some (ap (λ (t : TakenParts). t.rest) split.all_are ∙ all_taken.rest)

-- ---- where the bytes stand in those that were handed in
abbrev pub Stands : List ℕ → List ℕ → Type 0
Stands part bytes = bytes ≡ drop (16 * (length (lines_in part) - length (lines_in bytes))) part

pub stands_first : (part : List ℕ) → Stands part part
stands_first part =
    let z : 16 * (length (lines_in part) - length (lines_in part)) ≡ 0 = omega arith in
    sym (ap (λ (n : ℕ). drop n part) z)

pub stands_next : (part bytes : List ℕ) → Stands part bytes → length bytes ≤ length part → 16 ≤ length bytes
    → Stands part (take (length bytes - 16) (drop 16 bytes))
stands_next part bytes at le room =
    rw part_from_lem
    (ap (drop 16) at ∙ drop-drop 16 (passed bytes) part ∙ ap (λ (n : ℕ). drop n part) further)
  where
    passed : List ℕ → ℕ
    passed t = 16 * (length (lines_in part) - length (lines_in t))

    further : passed bytes + 16 ≡ passed (drop 16 bytes)
    further =
        let a = lines_length part in
        let b = lines_length bytes in
        let c : length (lines_in bytes) ≡ suc (length (lines_in (drop 16 bytes))) = ap length (lines_cons bytes room) in
        omega arith

-- ---- the turns of `next`
pub PendingAfter : List ℕ → ℕ → List ℕ → Type 0
PendingAfter part n bytes = (goals : ℕ) (p : Bool) → Reads goals p part → Pending goals n bytes (rest_in goals p part)

pub next_starts : (part : List ℕ) → PendingAfter part 1 part
unfolding PendingAfter
next_starts part goals p h = one_pending goals p part h

pub next_ends : (part : List ℕ) (n : ℕ) (bytes : List ℕ) → PendingAfter part n bytes → n ≤ 0 → Stands part bytes
    → length bytes < length part → (goals : ℕ) (p : Bool) → Reads goals p part → PassedOver goals p part bytes
unfolding PendingAfter
next_ends part n bytes h z at lt goals p r =
    let e = none_pending goals n bytes (rest_in goals p part) (h goals p r) z in
    record {
      place = at ∙ ap (λ (ls : List Line). drop (16 * (length (lines_in part) - length ls)) part) e;
      lines = e;
      shorter = lt;
    }

module _ (part : List ℕ) (n : ℕ) (bytes : List ℕ) (h : PendingAfter part n bytes) (s : StartsPart part) where
  here : Pending s.goals n bytes (rest_in s.goals s.in_pick part)
  unfolding PendingAfter
  here = h s.goals s.in_pick s.reads

  pub next_room : n ≤ length bytes
  next_room = let a = pending_room s.goals n bytes _ here in omega arith

  module _ (pos : 0 < n) where
    pub next_line : 16 ≤ length bytes
    next_line = pending_line s.goals n bytes _ here pos

    pub next_part : StartsPart bytes
    next_part = pending_part s.goals n bytes _ here pos

    pub next_turn_lem : (count : ℕ) → count ≡ parts_below (line_in bytes)
        → PendingAfter part (n - 1 + count) (take (length bytes - 16) (drop 16 bytes))
    unfolding PendingAfter
    next_turn_lem count e goals p r = rw (e, part_from_lem) (next_pending goals n bytes (rest_in goals p part) (h goals p r) pos)
