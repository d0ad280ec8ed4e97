-- A part of a book is walked by its first line, and the parts below it one by one.
use mathlib.Core.Path.{◌≡◌, refl, sym, ap, ◌∙◌}
use mathlib.Core.Bool.{Bool, true, false}
use mathlib.Core.Option.{Option, some}
use mathlib.Core.List.{List}
use Prim.Native.Nat.{ℕ, zero, suc, ◌-◌, ◌≤◌, ◌<◌}
use native.Mathlib.Omega.{arith}
use native.Mathlib.Decide.{dec_lt}
use native.Mathlib.Numerals.{sub-one}
use lib.ListN.{length, drop}
use lib.Dec.{eqb}
use Rattle.definition.specs.declared.format.Line.{Line}
use Rattle.definition.specs.Paths.{kind_of}
use Rattle.definition.specs.Part.{Op, Pick, Part, Parts, Call, Node, UndecidedLine, Then, End}
use Rattle.definition.specs.Reader.{TakenPart, TakenParts, read_parts, read_part}
use Rattle.book.specs.declared.code.Op as kinds
use Rattle.book.specs.declared.code.Code.TheVariants as codes
use Rattle.book.specs.Lines.{line_in, lines_in}
use Rattle.book.specs.Codes.{op_of, code_of}
use Rattle.book.specs.Parts.{part_read, taken_or, part_in, rest_in, Reads, StartsPart, parts_read, taken_parts_or, parts_in, rest_after, ReadsParts}
use Rattle.book.proofs.Lines.{lines_cons, lines_none}
use Rattle.book.proofs.Codes.{known_digit}
use Rattle.book.proofs.Views.{never, of_some, First, uncons, View, view, call_fits_lem, Noded, as_call, as_group, as_pick, as_undecided, not_goal, not_unknown, looser_refl, part_within}

-- ---- what was read
module _ (goals : ℕ) (p : Bool) (bytes : List ℕ) (t : TakenPart) (e : part_read goals p bytes ≡ some t) where
  pub part_is : part_in goals p bytes ≡ t.part
  unfolding part_in
  part_is = ap (λ (x : Option TakenPart). (taken_or x).part) e

  pub rest_is : rest_in goals p bytes ≡ t.rest
  unfolding rest_in
  rest_is = ap (λ (x : Option TakenPart). (taken_or x).rest) e

  pub reads : Reads goals p bytes
  reads = e ∙ λ i. some (record { part = sym part_is i; rest = sym rest_is i })

module _ (goals : ℕ) (p : Bool) (n : ℕ) (bytes : List ℕ) (t : TakenParts) (e : parts_read goals p n bytes ≡ some t) where
  parts_are : parts_in goals p n bytes ≡ t.parts
  unfolding parts_in
  parts_are = ap (λ (x : Option TakenParts). (taken_parts_or x).parts) e

  after_is : rest_after goals p n bytes ≡ t.rest
  unfolding rest_after
  after_is = ap (λ (x : Option TakenParts). (taken_parts_or x).rest) e

  reads_parts : ReadsParts goals p n bytes
  reads_parts = e ∙ λ i. some (record { parts = sym parts_are i; rest = sym after_is i })

-- ---- by the first line: a part that nests at most so deep
module _ (goals : ℕ) (p : Bool) (bytes : List ℕ) (t : TakenPart) where
  pub has_line : (nest : ℕ) → read_part goals nest p (lines_in bytes) ≡ some t → 16 ≤ length bytes
  has_line zero e = never e
  has_line (suc n) e = elim (dec_lt (length bytes) 16) [ yes h ↦ never (sym (ap (read_part goals (suc n) p) (lines_none bytes h)) ∙ e) | no h ↦ omega arith ]

  pub viewed : (nest : ℕ) → read_part goals nest p (lines_in bytes) ≡ some t → View goals p (read_part goals (nest - 1)) (line_in bytes) (lines_in (drop 16 bytes)) t
  viewed zero e = never e
  viewed (suc n) e =
      rw sub-one
      (view goals p (read_part goals n) (line_in bytes) (lines_in (drop 16 bytes)) t (sym (ap (read_part goals (suc n) p) (lines_cons bytes (has_line (suc n) e))) ∙ e))

module _ (goals : ℕ) (p : Bool) (bytes : List ℕ) (l : Line) (is : l ≡ line_in bytes) (h : Reads goals p bytes) where
  whole : TakenPart
  whole = record { part = part_in goals p bytes; rest = rest_in goals p bytes }

  seen : View goals p (read_part goals 7) l (lines_in (drop 16 bytes)) whole
  unfolding whole part_read
  seen = rw is (viewed goals p bytes whole 8 h)

  node : (op : Op) (q : Bool) → Noded op (read_part goals 7 q) l.first (lines_in (drop 16 bytes)) whole
      → (part_in goals p bytes ≡ Node op (parts_in goals q l.first (drop 16 bytes))) × ReadsParts goals q l.first (drop 16 bytes)
  unfolding whole parts_read
  node op q n = (
    ap (λ (t : TakenPart). t.part) (sym n.is) ∙ ap (Node op) (sym (parts_are goals q l.first (drop 16 bytes) n.taken n.read)),
    reads_parts goals q l.first (drop 16 bytes) n.taken n.read,
  )

  pub a_line : 16 ≤ length bytes
  unfolding whole part_read
  a_line = has_line goals p bytes whole 8 h

  -- its code is known, and no goal's
  pub no_goal_line : code_of l.code ≡ codes.Goal → ⊥
  no_goal_line = not_goal seen

  pub known_code : code_of l.code ≡ codes.Unknown → ⊥
  known_code = not_unknown seen

  pub is_call : code_of l.code ≡ codes.Call
      → (part_in goals p bytes ≡ Call l.first (kind_of l.second) (eqb l.third 1)) × (l.first < goals)
  unfolding whole
  is_call k = let v = as_call seen k in (ap (λ (t : TakenPart). t.part) (sym v.1), (call_fits_lem goals l v.0).0)

  -- the kind and the mark of a call have one digit
  pub has_digits : code_of l.code ≡ codes.Call → (l.second ≤ 3) × (l.third ≤ 1)
  has_digits k = let f = call_fits_lem goals l (as_call seen k).0 in (f.1, f.2)

  pub is_group_lem : (op : kinds.Op) → code_of l.code ≡ codes.Group op
      → (part_in goals p bytes ≡ Node (op_of op) (parts_in goals p l.first (drop 16 bytes)))
      × ReadsParts goals p l.first (drop 16 bytes)
  is_group_lem op k = node (op_of op) p (as_group seen op k)

  pub is_pick : code_of l.code ≡ codes.Pick
      → (p ≡ false)
      × ((part_in goals p bytes ≡ Node Pick (parts_in goals true l.first (drop 16 bytes)))
      × ReadsParts goals true l.first (drop 16 bytes))
  is_pick k = let v = as_pick seen k in (v.0, node Pick true v.1)

  pub is_undecided : code_of l.code ≡ codes.Undecided → part_in goals p bytes ≡ UndecidedLine
  unfolding whole
  is_undecided k = ap (λ (t : TakenPart). t.part) (sym (as_undecided seen k))

-- ---- the line of a part of some book
module _ (bytes : List ℕ) (s : StartsPart bytes) where
  pub part_line : 16 ≤ length bytes
  part_line = a_line s.goals s.in_pick bytes (line_in bytes) refl s.reads

  pub code_digit : (line_in bytes).code ≤ 6
  code_digit = known_digit (line_in bytes).code (known_code s.goals s.in_pick bytes (line_in bytes) refl s.reads)

  pub call_digits : code_of (line_in bytes).code ≡ codes.Call → ((line_in bytes).second ≤ 3) × ((line_in bytes).third ≤ 1)
  call_digits = has_digits s.goals s.in_pick bytes (line_in bytes) refl s.reads

-- ---- the parts below it, one by one
module _ (goals : ℕ) (p : Bool) (n : ℕ) (bytes : List ℕ) (h : ReadsParts goals p n bytes) where
  pub no_parts : n ≤ 0 → parts_in goals p n bytes ≡ End
  unfolding parts_read
  no_parts z = let e : n ≡ 0 = omega arith in ap (λ (m : ℕ). parts_in goals p m bytes) e ∙ parts_are goals p 0 bytes (record { parts = End; rest = lines_in bytes }) refl

  module _ (pos : 0 < n) where
    one_more : n ≡ suc (n - 1)
    one_more = omega arith

    split : First (read_part goals 7 p) (n - 1) (lines_in bytes) (record { parts = parts_in goals p n bytes; rest = rest_after goals p n bytes })
    unfolding parts_read
    split = uncons (read_part goals 7 p) (n - 1) (lines_in bytes) _ (ap (λ (m : ℕ). read_parts (read_part goals 7 p) m (lines_in bytes)) (sym one_more) ∙ h)

    first_read : part_read goals p bytes ≡ some split.one
    unfolding part_read
    first_read = part_within goals 7 8 (omega arith) p p (looser_refl p) (lines_in bytes) split.one split.one_is

    pub first_reads : Reads goals p bytes
    first_reads = reads goals p bytes split.one first_read

    -- the parts after the first
    pub others_of : Parts
    others_of = split.others.parts

    pub first_and_lem : parts_in goals p n bytes ≡ Then (part_in goals p bytes) others_of
    unfolding others_of
    first_and_lem = ap (λ (t : TakenParts). t.parts) (sym split.all_are) ∙ ap (λ (x : Part). Then x split.others.parts) (sym (part_is goals p bytes split.one first_read))

    -- it was the last
    module _ (z : n - 1 ≤ 0) (rest : List ℕ) where
      last : n - 1 ≡ 0
      last = omega arith

      nothing : parts_read goals p (n - 1) rest ≡ some (record { parts = End; rest = lines_in rest })
      unfolding parts_read
      nothing = ap (λ (m : ℕ). read_parts (read_part goals 7 p) m (lines_in rest)) last

      pub none_read : ReadsParts goals p (n - 1) rest
      none_read = reads_parts goals p (n - 1) rest _ nothing

      pub none_then : parts_in goals p n bytes ≡ Then (part_in goals p bytes) (parts_in goals p (n - 1) rest)
      unfolding others_of
      none_then =
          first_and_lem
          ∙ ap (λ (t : TakenParts). Then (part_in goals p bytes) t.parts) (of_some (sym split.others_are ∙ ap (λ (m : ℕ). read_parts (read_part goals 7 p) m split.one.rest) last))
          ∙ ap (Then (part_in goals p bytes)) (sym (parts_are goals p (n - 1) rest _ nothing))

    module _ (rest : List ℕ) (r : lines_in rest ≡ rest_in goals p bytes) where
      others : parts_read goals p (n - 1) rest ≡ some split.others
      unfolding parts_read
      others = ap (read_parts (read_part goals 7 p) (n - 1)) (r ∙ rest_is goals p bytes split.one first_read) ∙ split.others_are

      pub others_read : ReadsParts goals p (n - 1) rest
      others_read = reads_parts goals p (n - 1) rest split.others others

      pub first_then : parts_in goals p n bytes ≡ Then (part_in goals p bytes) (parts_in goals p (n - 1) rest)
      first_then =
          ap (λ (t : TakenParts). t.parts) (sym split.all_are)
          ∙ λ i. Then (sym (part_is goals p bytes split.one first_read) i) (sym (parts_are goals p (n - 1) rest split.others others) i)
