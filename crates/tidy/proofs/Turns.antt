-- The parts of a node, written one after the other: what stands in the output after each turn.
use mathlib.Core.Bool.{Bool, ◌&&◌, false, true}
use mathlib.Core.List.{List, [], ◌∷◌, ◌++◌, append-nil}
use mathlib.Core.Option.{some}
use mathlib.Core.Path.{◌∙◌, ◌≡◌, ap, ap₂, refl, subst, sym}
use Prim.Native.Nat.{◌*◌, ◌+◌, ◌-◌, ◌<◌, ◌≤◌, suc, ℕ}
use native.Mathlib.Omega.{arith}
use lib.Dec.{T, eqb}
use lib.ListN.{drop, length, length-append, length-drop, take}
use lib.Seq.{drop-drop}
use Rattle.definition.specs.Part.{Call, End, Node, Op, Part, Parts, Then, UndecidedLine}
use Rattle.definition.specs.Reader.{TakenPart, TakenParts, read_part, read_parts}
use Rattle.definition.specs.declared.format.Line.{Line}
use Rattle.definition.proofs.Lists.{part_from_lem}
use Rattle.soundness.proofs.Logic.{clash, of_true}
use Rattle.buffer.specs.Regions.{region}
use Rattle.buffer.proofs.Regions.{length_overwrite, length_region}
use Rattle.book.specs.Codes.{code_of}
use Rattle.book.specs.Lines.{field_in, line_in, lines_in}
use Rattle.book.proofs.Views.{First, of_some, uncons}
use Rattle.book.proofs.Walk.{has_line, viewed}
use Rattle.tidy.specs.declared.part.Sizes.{Sizes}
use Rattle.tidy.specs.declared.part.Joined.{Joined}
use Rattle.tidy.specs.Rules.{append, is_list}
use Rattle.tidy.specs.Tidy.{join, join_all, joins, node_or, tidy_part, tidy_parts}
use Rattle.tidy.specs.Write.{call_line, count, line_with, op_code, part_lines, parts_lines, write_line, write_lines, write_part}
use Rattle.tidy.specs.Engine.{StartsWithin, WroteAs, WrotePart, dropped_if, headed, headed_length, is_only, is_spliced, joined_if, line_dropped}
use Rattle.book.specs.Codes.{is_node}
use Rattle.tidy.proofs.Parts.{append_assoc, append_end, is_alone, is_joined, joins_list, joins_same}
use Rattle.tidy.proofs.Fits.{count_sizes, size, size_some, sizes}
use Rattle.tidy.proofs.Fields.{length_lines}
use Rattle.tidy.proofs.Written.{op_small, part_lines_lem, parts_lines_lem}
use Rattle.tidy.proofs.Steps.{alone_count, bytes_append, count_append, first_code, joined_more, kept, lines_append, node_lines, only_lines, spliced, tells}
use Rattle.tidy.proofs.Places.{Back, lent_length, back_drop, back_length, back_region, back_same, code_in, dropped_take, first_in, headed_take, line_room, others_in}
use Rattle.tidy.proofs.Reading.{NodeRead, group_list, leaf_read, node_read, op_code_lem, op_at}

-- ---- the bytes of parts
abbrev pub parts_bytes : Parts → List ℕ
parts_bytes ps = write_lines (parts_lines ps)

pub part_length : (p : Part) → length (write_part p) ≡ 16 * size p
part_length p = length_lines (part_lines p) ∙ ap (λ n. 16 * n) (part_lines_lem p)

pub parts_length : (ps : Parts) → length (parts_bytes ps) ≡ 16 * sizes ps
parts_length ps = length_lines (parts_lines ps) ∙ ap (λ n. 16 * n) (parts_lines_lem ps)

-- ---- the part that stands at the front of s joins the parts of an op
module _ (code : ℕ) (node : is_node (code_of code) ≡ true) (p : Part) (s : List ℕ) (n : ℕ) (h : take n s ≡ write_part p)
    (e : n ≡ length (write_part p)) (few : n < 16000) where
  abbrev op : Op
  op = op_at code

  first_code_lem : (q : Part) → take n s ≡ write_part q → n ≡ length (write_part q) → field_in s 0 ≡ first_code q
  first_code_lem (Call goal kind lower) g f = code_in s n (call_line goal kind lower) [] g f (omega arith)
  first_code_lem (Node o ps) g f = code_in s n (line_with (op_code o) (count ps)) (parts_lines ps) g f (omega (arith, op_small o))
  first_code_lem UndecidedLine g f = code_in s n (line_with 6 0) [] g f (omega arith)

  is_spliced_lem : is_spliced code s ≡ is_joined op p
  is_spliced_lem =
      ap₂ (λ a b. a && eqb b code) (group_list code) (first_code_lem p h e)
      ∙ ap (λ k. is_list op && eqb (first_code p) k) (sym (op_code_lem code node))
      ∙ go (is_list op) refl p
    where
      go : (b : Bool) → is_list op ≡ b → (q : Part) → (b && eqb (first_code q) (op_code op)) ≡ is_joined op q
      go true l q = sym (tells op q (of_true _ l))
      go false l (Call goal kind lower) = refl
      go false l (Node inner ps) = sym (not_joined (joins op inner) refl)
        where
          not_joined : (b : Bool) → joins op inner ≡ b → b ≡ false
          not_joined true j = absurd (subst T l (joins_list op inner j))
          not_joined false j = refl
      go false l UndecidedLine = refl

  -- the bytes and the number of parts that are there then
  pub record Spliced (r : Joined) (after : List ℕ) : Type 0 where
    pub bytes : take r.bytes after ≡ parts_bytes (join op p End)
    pub length_is : r.bytes ≡ length (parts_bytes (join op p End))
    pub count_is : r.count ≡ count (join op p End)
    pub fewer : r.bytes ≤ n

  as_spliced : (q : Part) → take n s ≡ write_part q → n ≡ length (write_part q) → n ≤ length s → is_joined op q ≡ true
      → (take (n - 16) (dropped_if true n s) ≡ parts_bytes (join op q End))
      × ((n - 16 ≡ length (parts_bytes (join op q End))) × (field_in s 3 ≡ count (join op q End)))
  as_spliced (Call goal kind lower) g f r j = clash (cc)
  as_spliced (Node inner qs) g f r j =
      let same : join op (Node inner qs) End ≡ qs = ap (λ o. join op (Node o qs) End) (joins_same op inner j) ∙ spliced op qs (joins_list op inner j) in
      let l : Line = line_with (op_code inner) (count qs) in
      let long : n ≡ 16 * suc (sizes qs) = f ∙ part_length (Node inner qs) in
      subst (λ ps. (take (n - 16) (dropped_if true n s) ≡ parts_bytes ps) × ((n - 16 ≡ length (parts_bytes ps)) × (field_in s 3 ≡ count ps))) (sym same) (
        dropped_take s n (line_room s n l (parts_lines qs) g f) r ∙ others_in s n l (parts_lines qs) g f,
        (omega (arith, long, parts_length qs), first_in s n l (parts_lines qs) g f (omega (arith, long, count_sizes qs))),
      )
  as_spliced UndecidedLine g f r j = clash (cc)

  pub splices : n ≤ length s → Spliced (joined_if (is_spliced code s) n s) (dropped_if (is_spliced code s) n s)
  splices r = rw is_spliced_lem (go (is_joined op p) refl)
    where
      go : (b : Bool) → is_joined op p ≡ b → Spliced (joined_if b n s) (dropped_if b n s)
      go true j =
          let w = as_spliced p h e r j in
          record { bytes = w.0; length_is = w.1.0; count_is = w.1.1; fewer = omega arith }
      go false j =
          let same : join op p End ≡ Then p End = kept op p j in
          let lines : parts_bytes (Then p End) ≡ write_part p = ap write_lines (append-nil (part_lines p)) in
          record {
            bytes = h ∙ sym (ap parts_bytes same ∙ lines);
            length_is = e ∙ ap length (sym (ap parts_bytes same ∙ lines));
            count_is = ap count (sym same);
            fewer = omega arith;
          }

-- ---- the parts that were written, and those that are left
pub record Going (goals nest : ℕ) (part : List ℕ) (code : ℕ) (t : TakenPart) (out : List ℕ) (read wrote n left : ℕ) : Type 0 where
  pub inside : Bool
  pub done : Parts
  pub todo : TakenParts
  pub to_read : read_parts (read_part goals (nest - 1) inside) left (lines_in (drop read part)) ≡ some todo
  pub whole : record { part = Node (op_at code) (append done todo.parts); rest = todo.rest } ≡ t
  pub within : read ≤ length part
  pub not_more : wrote ≤ read
  pub counted : n ≡ count (join_all (op_at code) (tidy_parts done))
  pub length_is : wrote ≡ 16 + length (parts_bytes (join_all (op_at code) (tidy_parts done)))
  pub written : region 16 (wrote - 16) out ≡ parts_bytes (join_all (op_at code) (tidy_parts done))

-- of whatever book it is a part
pub Turn : (nest : ℕ) (part : List ℕ) (code : ℕ) (out : List ℕ) (read wrote n left : ℕ) → Type 0
Turn nest part code out read wrote n left =
    (goals : ℕ) (p : Bool) (t : TakenPart) → read_part goals nest p (lines_in part) ≡ some t → Going goals nest part code t out read wrote n left

pub starts : {goals nest : ℕ} {part : List ℕ} {l : Line} {t : TakenPart} {out : List ℕ}
    → NodeRead (read_part goals (nest - 1)) l (lines_in (drop 16 part)) t → 16 ≤ length part
    → Going goals nest part l.code t out 16 16 0 l.first
starts r room =
    record {
      inside = r.inside;
      done = End;
      todo = r.parts;
      to_read = r.read;
      whole = r.is;
      within = room;
      not_more = omega arith;
      counted = refl;
      length_is = refl;
      written = refl;
    }

module _ {goals nest : ℕ} {part : List ℕ} {code : ℕ} {t : TakenPart} {out : List ℕ} {read wrote n left : ℕ}
    (g : Going goals nest part code t out read wrote n left) where
  abbrev op' : Op
  op' = op_at code

  abbrev before : Parts
  before = join_all op' (tidy_parts g.done)

  pub line_before : 16 ≤ wrote
  line_before = omega (arith, g.length_is)

  -- as many parts as there is room for
  pub few_parts : 16 * n + 16 ≤ wrote
  few_parts = omega (arith, g.length_is, g.counted, parts_length before, count_sizes before)

  module _ (pos : 0 < left) where
    split : First (read_part goals (nest - 1) g.inside) (left - 1) (lines_in (drop read part)) g.todo
    split =
        let e : suc (left - 1) ≡ left = omega arith in
        uncons _ (left - 1) (lines_in (drop read part)) g.todo
        (ap (λ m. read_parts (read_part goals (nest - 1) g.inside) m (lines_in (drop read part))) e ∙ g.to_read)

    -- the part that comes next
    abbrev pub rest : List ℕ
    rest = take (length part - read) (drop read part)

    next_read : read_part goals (nest - 1) g.inside (lines_in rest) ≡ some split.one
    next_read = rw part_from_lem split.one_is

    pub next_starts : StartsWithin (nest - 1) rest
    next_starts = record { goals = goals; in_pick = g.inside; taken = split.one; reads = next_read }

    module _ (room : length part ≤ length out) (few : length part < 16000) (sub : List ℕ) (s : Sizes)
        (w : WrotePart (nest - 1) rest (take (length out - wrote) (drop wrote out)) sub s) where
      abbrev out_room : wrote ≤ length out
      out_room = omega (arith, g.not_more, g.within)

      wrote_as : WroteAs (part_lines (tidy_part split.one.part)) split.one.rest rest (take (length out - wrote) (drop wrote out)) sub s
      wrote_as = w goals g.inside split.one next_read

      abbrev p' : Part
      p' = tidy_part split.one.part

      sub_length : length sub ≡ length out - wrote
      sub_length = wrote_as.kept ∙ lent_length out wrote out_room

      pub line_written : 16 ≤ s.wrote
      line_written = omega (arith, wrote_as.length_is, part_length p', size_some p')

      pub read_room : s.read ≤ length part - read
      read_room = rw (part_from_lem, length-drop) at wrote_as.within

      pub wrote_room : s.wrote ≤ length sub
      wrote_room = omega (arith, sub_length, read_room, wrote_as.not_more, g.not_more, g.within)

      few_written : s.wrote < 16000
      few_written = omega (arith, wrote_as.not_more, read_room)

      -- the output with the part in it, and with the part joined
      module _ (isn : is_node (code_of code) ≡ true) (sub₂ : List ℕ) (j : Joined) where
        abbrev out₁ : List ℕ
        out₁ = Back out wrote sub

        abbrev lent : List ℕ
        lent = take (length out₁ - wrote) (drop wrote out₁)

        lent_is : lent ≡ sub
        lent_is = part_from_lem wrote out₁ ∙ back_drop out wrote out_room sub

        module _ (js : (j ≡ joined_if (is_spliced code lent) s.wrote lent) × (sub₂ ≡ dropped_if (is_spliced code lent) s.wrote lent)) where
          joined : Spliced code isn p' sub s.wrote wrote_as.written wrote_as.length_is few_written j sub₂
          joined =
              rw (js.0, js.1, lent_is)
              (splices code isn p' sub s.wrote wrote_as.written wrote_as.length_is few_written wrote_room)

          abbrev after : Parts
          after = join op' p' End

          abbrev done' : Parts
          done' = append g.done (Then split.one.part End)

          more : join_all op' (tidy_parts done') ≡ append before after
          more = joined_more op' g.done split.one.part

          more_bytes : parts_bytes (join_all op' (tidy_parts done')) ≡ parts_bytes before ++ parts_bytes after
          more_bytes =
              ap parts_bytes more ∙ ap write_lines (lines_append before after) ∙ bytes_append (parts_lines before) (parts_lines after)

          pub back_room : wrote ≤ length out₁
          back_room = omega (arith, back_length out wrote out_room sub sub_length, out_room)

          pub goes_on : Going goals nest part code t (Back out₁ wrote sub₂) (read + s.read) (wrote + j.bytes) (n + j.count) (left - 1)
          goes_on =
              record {
                inside = g.inside;
                done = done';
                todo = split.others;
                to_read =
                    ap (λ b. read_parts (read_part goals (nest - 1) g.inside) (left - 1) (lines_in b)) (sym (drop-drop s.read read part))
                    ∙ ap (λ b. read_parts (read_part goals (nest - 1) g.inside) (left - 1) (lines_in (drop s.read b))) (sym (part_from_lem read part))
                    ∙ ap (read_parts (read_part goals (nest - 1) g.inside) (left - 1)) wrote_as.rest_is
                    ∙ split.others_are;
                whole =
                    ap (λ ps. record { part = Node op' ps; rest = split.others.rest }) (append_assoc g.done (Then split.one.part End) split.others.parts)
                    ∙ ap (λ (x : TakenParts). record { part = Node op' (append g.done x.parts); rest = x.rest }) split.all_are
                    ∙ g.whole;
                within = omega (arith, read_room, g.within);
                not_more = omega (arith, joined.fewer, wrote_as.not_more, g.not_more);
                counted = omega (arith, g.counted, joined.count_is, ap count more, count_append before after);
                length_is =
                    omega (
                      arith,
                      g.length_is,
                      joined.length_is,
                      ap length more_bytes,
                      length-append (parts_bytes before) (parts_bytes after),
                    );
                written =
                    back_region out₁ wrote back_room sub₂ j.bytes line_before
                    ∙ ap₂ (λ x y. x ++ y) (back_same out wrote out_room sub line_before ∙ g.written) joined.bytes
                    ∙ sym more_bytes;
              }

-- ---- every part is written
dropped_length : (n : ℕ) (out : List ℕ) → 16 ≤ n → n ≤ length out → length (line_dropped n out) ≡ length out
dropped_length n out l r = length_overwrite out 0 (region 16 (n - 16) out) (omega (arith, length_region 16 (n - 16) out (omega arith)))

pub line_length : (l : Line) (out : List ℕ) → 16 ≤ length out → length (write_line l ++ drop 16 out) ≡ length out
line_length l out h = length-append (write_line l) (drop 16 out) ∙ omega (arith, length-drop 16 out)

not_alone : (op : Op) (ps : Parts) → is_list op ≡ false → is_alone op ps ≡ false
not_alone op End e = refl
not_alone op (Then p End) e = e
not_alone op (Then p (Then q ps)) e = refl

module _ {goals nest : ℕ} {part : List ℕ} {code : ℕ} {t : TakenPart} {out : List ℕ} {read wrote n left : ℕ}
    (g : Going goals nest part code t out read wrote n left) (z : left ≤ 0) (isn : is_node (code_of code) ≡ true)
    (room : wrote ≤ length out) where
  abbrev op'' : Op
  op'' = op_at code

  abbrev parts : Parts
  parts = join_all op'' (tidy_parts g.done)

  none_left : record { parts = End; rest = lines_in (drop read part) } ≡ g.todo
  none_left =
      let e : 0 ≡ left = omega arith in
      of_some (ap (λ m. read_parts (read_part goals (nest - 1) g.inside) m (lines_in (drop read part))) e ∙ g.to_read)

  all_taken : record { part = Node op'' g.done; rest = lines_in (drop read part) } ≡ t
  all_taken =
      ap (λ ps. record { part = Node op'' ps; rest = lines_in (drop read part) }) (sym (append_end g.done))
      ∙ ap (λ (x : TakenParts). record { part = Node op'' (append g.done x.parts); rest = x.rest }) none_left
      ∙ g.whole

  is_only_lem : is_only code n ≡ is_alone op'' parts
  is_only_lem =
      ap₂ (λ a k. a && eqb k 1) (group_list code) g.counted ∙ go (is_list op'') refl
    where
      go : (b : Bool) → is_list op'' ≡ b → (b && eqb (count parts) 1) ≡ is_alone op'' parts
      go true l = sym (alone_count op'' parts (of_true _ l))
      go false l = sym (not_alone op'' parts l)

  -- the node's line, or none, before them
  abbrev Node-is : ℕ → List ℕ → Type 0
  Node-is r after =
      (take r after ≡ write_part (node_or op'' parts)) × ((r ≡ length (write_part (node_or op'' parts))) × ((r ≤ wrote) × (length after ≡ length out)))

  headed_by : (b : Bool) → is_alone op'' parts ≡ b → Node-is (headed_length b wrote) (headed b code n wrote out)
  headed_by true e =
      let bytes : write_part (node_or op'' parts) ≡ parts_bytes parts = ap write_lines (only_lines op'' parts e) in (
        dropped_take out wrote (line_before g) room ∙ g.written ∙ sym bytes,
        (omega (arith, g.length_is, ap length bytes), (omega arith, dropped_length wrote out (line_before g) room)),
      )
  headed_by false e =
      let l : Line = line_with code n in
      let same : line_with (op_code op'') (count parts) ≡ l = ap₂ line_with (op_code_lem code isn) (sym g.counted) in
      let bytes : write_part (node_or op'' parts) ≡ write_line l ++ parts_bytes parts =
      ap write_lines (node_lines op'' parts e) ∙ ap (λ k. write_line k ++ parts_bytes parts) same in (
        headed_take out wrote l (line_before g) ∙ ap (λ s. write_line l ++ s) g.written ∙ sym bytes,
        (
          omega (arith, g.length_is, ap length bytes, length-append (write_line l) (parts_bytes parts)),
          (omega arith, line_length l out (omega (arith, line_before g))),
        ),
      )

  pub ends : (first after : List ℕ) → length out ≡ length first → (r : ℕ) → r ≡ headed_length (is_only code n) wrote
      → after ≡ headed (is_only code n) code n wrote out
      → WroteAs (part_lines (tidy_part t.part)) t.rest part first after (record { read = read; wrote = r })
  ends first after keeps r e f =
      let w : Node-is r after = rw (e, f, is_only_lem) (headed_by (is_alone op'' parts) refl) in
      subst (λ (x : TakenPart). WroteAs (part_lines (tidy_part x.part)) x.rest part first after (record { read = read; wrote = r })) all_taken
      (record {
        within = g.within;
        rest_is = refl;
        not_more = omega (arith, w.1.1.0, g.not_more);
        kept = w.1.1.1 ∙ keeps;
        written = w.0;
        length_is = w.1.0;
      })

-- a line that is the whole part
pub one_line : {ls rest : List Line} {l : Line} (part out : List ℕ) → ls ≡ l ∷ [] → rest ≡ lines_in (drop 16 part) → 16 ≤ length part
    → 16 ≤ length out → (after : List ℕ) → after ≡ write_line l ++ drop 16 out
    → WroteAs ls rest part out after (record { read = 16; wrote = 16 })
one_line {ls} {rest} {l} part out e r h k after a =
    record {
      within = h;
      rest_is = sym r;
      not_more = omega arith;
      kept = ap length a ∙ line_length l out k;
      written = ap (take 16) a ∙ sym (ap write_lines e);
      length_is = ap (λ x. length (write_lines x)) (sym e);
    }

-- ---- a turn, of whatever book it is a part
pub record Turned (part out : List ℕ) (read wrote : ℕ) : Type 0 where
  pub within : read ≤ length part
  pub less : wrote ≤ read
  pub line : 16 ≤ wrote
  pub fits : wrote ≤ length out

-- behind what was written
abbrev pub behind : List ℕ → ℕ → List ℕ
behind out wrote = take (length out - wrote) (drop wrote out)

-- one more part stands there
pub record PartWritten (part out : List ℕ) (read wrote : ℕ) (sub : List ℕ) (s : Sizes) : Type 0 where
  pub within : s.read ≤ length part - read
  pub line : 16 ≤ s.wrote
  pub room : s.wrote ≤ length (behind (Back out wrote sub) wrote)
  pub fits : wrote ≤ length (Back out wrote sub)

-- and is joined with those before it
pub record TurnTaken (nest : ℕ) (part : List ℕ) (code : ℕ) (before after : List ℕ) (read wrote n left : ℕ) : Type 0 where
  pub turn : Turn nest part code after read wrote n left
  pub same_length : length after ≡ length before
  pub few_bytes : wrote < 16000
  pub few_parts : n < 1000

module _ (nest : ℕ) (part : List ℕ) (code : ℕ) (out : List ℕ) (read wrote n left : ℕ) (w : StartsWithin nest part)
    (room : length part ≤ length out) (turn : Turn nest part code out read wrote n left) where
  here : Going w.goals nest part code w.taken out read wrote n left
  unfolding Turn
  here = turn w.goals w.in_pick w.taken w.reads

  fits : wrote ≤ length out
  fits = omega (arith, here.not_more, here.within)

  pub turned : Turned part out read wrote
  turned = record { within = here.within; less = here.not_more; line = line_before here; fits = fits }

  module _ (pos : 0 < left) where
    pub part_starts : StartsWithin (nest - 1) (behind part read)
    part_starts = next_starts here pos

    module _ (few : length part < 16000) (sub : List ℕ) (s : Sizes) (wr : WrotePart (nest - 1) (behind part read) (behind out wrote) sub s) where
      abbrev out₁' : List ℕ
      out₁' = Back out wrote sub

      sub_long : length sub ≡ length out - wrote
      sub_long = sub_length here pos room few sub s wr

      same_room : length out₁' ≡ length out
      same_room = back_length out wrote fits sub sub_long

      behind_length : length (behind out₁' wrote) ≡ length sub
      behind_length = ap length (part_from_lem wrote out₁' ∙ back_drop out wrote fits sub)

      pub part_written : PartWritten part out read wrote sub s
      part_written =
          record {
            within = read_room here pos room few sub s wr;
            line = line_written here pos room few sub s wr;
            room = omega (arith, behind_length, wrote_room here pos room few sub s wr);
            fits = omega (arith, same_room, fits);
          }

      module _ (isn : is_node (code_of code) ≡ true) (sub₂ : List ℕ) (j : Joined)
          (js : (j ≡ joined_if (is_spliced code (behind out₁' wrote)) s.wrote (behind out₁' wrote))
          × (sub₂ ≡ dropped_if (is_spliced code (behind out₁' wrote)) s.wrote (behind out₁' wrote))) where
        next_here : Going w.goals nest part code w.taken (Back out₁' wrote sub₂) (read + s.read) (wrote + j.bytes) (n + j.count) (left - 1)
        next_here = goes_on here pos room few sub s wr isn sub₂ j js

        next_bytes : wrote + j.bytes < 16000
        next_bytes = omega (arith, next_here.not_more, next_here.within, few)

        joined_length : length sub₂ ≡ length sub
        joined_length = ap length js.1 ∙ go (is_spliced code (behind out₁' wrote)) ∙ behind_length
          where
            go : (b : Bool) → length (dropped_if b s.wrote (behind out₁' wrote)) ≡ length (behind out₁' wrote)
            go true = dropped_length s.wrote (behind out₁' wrote) part_written.line part_written.room
            go false = refl

        pub turn_taken : TurnTaken nest part code out (Back out₁' wrote sub₂) (read + s.read) (wrote + j.bytes) (n + j.count) (left - 1)
        unfolding Turn
        turn_taken =
            record {
              turn = λ goals p t e. goes_on (turn goals p t e) pos room few sub s wr isn sub₂ j js;
              same_length = back_length out₁' wrote part_written.fits sub₂ (omega (arith, joined_length, same_room, sub_long)) ∙ same_room;
              few_bytes = next_bytes;
              few_parts = omega (arith, few_parts next_here, next_bytes);
            }

  module _ (z : left ≤ 0) (isn : is_node (code_of code) ≡ true) where
    pub last_turn : (first after : List ℕ) → length out ≡ length first → (r : ℕ) → r ≡ headed_length (is_only code n) wrote
        → after ≡ headed (is_only code n) code n wrote out → WrotePart nest part first after (record { read = read; wrote = r })
    unfolding Turn
    last_turn first after keeps r e f goals p t q = ends (turn goals p t q) z isn fits first after keeps r e f

    pub last_length : (after : List ℕ) → after ≡ headed (is_only code n) code n wrote out → length after ≡ length out
    last_length after f = ap length f ∙ go (is_only code n)
      where
        go : (b : Bool) → length (headed b code n wrote out) ≡ length out
        go true = dropped_length wrote out (line_before here) fits
        go false = line_length (line_with code n) out (omega (arith, line_before here, fits))

-- the first turn
pub first_turn : (nest : ℕ) (part : List ℕ) (l : Line) → l ≡ line_in part → is_node (code_of l.code) ≡ true → (out : List ℕ)
    → Turn nest part l.code out 16 16 0 l.first
unfolding Turn
first_turn nest part l e n out goals p t r =
    rw e (starts (node_read (viewed goals p part t nest r) (rw (← e) n)) (has_line goals p part t nest r))

-- a line that starts no node
pub only_line : (nest : ℕ) (part : List ℕ) (l : Line) → l ≡ line_in part → is_node (code_of l.code) ≡ false → (out after : List ℕ)
    → 16 ≤ length out → after ≡ write_line l ++ drop 16 out → WrotePart nest part out after (record { read = 16; wrote = 16 })
only_line nest part l e n out after room a goals p t r =
    let v = leaf_read (viewed goals p part t nest r) (rw (← e) n) in
    one_line part out v.0 v.1 (has_line goals p part t nest r) room after (rw (← e) a)
