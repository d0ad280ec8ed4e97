-- The goals of a book, written one after the other.
use mathlib.Core.Bool.{false}
use mathlib.Core.List.{List, [], ◌∷◌, ◌++◌, append_assoc, append-nil}
use mathlib.Core.Option.{some}
use mathlib.Core.Path.{◌∙◌, ◌≡◌, ap, ap₂, refl, sym}
use Prim.Native.Nat.{◌+◌, ◌-◌, ◌<◌, ◌≤◌, suc, ℕ}
use native.Mathlib.Nat.{zero-add}
use native.Mathlib.Numerals.{add-one}
use native.Mathlib.Omega.{arith}
use lib.ListN.{drop, length, length-append, length-replicate, replicate, take}
use lib.Seq.{drop-drop}
use Rattle.definition.specs.Part.{Book, Part}
use Rattle.definition.specs.Reader.{Accepted, TakenGoals, TakenPart, read_book, read_goal, read_goals, read_part}
use Rattle.definition.specs.declared.format.Line.{Line}
use Rattle.definition.proofs.Lists.{part_from_lem}
use Rattle.book.specs.Lines.{line_in, lines_in}
use Rattle.book.specs.Parts.{part_read}
use Rattle.book.specs.Read.{book_in}
use Rattle.book.proofs.Bodies.{NextGoal, goal_part, goal_room, next_goal}
use Rattle.book.proofs.Books.{accepted_range, length_fits, read_as_lem}
use Rattle.book.proofs.Views.{of_some}
use Rattle.tidy.specs.declared.part.Sizes.{Sizes}
use Rattle.tidy.specs.Tidy.{tidy_goals, tidy_part}
use Rattle.tidy.specs.Write.{goals_lines, header_line, line_with, part_lines, write_line, write_lines}
use Rattle.tidy.specs.Reply.{tidy_bytes}
use Rattle.tidy.specs.Engine.{IsRead, StartsGoal, StartsWithin, WroteAs, WroteBook, WroteGoal, WrotePart}
use Rattle.tidy.proofs.Places.{Back, back_is, back_length, back_take, lent_length}
use Rattle.tidy.proofs.Fits.{length_tidy}
use Rattle.tidy.proofs.Headers.{header_same}
use Rattle.tidy.proofs.Steps.{bytes_append}
use Rattle.tidy.proofs.Turns.{line_length}

-- ---- a goal: its line, and its part
part_after : (goals g : ℕ) (s : List ℕ) (t : TakenPart) → read_goal goals g (lines_in s) ≡ some t
    → read_part goals 8 false (lines_in (take (length s - 16) (drop 16 s))) ≡ some t
unfolding part_read
part_after goals g s t e = rw part_from_lem (goal_part goals g s t e)

module _ (g : ℕ) (body : List ℕ) (w : StartsGoal g body) where
  pub starts_room : 16 ≤ length body
  starts_room = goal_room w.goals g body w.taken w.reads

  pub starts_part : StartsWithin 8 (take (length body - 16) (drop 16 body))
  starts_part =
      record { goals = w.goals; in_pick = false; taken = w.taken; reads = part_after w.goals g body w.taken w.reads }

-- the line stands in the output, and the part behind it
module _ (g : ℕ) (body out : List ℕ) (room : length body ≤ length out) (out₁ : List ℕ) (lined : out₁ ≡ write_line (line_with 1 g) ++ drop 16 out)
    (sub : List ℕ) (s : Sizes)
    (wr : WrotePart 8 (take (length body - 16) (drop 16 body)) (take (length out₁ - 16) (drop 16 out₁)) sub s) where
  module _ (goals : ℕ) (t : TakenPart) (e : read_goal goals g (lines_in body) ≡ some t) where
    part_written : WroteAs (part_lines (tidy_part t.part)) t.rest (take (length body - 16) (drop 16 body))
        (take (length out₁ - 16) (drop 16 out₁)) sub s
    part_written = wr goals false t (part_after goals g body t e)

    has_room : 16 ≤ length body
    has_room = goal_room goals g body t e

    same : length out₁ ≡ length out
    same = ap length lined ∙ line_length (line_with 1 g) out (omega (arith, has_room))

    in_room : 16 ≤ length out₁
    in_room = omega (arith, same, has_room)

    pub goal_within : s.read + 16 ≤ length body
    goal_within = omega (arith, lent_length body 16 has_room, part_written.within, has_room)

    pub goal_less : s.wrote ≤ s.read
    goal_less = part_written.not_more

    pub goal_kept : length (Back out₁ 16 sub) ≡ length out
    goal_kept = back_length out₁ 16 in_room sub (part_written.kept ∙ lent_length out₁ 16 in_room) ∙ same

    pub goal_written : WroteAs (line_with 1 g ∷ part_lines (tidy_part t.part)) t.rest body out (Back out₁ 16 sub)
        (record { read = s.read + 16; wrote = s.wrote + 16 })
    goal_written =
        let f : s.read + 16 ≡ 16 + s.read = omega arith in
        let h : s.wrote + 16 ≡ 16 + s.wrote = omega arith in
        record {
          within = goal_within;
          rest_is =
              ap (λ n. lines_in (drop n body)) f
              ∙ ap lines_in (sym (drop-drop s.read 16 body))
              ∙ ap (λ b. lines_in (drop s.read b)) (sym (part_from_lem 16 body))
              ∙ part_written.rest_is;
          not_more = omega (arith, part_written.not_more);
          kept = goal_kept;
          written =
              ap (λ n. take n (Back out₁ 16 sub)) h
              ∙ back_take out₁ 16 in_room sub s.wrote
              ∙ ap₂ (λ x y. take 16 x ++ y) lined part_written.written;
          length_is = omega (arith, part_written.length_is, length-append (write_line (line_with 1 g)) (write_lines (part_lines (tidy_part t.part))));
        }

-- ---- the goals that were written, and those that are left
goals_append : (g : ℕ) (ps qs : List Part) → goals_lines g (ps ++ qs) ≡ goals_lines g ps ++ goals_lines (g + length ps) qs
goals_append g [] qs = let e : g + 0 ≡ g = omega arith in ap (λ n. goals_lines n qs) (sym e)
goals_append g (p ∷ ps) qs =
    let e : suc g + length ps ≡ g + suc (length ps) = omega arith in
    ap (λ ls. line_with 1 g ∷ (part_lines p ++ ls)) (goals_append (suc g) ps qs ∙ ap (λ n. goals_lines (suc g) ps ++ goals_lines n qs) e)
    ∙ ap (λ ls. line_with 1 g ∷ ls) (sym (append_assoc (part_lines p) (goals_lines (suc g) ps) (goals_lines (g + suc (length ps)) qs)))

tidy_append : (ps qs : List Part) → tidy_goals (ps ++ qs) ≡ tidy_goals ps ++ tidy_goals qs
tidy_append [] qs = refl
tidy_append (p ∷ ps) qs = ap (λ rs. tidy_part p ∷ rs) (tidy_append ps qs)

abbrev goal_bytes : List Part → List ℕ
goal_bytes ps = write_lines (goals_lines 0 (tidy_goals ps))

goal_more : (ps : List Part) (p : Part)
    → goal_bytes (ps ++ (p ∷ [])) ≡ goal_bytes ps ++ write_lines (line_with 1 (length ps) ∷ part_lines (tidy_part p))
goal_more ps p =
    ap (λ qs. write_lines (goals_lines 0 qs)) (tidy_append ps (p ∷ []))
    ∙ ap write_lines (goals_append 0 (tidy_goals ps) (tidy_part p ∷ []))
    ∙ bytes_append (goals_lines 0 (tidy_goals ps)) (goals_lines (0 + length (tidy_goals ps)) (tidy_part p ∷ []))
    ∙ ap₂ (λ n ls. goal_bytes ps ++ write_lines (line_with 1 n ∷ ls)) (zero-add (length (tidy_goals ps)) ∙ length_tidy ps) (append-nil (part_lines (tidy_part p)))

pub record Writing (bytes : List ℕ) (b : Book) (out : List ℕ) (read wrote g : ℕ) : Type 0 where
  pub done : List Part
  pub todo : TakenGoals
  pub to_read : read_goals b.header.goals g (b.header.goals - g) (lines_in (drop read bytes)) ≡ some todo
  pub rest_none : todo.rest ≡ []
  pub whole : done ++ todo.parts ≡ b.parts
  pub done_count : length done ≡ g
  pub within : read ≤ length bytes
  pub not_more : wrote ≤ read
  pub written : take wrote out ≡ write_line (header_line b.header) ++ goal_bytes done
  pub length_is : wrote ≡ 16 + length (goal_bytes done)

-- of the book that the bytes say
pub Writes : (bytes out : List ℕ) (goals read wrote g : ℕ) → Type 0
Writes bytes out goals read wrote g =
    (b : Book) → read_book bytes ≡ Accepted b → goals ≡ b.header.goals → Writing bytes b out read wrote g

-- ---- the first goal, after the header
module _ (bytes : List ℕ) (goals : ℕ) (is : IsRead bytes goals) where
  long : (48 ≤ length bytes) × (length bytes ≤ 16000)
  long = length_fits (length bytes) (read_as_lem (book_in bytes) bytes is.0).long

  pub book_room : 16 ≤ length bytes
  book_room = omega (arith, long.0)

  pub few_goals : goals ≤ 64
  few_goals = omega (arith, sym is.1, (accepted_range (book_in bytes) bytes is.0).few_goals)

  pub book_few : length bytes ≤ 16000
  book_few = long.1

  pub first_goal : (l : Line) → l ≡ line_in bytes → (out after : List ℕ) → after ≡ write_line l ++ drop 16 out → Writes bytes after goals 16 16 0
  unfolding Writes
  first_goal l e out after a b r g =
      let h = read_as_lem b bytes r in
      let z : b.header.goals - 0 ≡ b.header.goals = omega arith in
      record {
        done = [];
        todo = record { parts = b.parts; rest = [] };
        to_read = ap (λ n. read_goals b.header.goals 0 n (lines_in (drop 16 bytes))) z ∙ h.body;
        rest_none = refl;
        whole = refl;
        done_count = refl;
        within = book_room;
        not_more = omega arith;
        written = ap (take 16) a ∙ ap write_line (e ∙ sym (header_same bytes b r)) ∙ sym (append-nil (write_line (header_line b.header)));
        length_is = refl;
      }

  module _ (out : List ℕ) (read wrote g : ℕ) (ws : Writes bytes out goals read wrote g) where
    here : Writing bytes (book_in bytes) out read wrote g
    unfolding Writes
    here = ws (book_in bytes) is.0 (sym is.1)

    pub goals_within : read ≤ length bytes
    goals_within = here.within

    pub goals_less : wrote ≤ read
    goals_less = here.not_more

    pub header_written : 16 ≤ wrote
    header_written = omega (arith, here.length_is)

    module _ (lt : g < goals) where
      split_at : (b : Book) → goals ≡ b.header.goals → (t : TakenGoals)
          → read_goals b.header.goals g (b.header.goals - g) (lines_in (drop read bytes)) ≡ some t
          → NextGoal b.header.goals g (b.header.goals - suc g) (lines_in (drop read bytes)) t
      split_at b e t r =
          let n : suc (b.header.goals - suc g) ≡ b.header.goals - g = omega arith in
          next_goal b.header.goals g (b.header.goals - suc g) (lines_in (drop read bytes)) t
          (ap (λ m. read_goals b.header.goals g m (lines_in (drop read bytes))) n ∙ r)

      abbrev rest : List ℕ
      rest = take (length bytes - read) (drop read bytes)

      reads_next : (b : Book) (e : goals ≡ b.header.goals) (t : TakenGoals)
          (r : read_goals b.header.goals g (b.header.goals - g) (lines_in (drop read bytes)) ≡ some t)
          → read_goal b.header.goals g (lines_in rest) ≡ some (split_at b e t r).one
      reads_next b e t r = rw part_from_lem (split_at b e t r).one_is

      pub goal_starts : StartsGoal g rest
      goal_starts =
          record {
            goals = (book_in bytes).header.goals;
            taken = (split_at (book_in bytes) (sym is.1) here.todo here.to_read).one;
            reads = reads_next (book_in bytes) (sym is.1) here.todo here.to_read;
          }

      module _ (same : length out ≡ length bytes) (sub : List ℕ) (s : Sizes) (wg : WroteGoal g rest (take (length out - wrote) (drop wrote out)) sub s) where
        fits : wrote ≤ length out
        fits = omega (arith, goals_less, goals_within, same)

        module _ (b : Book) (e : goals ≡ b.header.goals) (w : Writing bytes b out read wrote g) where
          abbrev next : NextGoal b.header.goals g (b.header.goals - suc g) (lines_in (drop read bytes)) w.todo
          next = split_at b e w.todo w.to_read

          step_as : WroteAs (line_with 1 g ∷ part_lines (tidy_part next.one.part)) next.one.rest rest (take (length out - wrote) (drop wrote out)) sub s
          step_as = wg b.header.goals next.one (reads_next b e w.todo w.to_read)

          step_within_lem : s.read ≤ length bytes - read
          step_within_lem = omega (arith, step_as.within, lent_length bytes read w.within)

          more_done : goal_bytes (w.done ++ (next.one.part ∷ [])) ≡ goal_bytes w.done ++ write_lines (line_with 1 g ∷ part_lines (tidy_part next.one.part))
          more_done =
              goal_more w.done next.one.part
              ∙ ap (λ n. goal_bytes w.done ++ write_lines (line_with 1 n ∷ part_lines (tidy_part next.one.part))) w.done_count

          goes_on : Writing bytes b (Back out wrote sub) (read + s.read) (wrote + s.wrote) (g + 1)
          goes_on =
              record {
                done = w.done ++ (next.one.part ∷ []);
                todo = next.others;
                to_read =
                    ap (λ k. read_goals b.header.goals k (b.header.goals - k) (lines_in (drop (read + s.read) bytes))) (add-one g)
                    ∙ ap (λ t. read_goals b.header.goals (suc g) (b.header.goals - suc g) (lines_in t)) (sym (drop-drop s.read read bytes))
                    ∙ ap (λ t. read_goals b.header.goals (suc g) (b.header.goals - suc g) (lines_in (drop s.read t))) (sym (part_from_lem read bytes))
                    ∙ ap (read_goals b.header.goals (suc g) (b.header.goals - suc g)) step_as.rest_is
                    ∙ next.others_are;
                rest_none = ap (λ (t : TakenGoals). t.rest) next.all_are ∙ w.rest_none;
                whole =
                    append_assoc w.done (next.one.part ∷ []) next.others.parts
                    ∙ ap (λ (t : TakenGoals). w.done ++ t.parts) next.all_are
                    ∙ w.whole;
                done_count = length-append w.done (next.one.part ∷ []) ∙ ap (λ n. n + 1) w.done_count;
                within = omega (arith, step_within_lem, w.within);
                not_more = omega (arith, step_as.not_more, w.not_more);
                written =
                    back_take out wrote fits sub s.wrote
                    ∙ ap₂ (λ x y. x ++ y) w.written step_as.written
                    ∙ append_assoc (write_line (header_line b.header)) (goal_bytes w.done) (write_lines (line_with 1 g ∷ part_lines (tidy_part next.one.part)))
                    ∙ ap (λ x. write_line (header_line b.header) ++ x) (sym more_done);
                length_is =
                    omega (
                      arith,
                      w.length_is,
                      step_as.length_is,
                      ap length more_done,
                      length-append (goal_bytes w.done) (write_lines (line_with 1 g ∷ part_lines (tidy_part next.one.part))),
                    );
              }

        pub next_goals : Writes bytes (Back out wrote sub) goals (read + s.read) (wrote + s.wrote) (g + 1)
        unfolding Writes
        next_goals b r e = goes_on b e (ws b r e)

        pub next_within : s.read ≤ length bytes - read
        next_within = step_within_lem (book_in bytes) (sym is.1) here

        pub next_less : s.wrote ≤ s.read
        next_less = (step_as (book_in bytes) (sym is.1) here).not_more

        pub next_kept : length (Back out wrote sub) ≡ length out
        next_kept = back_length out wrote fits sub ((step_as (book_in bytes) (sym is.1) here).kept ∙ lent_length out wrote fits)

    -- every goal is written, and zeros behind them
    module _ (all : goals ≤ g) (same : length out ≡ length bytes) (before sub : List ℕ) (keeps : length out ≡ length before)
        (zeros : sub ≡ replicate (length (take (length out - wrote) (drop wrote out))) 0) where
      ended : (b : Book) → goals ≡ b.header.goals → (w : Writing bytes b out read wrote g) → w.done ≡ b.parts
      ended b e w =
          let z : 0 ≡ b.header.goals - g = omega arith in
          let none_left : record { parts = []; rest = lines_in (drop read bytes) } ≡ w.todo =
          of_some (ap (λ n. read_goals b.header.goals g n (lines_in (drop read bytes))) z ∙ w.to_read) in
          sym (append-nil w.done) ∙ ap (λ (t : TakenGoals). w.done ++ t.parts) none_left ∙ w.whole

      tidied : take wrote out ≡ tidy_bytes (book_in bytes)
      tidied = here.written ∙ ap (λ ps. write_line (header_line (book_in bytes).header) ++ goal_bytes ps) (ended (book_in bytes) (sym is.1) here)

      tidied_length : wrote ≡ length (tidy_bytes (book_in bytes))
      tidied_length =
          here.length_is ∙ ap (λ ps. 16 + length (goal_bytes ps)) (ended (book_in bytes) (sym is.1) here)
          ∙ sym (length-append (write_line (header_line (book_in bytes).header)) (goal_bytes (book_in bytes).parts))

      room : wrote ≤ length out
      room = omega (arith, goals_less, goals_within, same)

      pub all_written : WroteBook bytes before (Back out wrote sub) wrote
      all_written =
          let f : length out - wrote ≡ length before - length (tidy_bytes (book_in bytes)) = omega (arith, keeps, tidied_length) in (
            tidied_length,
            back_is out wrote room sub
                ∙ ap₂ (λ x y. x ++ y) tidied (zeros ∙ ap (λ n. replicate n 0) (lent_length out wrote room ∙ f)),
          )

      pub all_kept : length (Back out wrote sub) ≡ length out
      all_kept = back_length out wrote room sub (ap length zeros ∙ length-replicate _ 0 ∙ lent_length out wrote room)
