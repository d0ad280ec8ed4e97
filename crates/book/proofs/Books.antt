-- A book, read: the definition's refusals at each way through the code.
use mathlib.Core.Path.{◌≡◌, refl, sym, ap, ◌∙◌, subst}
use mathlib.Core.Bool.{Bool, true, false, not, ◌&&◌, and-eq-true_iff}
use mathlib.Core.Option.{Option, none, some}
use mathlib.Core.List.{List, [], ◌∷◌}
use Prim.Native.Nat.{ℕ, ◌%◌, ◌≤◌}
use native.Mathlib.Omega.{arith}
use lib.ListN.{length, drop}
use lib.Dec.{eqb, leb}
use borrow.Author.Tests.{leb-true, not-true}
use Rattle.definition.specs.declared.format.Line.{Line}
use Rattle.definition.specs.declared.format.Header.{Header}
use Rattle.definition.specs.declared.replies.Refusal.{Refusal}
use Rattle.definition.specs.Part.{Part, Book}
use Rattle.definition.specs.declared.replies.Refusal.TheVariants.{BookLength, BookLine, BookHeader, BookBody}
use Rattle.definition.specs.Reader.{TakenGoals, read_goals, end_of_body, read_body, header_in_range, header_of, read_header, length_in_range, lines_of, read_book}
use Rattle.definition.specs.Reader as reader
use Rattle.std.specs.Prelude.{Result, Ok, Err}
use Rattle.book.specs.Lines.{line_in, lines_in, lines_if, all_fit}
use Rattle.book.specs.Read.{header_read, Started, StartedIf, no_line, whole_body, StartedBy, HeaderInRange, IsBook, book_or, book_in}
use Rattle.book.proofs.Tests.{refused, held}
use Rattle.book.proofs.Lines.{lines_cons, lines_of_lem}
use Rattle.book.proofs.Heads.{in_range}

-- a length in range
pub length_fits : (n : ℕ) → length_in_range n ≡ true → (48 ≤ n) × (n ≤ 16000)
length_fits n e =
    let t = (and-eq-true_iff (eqb (n % 16) 0 && leb 48 n) (leb n 16000)).0 e in
    (leb-true 48 n ((and-eq-true_iff (eqb (n % 16) 0) (leb 48 n)).0 t.0).1, leb-true n 16000 t.1)

abbrev by_length : Bool → Option (List Line) → reader.BookRead
by_length b x = elim b [ false ↦ reader.Rejected BookLength | true ↦ elim x [ none ↦ reader.Rejected BookLine | some ls ↦ read_header ls ] ]

abbrev by_header : Bool → Line → List Line → reader.BookRead
by_header b l ls = elim b [ true ↦ read_body (header_of l) ls | false ↦ reader.Rejected BookHeader ]

abbrev by_goals : Header → Option TakenGoals → reader.BookRead
by_goals h x = elim x [ none ↦ reader.Rejected BookBody | some ps ↦ end_of_body h ps ps.rest ]

-- what is to be shown of `read`
abbrev pub ReadTo : List ℕ → List ℕ → Result Header Refusal → Type 0
ReadTo book starts r = (r ≡ header_read (read_book book)) × StartedIf (read_book book) book starts

module _ (book starts : List ℕ) where
  to : (x : reader.BookRead) → read_book book ≡ x → (r : Result Header Refusal) → r ≡ header_read x → StartedIf x book starts → ReadTo book starts r
  to x e r a b = (a ∙ ap header_read (sym e), subst (λ (y : reader.BookRead). StartedIf y book starts) (sym e) b)

  pub wrong_length : (b : Bool) → b ≡ length_in_range (length book) → not b ≡ true → ReadTo book starts (Err BookLength)
  wrong_length b e h = to (reader.Rejected BookLength) (ap (λ (x : Bool). by_length x (lines_of book)) (refused e h)) _ refl tt

  module _ (long : length_in_range (length book) ≡ true) where
    pub wrong_line : (b : Bool) → lines_of book ≡ lines_if b book → not b ≡ true → ReadTo book starts (Err BookLine)
    wrong_line b e h = to (reader.Rejected BookLine) (ap (λ (x : Bool). by_length x (lines_of book)) long ∙ ap (by_length true) (e ∙ ap (λ (x : Bool). lines_if x book) (not-true b h))) _ refl tt

    module _ (fit : lines_of book ≡ some (lines_in book)) (l : Line) (is : l ≡ line_in book) where
      in_lines : read_book book ≡ by_header (header_in_range l) l (lines_in (drop 16 book))
      in_lines =
          let room : 16 ≤ length book = (let r = length_fits (length book) long in omega arith) in
          ap (λ (x : Bool). by_length x (lines_of book)) long
          ∙ ap (by_length true) fit
          ∙ ap read_header (lines_cons book room)
          ∙ ap (λ (x : Line). by_header (header_in_range x) x (lines_in (drop 16 book))) (sym is)

      pub wrong_header : (b : Bool) → b ≡ header_in_range l → not b ≡ true → ReadTo book starts (Err BookHeader)
      wrong_header b e h = to (reader.Rejected BookHeader) (in_lines ∙ ap (λ (x : Bool). by_header x l (lines_in (drop 16 book))) (refused e h)) _ refl tt

      module _ (good : header_in_range l ≡ true) where
        taken : Option TakenGoals
        taken = read_goals l.first 0 l.first (lines_in (drop 16 book))

        in_body : read_book book ≡ by_goals (header_of l) taken
        unfolding taken
        in_body = in_lines ∙ ap (λ (x : Bool). by_header x l (lines_in (drop 16 book))) good

        not_whole : (x : Option TakenGoals) → whole_body x ≡ false → by_goals (header_of l) x ≡ reader.Rejected BookBody
        not_whole none e = refl
        not_whole (some t) e = left t.rest e
          where
            left : (ls : List Line) → no_line ls ≡ false → end_of_body (header_of l) t ls ≡ reader.Rejected BookBody
            left [] e = let z : ◌≡◌ {A = ℕ} 0 1 = cc in absurd (omega arith)
            left (k ∷ ls) e = refl

        abbrev goals_of : Header → Option TakenGoals
        goals_of h = read_goals h.goals 0 h.goals (lines_in (drop 16 book))

        pub wrong_body : (h : Header) → h ≡ header_of l → (b : Bool) → b ≡ whole_body (read_goals h.goals 0 h.goals (lines_in (drop 16 book))) → not b ≡ true → ReadTo book starts (Err BookBody)
        unfolding taken
        wrong_body h k b e n = to (reader.Rejected BookBody) (in_body ∙ not_whole taken (refused (e ∙ ap (λ (x : Header). whole_body (goals_of x)) k) n)) _ refl tt

        whole : (x : Option TakenGoals) → read_book book ≡ by_goals (header_of l) x → whole_body x ≡ true → StartedBy x l.first book starts → (h : Header) → h ≡ header_of l → ReadTo book starts (Ok h)
        whole none q e s h k = let z : ◌≡◌ {A = ℕ} 0 1 = cc in absurd (omega arith)
        whole (some t) q e s h k = to (reader.Accepted (record { header = header_of l; parts = t.parts })) (q ∙ left t.rest e) (Ok h) (ap Ok k) s
          where
            left : (ls : List Line) → no_line ls ≡ true → end_of_body (header_of l) t ls ≡ reader.Accepted (record { header = header_of l; parts = t.parts })
            left [] e = refl
            left (k ∷ ls) e = let z : ◌≡◌ {A = ℕ} 0 1 = cc in absurd (omega arith)

        pub whole_book : (h : Header) → h ≡ header_of l → (b : Bool) → b ≡ whole_body (read_goals h.goals 0 h.goals (lines_in (drop 16 book))) → not b ≡ false → StartedBy (read_goals h.goals 0 h.goals (lines_in (drop 16 book))) h.goals book starts → ReadTo book starts (Ok h)
        unfolding taken
        whole_book h k b e n s = whole taken in_body (held (e ∙ ap (λ (x : Header). whole_body (goals_of x)) k) n) (subst (λ (x : Header). StartedBy (goals_of x) x.goals book starts) k s) h k

-- ---- a book that was accepted: its lines, its header and its body
pub record ReadAs (bytes : List ℕ) (b : Book) : Type 0 where
  pub long : length_in_range (length bytes) ≡ true
  pub lines : lines_of bytes ≡ some (lines_in bytes)
  pub in_range : header_in_range (line_in bytes) ≡ true
  pub header : header_of (line_in bytes) ≡ b.header
  pub body : read_goals b.header.goals 0 b.header.goals (lines_in (drop 16 bytes)) ≡ some (record { parts = b.parts; rest = [] })

module _ (b : Book) where
  wrong : {A : Type 0} {r : Refusal} → reader.Rejected r ≡ reader.Accepted b → A
  wrong e = let z : ◌≡◌ {A = ℕ} 0 1 = cc in absurd (omega arith)

  same : {a : Book} → reader.Accepted a ≡ reader.Accepted b → a ≡ b
  same e = cc

  abbrev every : Option TakenGoals
  every = some (record { parts = b.parts; rest = [] })

  by_rest : (h : Header) (t : TakenGoals) (ls : List Line) → t.rest ≡ ls → end_of_body h t ls ≡ reader.Accepted b → (h ≡ b.header) × (some t ≡ every)
  by_rest h t [] k e =
      (ap (λ (x : Book). x.header) (same e), λ i. some (record { parts = (same e i).parts; rest = k i }))
  by_rest h t (l ∷ ls) k e = wrong e

  by_goals_lem : (h : Header) (x : Option TakenGoals) → by_goals h x ≡ reader.Accepted b → (h ≡ b.header) × (x ≡ every)
  by_goals_lem h none e = wrong e
  by_goals_lem h (some t) e = by_rest h t t.rest refl e

  by_header_lem : (l : Line) (ls : List Line) (c : Bool) → by_header c l ls ≡ reader.Accepted b
      → (c ≡ true) × ((header_of l ≡ b.header) × (read_goals l.first 0 l.first ls ≡ every))
  by_header_lem l ls true e = (refl, by_goals_lem (header_of l) (read_goals l.first 0 l.first ls) e)
  by_header_lem l ls false e = wrong e

  by_length_lem : (c d : Bool) (ls : List Line) (x : Option (List Line)) → x ≡ elim d [ true ↦ some ls | false ↦ none ]
      → by_length c x ≡ reader.Accepted b → (c ≡ true) × ((x ≡ some ls) × (read_header ls ≡ reader.Accepted b))
  by_length_lem true true ls x k e = (refl, (k, sym (ap (by_length true) k) ∙ e))
  by_length_lem true false ls x k e = wrong (sym (ap (by_length true) k) ∙ e)
  by_length_lem false d ls x k e = wrong e

  pub read_as_lem : (bytes : List ℕ) → read_book bytes ≡ reader.Accepted b → ReadAs bytes b
  read_as_lem bytes e =
      let l = by_length_lem (length_in_range (length bytes)) (all_fit bytes) (lines_in bytes) (lines_of bytes) (lines_of_lem bytes ∙ by (all_fit bytes)) e in
      let room : 16 ≤ length bytes = (let f = length_fits (length bytes) l.0 in omega (arith, f.0)) in
      let h = by_header_lem (line_in bytes) (lines_in (drop 16 bytes)) (header_in_range (line_in bytes)) (sym (ap read_header (lines_cons bytes room)) ∙ l.1.1) in
      record {
        long = l.0;
        lines = l.1.0;
        in_range = h.0;
        header = h.1.0;
        body = ap (λ (x : Header). read_goals x.goals 0 x.goals (lines_in (drop 16 bytes))) (sym h.1.0) ∙ h.1.1;
      }
    where
      by : (t : Bool) → lines_if t bytes ≡ elim t [ true ↦ some (lines_in bytes) | false ↦ none ]
      by true = refl
      by false = refl

  pub accepted_range : (bytes : List ℕ) → read_book bytes ≡ reader.Accepted b → HeaderInRange b.header
  accepted_range bytes e = let r = read_as_lem bytes e in subst HeaderInRange r.header (in_range (line_in bytes) r.in_range)

-- what `read` tells where it accepts
pub is_book : (bytes starts : List ℕ) (h : Header) → Ok h ≡ header_read (read_book bytes) → StartedIf (read_book bytes) bytes starts → IsBook bytes starts h
unfolding book_in
is_book bytes starts h e s = go (read_book bytes) refl e s
  where
    go : (x : reader.BookRead) → read_book bytes ≡ x → Ok h ≡ header_read x → StartedIf x bytes starts → IsBook bytes starts h
    go (reader.Rejected r) q e s = let z : ◌≡◌ {A = ℕ} 0 1 = cc in absurd (omega arith)
    go (reader.Accepted b) q e s =
        let i : b ≡ book_in bytes = ap book_or (sym q) in
        let k : b.header ≡ h = cc in
        record {
          accepted = q ∙ ap reader.Accepted i;
          header = ap (λ (x : Book). x.header) (sym i) ∙ k;
          in_range = subst HeaderInRange k (accepted_range b bytes q);
          started = subst (λ (n : ℕ). Started n (book_in bytes).parts bytes starts) (ap (λ (x : Header). x.goals) k) (subst (λ (ps : List Part). Started b.header.goals ps bytes starts) (ap (λ (x : Book). x.parts) i) s);
        }
