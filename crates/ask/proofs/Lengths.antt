-- The lengths of cache and workspace for a book that was opened, at most 16 goals.
use Rattle.std.proofs.Common.{◌≡◌, sym, ap, subst, ◌∙◌, Bool, true, ◌&&◌, ℕ, ◌+◌, ◌*◌, ◌≤◌, leb, le-leb, List, length, take, length-take-le, arith}
use Rattle.std.proofs.Math.Nat.{mul-le-mul}
use Rattle.definition.specs.declared.format.Header.{Header}
use Rattle.definition.specs.Reader.{read_book}
use Rattle.definition.specs.CacheForm.{cache_length}
use Rattle.definition.specs.Query.{work_length}
use Rattle.book.specs.Read.{HeaderInRange}
use Rattle.book.proofs.Books.{accepted_range}
use Rattle.query.specs.Lengths.{or_zero, work_length_or0, cache_length_or0}
use Rattle.std.specs.Prelude.{Ok}
use Rattle.ask.specs.Program.{opened, Lent}
use Rattle.ask.proofs.Opening.{IsOpen, is_open}

-- ---- how long they are at most
small_cache : (goals top : ℕ) → goals ≤ 16 → top ≤ 63 → goals * (top + 2) * (goals + 4) ≤ 65536
small_cache goals top a b =
    let t : top + 2 ≤ 65 = omega arith in
    let n : goals * (top + 2) ≤ 1040 = mul-le-mul {n₁ = goals} {m₁ = top + 2} {n₂ = 16} {m₂ = 65} a t in
    let s : goals + 4 ≤ 20 = omega arith in
    let m : goals * (top + 2) * (goals + 4) ≤ 20800 = mul-le-mul {n₁ = goals * (top + 2)} {m₁ = goals + 4} {n₂ = 1040} {m₂ = 20} n s in
    omega arith

small_work : (goals : ℕ) → goals ≤ 16 → 4 * goals * (41 * goals + 24) ≤ 65536
small_work goals a =
    let n : 4 * goals ≤ 64 = omega arith in
    let s : 41 * goals + 24 ≤ 680 = omega arith in
    let m : 4 * goals * (41 * goals + 24) ≤ 43520 = mul-le-mul {n₁ = 4 * goals} {m₁ = 41 * goals + 24} {n₂ = 64} {m₂ = 680} n s in
    omega arith

-- ---- a book that was opened
module _ (bytes : List ℕ) (h : Header) (is : opened (read_book bytes) ≡ Ok h) where
  the_book : IsOpen bytes h
  the_book = is_open bytes h is

  in_range : HeaderInRange h
  in_range = subst HeaderInRange the_book.header (accepted_range the_book.book bytes the_book.accepted)

  few : h.goals ≤ 16
  few = the_book.few

  goals_fit_lem : leb 1 h.goals && leb h.goals 64 ≡ true
  goals_fit_lem i = le-leb 1 h.goals in_range.some_goals i && le-leb h.goals 64 in_range.few_goals i

  all_fit : (leb 1 h.goals && leb h.goals 64) && leb h.top 63 ≡ true
  all_fit i = goals_fit_lem i && le-leb h.top 63 in_range.top_fits i

  cache_known : (r : ℕ) → r ≡ cache_length_or0 h.goals h.top → r ≡ cache_length h
  cache_known r e = e ∙ ap (λ (b : Bool). or_zero b (h.goals * (h.top + 2) * (h.goals + 4))) all_fit

  work_known : (r : ℕ) → r ≡ work_length_or0 h.goals → r ≡ work_length h.goals
  work_known r e = e ∙ ap (λ (b : Bool). or_zero b (work_length h.goals)) goals_fit_lem

  pub cache_fits_lem : (c n : ℕ) → c ≡ cache_length_or0 h.goals h.top → n ≡ 65536 → c ≤ n
  cache_fits_lem c n e k =
      let a = cache_known c e in
      let b = small_cache h.goals h.top few in_range.top_fits in
      omega arith

  pub work_fits : (w n : ℕ) → w ≡ work_length_or0 h.goals → n ≡ 65536 → w ≤ n
  work_fits w n e k =
      let a = work_known w e in
      let b = small_work h.goals few in
      omega arith

  -- the first bytes of two buffers
  pub lent : (c w : ℕ) (xs ys : List ℕ) → c ≡ cache_length_or0 h.goals h.top → w ≡ work_length_or0 h.goals → length xs ≡ 65536 → length ys ≡ 65536 → Lent bytes (take c xs) (take w ys)
  lent c w xs ys ec ew lx ly = record {
    book = the_book.book;
    accepted = the_book.accepted;
    few = subst (λ (x : Header). x.goals ≤ 16) (sym the_book.header) few;
    cache_length_lem = length-take-le c xs (cache_fits_lem c (length xs) ec lx) ∙ cache_known c ec ∙ ap cache_length (sym the_book.header);
    work_length_lem = length-take-le w ys (work_fits w (length ys) ew ly) ∙ work_known w ew ∙ ap (λ (x : Header). work_length x.goals) (sym the_book.header);
  }
