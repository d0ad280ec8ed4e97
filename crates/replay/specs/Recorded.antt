-- When a reply is as it was recorded, and how replies are counted.
use Rattle.std.specs.Prelude.{◌≡◌, ℕ, ◌+◌, ◌/◌, ◌%◌, ◌^◌, Bool, true, false, ◌&&◌, List, nat_le}
use Rattle.replay.specs.declared.Tally.{Tally}
use Rattle.buffer.specs.Regions.{all_zero}

-- refusals 1 to 9 leave the workspace as it was; all others, and accepted queries, fill it with zeros
abbrev pub WorkLeft : ℕ → List ℕ → List ℕ → Type 0
WorkLeft refusal work before =
    elim (nat_le 1 refusal && nat_le refusal 9) [ true ↦ work ≡ before | false ↦ all_zero work ≡ true ]

-- code: answer + 256 * refusal
pub record AsRecorded (code recorded : ℕ) (cache after work before : List ℕ) : Type 0 where
  pub same_code : code ≡ recorded
  pub same_cache : cache ≡ after
  pub same_work : WorkLeft (code / 256) work before

-- ---- the tally; its numbers are 64 bits wide
abbrev pub one_more : ℕ → ℕ
one_more n = (n + 1) % 2 ^ 64

abbrev pub with_book : Tally → Tally
with_book t = record { books = one_more t.books; queries = t.queries; differences = t.differences }

abbrev pub with_query : Bool → Tally → Tally
with_query true t = record { books = t.books; queries = one_more t.queries; differences = t.differences }
with_query false t = record { books = t.books; queries = one_more t.queries; differences = one_more t.differences }
