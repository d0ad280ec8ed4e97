-- What a query comes to is in document 01's table.
use mathlib.Core.Path.{◌≡◌, refl, sym, subst}
use mathlib.Core.Logic.{◌≢◌, inl, inr}
use mathlib.Core.List.{List}
use Prim.Native.Nat.{ℕ, ◌≤◌}
use native.Mathlib.Omega.{arith}
use Rattle.definition.specs.declared.answers.Answer.{Answer}
use Rattle.definition.specs.declared.answers.Answer.TheVariants.{No, Yes, Undecided, Overflow}
use Rattle.definition.specs.declared.replies.Refusal.{Refusal}
use Rattle.definition.specs.declared.replies.Refusal.TheVariants.{BookLength, BookLine, BookHeader, BookBody, UnknownGoal, DepthAboveTop, CacheLength, CacheForm, WorkLength, ProvisionalCacheFull, CacheConflict, Unreachable}
use Rattle.definition.specs.Answers.{Response}
use Rattle.std.specs.Prelude.{Ok, Err}
use Rattle.definition.specs.Answers.{answer_number, refusal_number}
use Rattle.definition.specs.Query.{Reply, query}
use Rattle.soundness.proofs.Theorems.{never_unreachable}
use Rattle.query.specs.Replies.{response_code}
use Rattle.query.specs.Table.{IsAnswer, OfTable, CodeOfTable}

is_answer : (a : Answer) → IsAnswer (answer_number a)
is_answer No = omega arith
is_answer Yes = omega arith
is_answer Undecided = omega arith
is_answer Overflow = omega arith

pub some_refusal : (r : Refusal) → 1 ≤ refusal_number r
some_refusal BookLength = omega arith
some_refusal BookLine = omega arith
some_refusal BookHeader = omega arith
some_refusal BookBody = omega arith
some_refusal UnknownGoal = omega arith
some_refusal DepthAboveTop = omega arith
some_refusal CacheLength = omega arith
some_refusal CacheForm = omega arith
some_refusal WorkLength = omega arith
some_refusal ProvisionalCacheFull = omega arith
some_refusal CacheConflict = omega arith
some_refusal Unreachable = omega arith

in_table : (r : Refusal) → ◌≢◌ {A = Response} (Err r) (Err Unreachable) → refusal_number r ≤ 11
in_table BookLength ne = omega arith
in_table BookLine ne = omega arith
in_table BookHeader ne = omega arith
in_table BookBody ne = omega arith
in_table UnknownGoal ne = omega arith
in_table DepthAboveTop ne = omega arith
in_table CacheLength ne = omega arith
in_table CacheForm ne = omega arith
in_table WorkLength ne = omega arith
in_table ProvisionalCacheFull ne = omega arith
in_table CacheConflict ne = omega arith
in_table Unreachable ne = absurd (ne refl)

of_table : (r : Response) → r ≢ Err Unreachable → OfTable r
of_table (Ok a) ne = is_answer a
of_table (Err r) ne = (some_refusal r, in_table r ne)

-- `query`
pub query_table : (bytes cache work : List ℕ) (goal depth : ℕ) (r : Reply)
    → r ≡ query bytes cache work goal depth → OfTable r.response
query_table bytes cache work goal depth r e =
    let never = never_unreachable bytes cache work goal depth in
    of_table r.response (subst (λ (x : Reply). x.response ≢ Err Unreachable) (sym e) never)

-- its code
pub code_table : (r : Response) → OfTable r → CodeOfTable (response_code r)
code_table (Ok a) t = inl (omega (arith, t))
code_table (Err r) t = inr (refusal_number r, t, omega arith)
