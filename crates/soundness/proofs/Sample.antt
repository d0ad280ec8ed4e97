-- The theorems used: books of one goal that calls itself, by an inductive step and by a coinductive one, and a mixed
-- book.
use mathlib.Core.Bool.{Bool, false, not, true}
use mathlib.Core.Path.{◌≡◌, refl}
use native.Mathlib.Omega.{arith}
use lib.Dec.{T}
use lib.ListN.{replicate}
use Rattle.definition.specs.Query.{query}
use Rattle.definition.specs.Reader.{Accepted, read_book}
use Rattle.definition.specs.Usages.{counter_limit}
use Rattle.definition.specs.declared.answers.Answer.TheVariants.{Yes}
use Rattle.definition.specs.declared.paths.PathKind.TheVariants.{Coinductive, Inductive}
use Rattle.std.specs.Prelude.{Ok}
use Rattle.soundness.specs.Groups.{GroupsFit, OneKindEach, grouped, reaches}
use Rattle.soundness.specs.Sets.{greatest, least}
use Rattle.soundness.specs.Statement.{AllRight}
use Rattle.soundness.proofs.SampleBooks.{book, bytes, lines, mixed_book, mixed_bytes, mixed_queries, queries, torn_book, torn_bytes, workspace}
use Rattle.soundness.proofs.Reading.{any_read}
use Rattle.soundness.proofs.Choices.{test_mixed}
use Rattle.soundness.proofs.Theorems.{demand_3, mixed_books, mixed_groups}

inductive_right : AllRight (least (book Inductive)) (bytes 0) (replicate 35 0) queries
inductive_right =
    demand_3.no_coinductive_step (bytes 0) (book Inductive) (lines 0) refl refl
    (λ e h. omega arith, (λ e h. omega arith, (λ e h. omega arith, tt))) 35 queries

coinductive_right : AllRight (greatest (book Coinductive)) (bytes 2) (replicate 35 0) queries
coinductive_right =
    demand_3.no_inductive_step (bytes 2) (book Coinductive) (lines 2) refl refl
    (λ e h. omega arith, (λ e h. omega arith, (λ e h. omega arith, tt))) 35 queries

-- the first is answered No, so the goal is outside the least set; the second Yes, so it is in the greatest
pub outside_least : (reading : Bool) → T (not (least (book Inductive) reading 0))
unfolding counter_limit
outside_least = inductive_right.0.when_no refl

pub in_greatest : (reading : Bool) → T (greatest (book Coinductive) reading 0)
unfolding counter_limit
in_greatest = coinductive_right.0.when_yes refl

-- the two sets of one book differ
pub sets_differ : T (not (least (book Inductive) true 0)) × T (greatest (book Inductive) false 0)
sets_differ = (tt, tt)

-- ---- a mixed book, its choice and its order
mixed_read : read_book mixed_bytes ≡ Accepted mixed_book
mixed_read = refl

pub condition : OneKindEach mixed_book
unfolding reaches
condition = test_mixed mixed_book (any_read mixed_bytes mixed_book mixed_read) tt

pub fit : GroupsFit mixed_book
fit = mixed_groups mixed_bytes mixed_book mixed_read

mixed_right : AllRight (grouped mixed_book (fit.choice condition).0 fit.order.0) mixed_bytes (replicate 84 0)
    mixed_queries
mixed_right =
    mixed_books mixed_bytes mixed_book mixed_read (fit.choice condition).0 (fit.choice condition).1 fit.order.0
    fit.order.1 84 mixed_queries

-- the first is answered Yes and the second No, so goal 1 is in the set and goal 0 is not
pub mixed_in : (reading : Bool) → T (grouped mixed_book (fit.choice condition).0 fit.order.0 reading 1)
unfolding counter_limit
mixed_in = mixed_right.0.when_yes refl

pub mixed_out : (reading : Bool) → T (not (grouped mixed_book (fit.choice condition).0 fit.order.0 reading 0))
unfolding counter_limit
mixed_out = mixed_right.1.0.when_no refl

-- ---- the condition is needed: a goal that calls itself by a step of either kind is answered Yes, and the least set
-- does not have it
pub not_torn : (read_book torn_bytes ≡ Accepted torn_book)
    × ((query torn_bytes (replicate 35 0) workspace 0 1).response ≡ Ok Yes)
    × T (not (least torn_book true 0))
unfolding counter_limit
not_torn = (refl, refl, tt)
