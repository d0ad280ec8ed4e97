-- A derived `==` on two answers, and on two kinds, is the definition's test of their numbers.
use mathlib.Core.Path.{◌≡◌, refl, ap₂}
use lib.Dec.{eqb}
use denote.Enum.Bare.{sameb}
use denote.Enum.Declared.{tag_of}
use Rattle.definition.specs.contracts.answers.Answer.{the_type as answers}
use Rattle.definition.specs.contracts.paths.PathKind.{the_type as kinds}
use Rattle.definition.specs.declared.answers.Answer.{Answer}
use Rattle.definition.specs.declared.answers.Answer.TheVariants.{No, Yes, Undecided, Overflow}
use Rattle.definition.specs.declared.paths.PathKind.{PathKind}
use Rattle.definition.specs.declared.paths.PathKind.TheVariants.{Inductive, Unknown, Coinductive, ForcedAmbiguity}
use Rattle.definition.specs.Answers.{answer_number, same_answer}
use Rattle.definition.specs.Paths.{kind_number, same_kind}

-- a variant's place is its number
pub answer_place : (a : Answer) → tag_of answers a ≡ answer_number a
answer_place No = refl
answer_place Yes = refl
answer_place Undecided = refl
answer_place Overflow = refl

pub kind_place : (k : PathKind) → tag_of kinds k ≡ kind_number k
kind_place Inductive = refl
kind_place Unknown = refl
kind_place Coinductive = refl
kind_place ForcedAmbiguity = refl

pub equal_answers : (a b : Answer) → sameb answers a b ≡ same_answer a b
equal_answers a b = ap₂ eqb (answer_place a) (answer_place b)

pub equal_kinds : (j k : PathKind) → sameb kinds j k ≡ same_kind j k
equal_kinds j k = ap₂ eqb (kind_place j) (kind_place k)
