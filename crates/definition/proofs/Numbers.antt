-- Facts on small numbers.
use mathlib.Core.Path.{◌≡◌, refl, sym, ap, ◌∙◌}
use Prim.Native.Nat.{◌<◌}
use lib.Dec.{T, eqb→eq, lit<}
use Rattle.definition.specs.declared.answers.Answer.{Answer}
use Rattle.definition.specs.declared.answers.Answer.TheVariants.{No, Yes, Undecided, Overflow}
use Rattle.definition.specs.declared.paths.PathKind.{PathKind}
use Rattle.definition.specs.declared.paths.PathKind.TheVariants.{Inductive, Unknown, Coinductive, ForcedAmbiguity}
use Rattle.definition.specs.Paths.{kind_number, kind_of}
use Rattle.definition.specs.declared.replies.Refusal.{Refusal}
use Rattle.definition.specs.declared.replies.Refusal.TheVariants.{BookLength, BookLine, BookHeader, BookBody, UnknownGoal, DepthAboveTop, CacheLength, CacheForm, WorkLength, ProvisionalCacheFull, CacheConflict, Unreachable}
use Rattle.definition.specs.Answers.{answer_number, answer_of, refusal_number, same_answer}

-- an answer by its number
pub answer_back : (a : Answer) → answer_of (answer_number a) ≡ a
answer_back No = refl
answer_back Yes = refl
answer_back Undecided = refl
answer_back Overflow = refl

pub same→≡ : (a b : Answer) → T (same_answer a b) → a ≡ b
same→≡ a b t = sym (answer_back a) ∙ ap answer_of (eqb→eq (answer_number a) (answer_number b) t) ∙ answer_back b

-- a kind by its number
pub kind_back : (k : PathKind) → kind_of (kind_number k) ≡ k
kind_back Inductive = refl
kind_back Unknown = refl
kind_back Coinductive = refl
kind_back ForcedAmbiguity = refl

-- a refusal's number
pub refusal_small : (r : Refusal) → refusal_number r < 256
refusal_small BookLength = lit< tt
refusal_small BookLine = lit< tt
refusal_small BookHeader = lit< tt
refusal_small BookBody = lit< tt
refusal_small UnknownGoal = lit< tt
refusal_small DepthAboveTop = lit< tt
refusal_small CacheLength = lit< tt
refusal_small CacheForm = lit< tt
refusal_small WorkLength = lit< tt
refusal_small ProvisionalCacheFull = lit< tt
refusal_small CacheConflict = lit< tt
refusal_small Unreachable = lit< tt

pub refusal_some : (r : Refusal) → 0 < refusal_number r
refusal_some BookLength = lit< tt
refusal_some BookLine = lit< tt
refusal_some BookHeader = lit< tt
refusal_some BookBody = lit< tt
refusal_some UnknownGoal = lit< tt
refusal_some DepthAboveTop = lit< tt
refusal_some CacheLength = lit< tt
refusal_some CacheForm = lit< tt
refusal_some WorkLength = lit< tt
refusal_some ProvisionalCacheFull = lit< tt
refusal_some CacheConflict = lit< tt
refusal_some Unreachable = lit< tt
