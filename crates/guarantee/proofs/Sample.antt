-- What a verdict means, used: a version of specs/Meaning.antt that says less does not give these.
use mathlib.Core.List.{List, []}
use mathlib.Core.Logic.{◌⊎◌, inl, inr}
use mathlib.Core.Option.{some}
use mathlib.Core.Path.{◌∙◌, ◌≡◌, ap, refl, sym}
use Prim.Native.Nat.{ℕ}
use native.Mathlib.Omega.{arith}
use Rattle.definition.specs.declared.format.Line.{Line}
use Rattle.definition.specs.declared.paths.PathKind.TheVariants.{Coinductive, Inductive}
use Rattle.definition.specs.declared.replies.Refusal.TheVariants.{BookLength}
use Rattle.definition.specs.Part.{Book}
use Rattle.definition.specs.Reader.{Accepted, lines_of, read_book}
use Rattle.soundness.specs.Groups.{Fits, Greatest, Least, OneKindEach, StepLine, linked, step_lines}
use Rattle.guarantee.specs.declared.Conflict.{Conflict}
use Rattle.guarantee.specs.declared.Verdict.{Verdict}
use Rattle.guarantee.specs.declared.Verdict.TheVariants.{Broken, Given, Refused}
use Rattle.guarantee.specs.Engine.{in_mask}
use Rattle.guarantee.specs.Guarantee.{guarantee_of}
use Rattle.guarantee.specs.Meaning.{Conflicting, IsOneOf, Meaning}
use Rattle.guarantee.proofs.Examples.{bridge, call, closed_bridge, rings}

abbrev tell : Verdict → ℕ
tell (Refused r) = 0
tell Given = 1
tell (Broken c) = 2

module _ (m : Meaning) where
  -- the bridge meets the condition; the one that closes does not, and its lines and goals are told
  bridge_meets : (b : Book) → read_book (rings (call 2 2)) ≡ Accepted b → OneKindEach b
  bridge_meets b e = m.given (rings (call 2 2)) b e bridge

  closed_breaks : (b : Book) → read_book (rings (call 0 1)) ≡ Accepted b → OneKindEach b → ⊥
  closed_breaks b e k =
      let n : ◌≡◌ {A = ℕ} 2 1 = ap tell (sym closed_bridge ∙ m.only_given (rings (call 0 1)) b e k) in omega arith

  closed_told : (b : Book) (ls : List Line) → read_book (rings (call 0 1)) ≡ Accepted b
      → lines_of (rings (call 0 1)) ≡ some ls
      → Conflicting b (step_lines ls) (record { inductive = 2; coinductive = 7; group = 15 })
  closed_told b ls e f = m.broken (rings (call 0 1)) b ls _ e f closed_bridge

  no_book : guarantee_of [] ≡ Refused BookLength
  no_book = m.refused [] BookLength refl

-- a conflict breaks the condition, by two steps of the book in one group
module _ (b : Book) (ss : List StepLine) (c : Conflict) (v : Conflicting b ss c) where
  breaks : OneKindEach b → ⊥
  breaks k = go (k v.s.caller)
    where
      go : Fits b Least v.s.caller ⊎ Fits b Greatest v.s.caller → ⊥
      go (inl f) = f v.t.caller v.t.goal v.t_inside
      go (inr f) = f v.s.caller v.s.goal v.s_inside

  first_line : IsOneOf v.s ss × (v.s.line ≡ c.inductive) × (v.s.kind ≡ Inductive)
  first_line = (v.s_is, v.s_line, v.s_kind)

  second_line : IsOneOf v.t ss × (v.t.line ≡ c.coinductive) × (v.t.kind ≡ Coinductive)
  second_line = (v.t_is, v.t_line, v.t_kind)

  its_goals : (k : ℕ) → in_mask c.group k ≡ linked b v.s.caller k
  its_goals = v.group
