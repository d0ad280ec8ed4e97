-- What the verdict on a book says of its groups.
use Rattle.std.specs.Prelude.{◌≡◌, List, ℕ}
use Rattle.std.proofs.Math.Option.{some}
use Rattle.definition.specs.declared.paths.PathKind.TheVariants.{Inductive, Coinductive}
use Rattle.definition.specs.declared.format.Line.{Line}
use Rattle.definition.specs.declared.replies.Refusal.{Refusal}
use Rattle.definition.specs.Part.{Book}
use Rattle.definition.specs.Reader.{Accepted, Rejected, lines_of, read_book}
use Rattle.soundness.specs.Groups.{StepLine, step_lines, SomeStep, linked, Inside, OneKindEach}
use Rattle.guarantee.specs.declared.Conflict.{Conflict}
use Rattle.guarantee.specs.declared.Verdict.TheVariants.{Refused, Given, Broken}
use Rattle.guarantee.specs.Guarantee.{guarantee_of}
use Rattle.guarantee.specs.Engine.{in_mask}

abbrev pub IsOneOf : StepLine → List StepLine → Type 0
IsOneOf s = SomeStep (λ x. s ≡ x)

-- two step lines of the book, at the conflict's numbers, both inside one group, whose goals the mask has
pub record Conflicting (b : Book) (ss : List StepLine) (c : Conflict) : Type 0 where
  pub s : StepLine
  pub t : StepLine
  pub s_is : IsOneOf s ss
  pub t_is : IsOneOf t ss
  pub s_line : s.line ≡ c.inductive
  pub t_line : t.line ≡ c.coinductive
  pub s_kind : s.kind ≡ Inductive
  pub t_kind : t.kind ≡ Coinductive
  pub s_inside : Inside b s.caller s.caller s.goal Inductive
  pub t_inside : Inside b s.caller t.caller t.goal Coinductive
  pub group : (k : ℕ) → in_mask c.group k ≡ linked b s.caller k

pub record Meaning : Type 0 where
  pub refused : (bytes : List ℕ) (r : Refusal) → read_book bytes ≡ Rejected r → guarantee_of bytes ≡ Refused r
  -- the guarantee is given exactly where the book meets the condition
  pub given : (bytes : List ℕ) (b : Book) → read_book bytes ≡ Accepted b → guarantee_of bytes ≡ Given → OneKindEach b
  pub only_given : (bytes : List ℕ) (b : Book) → read_book bytes ≡ Accepted b → OneKindEach b → guarantee_of bytes ≡ Given
  pub broken : (bytes : List ℕ) (b : Book) (ls : List Line) (c : Conflict) → read_book bytes ≡ Accepted b
      → lines_of bytes ≡ some ls → guarantee_of bytes ≡ Broken c → Conflicting b (step_lines ls) c
