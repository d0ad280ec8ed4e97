use Prim.Native.Nat.{ℕ}
use mathlib.Core.List.{List}
use Rattle.definition.specs.Nested.{extend_from_child}
use Rattle.stack.proofs.Child as frames
use Rattle.stack.proofs.frame.child.extend.Goals as goal

pub returns : goal.returns
returns c = let s = c in let y = c.extend_from_child in frames.nested_frame (λ (l : List ℕ). extend_from_child l s.args.step s.args.child.now) s.args.goals s.args.frame.now y.new.nested c.nested_start-start.result s.requires.long c.nested_start-start.ensures y.auto.nested y.ensures
