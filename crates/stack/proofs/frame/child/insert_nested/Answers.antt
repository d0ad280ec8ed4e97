use Prim.Native.Nat.{ℕ}
use mathlib.Core.List.{List}
use Rattle.definition.specs.Nested.{insert_nested}
use Rattle.stack.proofs.Child as frames
use Rattle.stack.proofs.frame.child.insert_nested.Goals as goal

pub returns : goal.returns
returns c = let s = c in let y = c.insert in frames.nested_frame (λ (l : List ℕ). insert_nested l s.args.goal s.args.paths) s.args.goals s.args.frame.now y.new.nested c.nested_start-start.result s.requires.long c.nested_start-start.ensures y.auto.nested y.ensures
