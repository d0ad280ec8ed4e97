use mathlib.Core.Path.{◌∙◌}
use Prim.Native.Nat.{◌-◌}
use native.Mathlib.Omega.{arith}
use Rattle.layout.specs.Work.{stack_of}
use Rattle.stack.proofs.Values.{allowed_small}
use Rattle.stack.proofs.Loops.{depth_root, depth_top}
use Rattle.stack.proofs.Graph.{frame_bytes_lem}
use Rattle.stack.proofs.allowed_depth_for_nested.Goals as goal

pub returns-then-height-eq0 : goal.returns-then-height-eq0
returns-then-height-eq0 c = let s = c in record { is = λ h e. depth_root h s.args.goals s.args.root s.args.height s.args.graph.now s.args.lower c.if-height-eq0.true; small = λ d e. allowed_small s.args.root d s.requires.1.1.1 e }

pub nested_depth-requires : goal.nested_depth-requires
nested_depth-requires c = let s = c in (frame_bytes_lem s.args.goals s.args.graph.now c.frame_at-f.result.now (s.args.height - 1) s.requires.0 (omega arith) c.frame_at-f.ensures, s.requires.1.1.0)

pub returns : goal.returns
returns c =
    let s = c in
    let d = c.nested_depth.ensures s.args.root (stack_of s.args.goals (s.args.height - 1) s.args.graph.now) in
    record {
      is = λ h e. d.is h e ∙ depth_top h s.args.goals s.args.root s.args.height s.args.graph.now s.args.lower c.frame_at-f.result.now (omega arith) c.frame_at-f.ensures;
      small = d.small;
    }
