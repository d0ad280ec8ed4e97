use mathlib.Core.Path.{sym, ◌∙◌}
use Prim.Native.Nat.{◌-◌, ◌/◌}
use Rattle.layout.specs.Frame.{frame_of}
use Rattle.stack.proofs.Values.{allowed_small, overflow_small, divided_small, less_small, depth_kept, depth_none, depth_divided, depth_less}
use Rattle.stack.proofs.frame.nested_depth.Goals as goal

pub returns-then-not-lower : goal.returns-then-not-lower
returns-then-not-lower c = let a = c.args in let v = c.available-depth in
    λ root fs. record { is = λ h e. depth_kept (frame_of a.goals a.frame.now) a.lower a.divisor v.result v.ensures.0 h root fs e c.if-not-lower.true; small = λ d e. allowed_small v.result d v.ensures.1 e }

pub returns-then-depth-eq0 : goal.returns-then-depth-eq0
returns-then-depth-eq0 c = let a = c.args in let v = c.available-depth in
    λ root fs. record { is = λ h e. depth_none (frame_of a.goals a.frame.now) a.lower a.divisor v.result v.ensures.0 h root fs e c.if-not-lower.false c.if-depth-eq0.true; small = λ d e. overflow_small d e }

pub returns-then-overflow : goal.returns-then-overflow
returns-then-overflow c = let a = c.args in let v = c.available-depth in
    λ root fs. record { is = λ h e. depth_divided (frame_of a.goals a.frame.now) a.lower a.divisor v.result v.ensures.0 h root fs e c.if-not-lower.false c.if-depth-eq0.false (sym c.overflow.ensures ∙ c.if-overflow.true); small = λ d e. allowed_small (v.result / a.divisor) d (divided_small v.result a.divisor v.ensures.1) e }

pub returns : goal.returns
returns c = let a = c.args in let v = c.available-depth in
    λ root fs. record { is = λ h e. depth_less (frame_of a.goals a.frame.now) a.lower a.divisor v.result v.ensures.0 h root fs e c.if-not-lower.false c.if-depth-eq0.false (sym c.overflow.ensures ∙ c.if-overflow.false); small = λ d e. allowed_small (v.result - 1) d (less_small v.result v.ensures.1) e }
