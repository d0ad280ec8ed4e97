use mathlib.Core.Path.{◌≡◌, refl, sym, ap, ◌∙◌}
use Prim.Native.Nat.{ℕ, min}
use native.Mathlib.Omega.{arith}
use lib.Bits.{bit_or}
use lib.ListN.{length, take, get_or}
use Rattle.std.specs.Prelude.{fold}
use Rattle.std.proofs.lemmas.List.Sums.{fold_more}
use Rattle.layout.proofs.NestedExtended.{extend_more, extend_all_lem, take_min}
use Rattle.layout.proofs.nested.extend.Goals as goal

pub loop-i-preserved : goal.loop-i-preserved
loop-i-preserved c =
    let l = c.loop-i in
    let child = c.args.child.now in (
      λ k is-weaker is-flag.
          extend_more l.nested k child _ l.i _ (get_or child l.i 0) (l.invariant.0 k is-weaker is-flag) (omega (arith, c.min-i-end.ensures, c.loop-i-test.true, l.auto.nested)) refl
          (ap (bit_or (get_or l.nested l.i 0)) (c.replace_weaker.ensures k is-weaker is-flag)),
      ap (λ (n : ℕ). bit_or n (get_or child l.i 0)) l.invariant.1 ∙ sym (fold_more bit_or 0 child l.i 0 (omega (arith, c.min-i-end.ensures, c.loop-i-test.true))),
    )

pub returns-clause-extended : goal.returns-clause-extended
returns-clause-extended c =
    let l = c.loop-i in
    extend_all_lem l.nested c.args.step c.args.child.now _ c.min-i-end.result l.i
    (l.invariant.0 c.args.step c.weaker_flags-weaker.ensures c.flag-flag.ensures)
    (c.min-i-end.ensures ∙ ap (λ (n : ℕ). min n (length c.args.child.now)) (sym l.auto.nested))
    c.loop-i-test.false

pub returns-clause-joined : goal.returns-clause-joined
returns-clause-joined c =
    let l = c.loop-i in
    let done : l.i ≡ c.min-i-end.result = omega (arith, l.auto.i-end, c.loop-i-test.false) in
    l.invariant.1 ∙ ap (λ (n : ℕ). fold bit_or 0 (take n c.args.child.now)) (done ∙ c.min-i-end.ensures) ∙ ap (fold bit_or 0) (take_min (length c.args.nested.now) c.args.child.now)
