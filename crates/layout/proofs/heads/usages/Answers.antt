use mathlib.Core.Path.{sym, ap, ◌∙◌}
use mathlib.Core.Option.{Option, none, some}
use Rattle.definition.specs.Usages.{no_usages}
use Rattle.definition.specs.declared.heads.CycleHead.{CycleHead}
use Rattle.layout.proofs.Present.{head_known, head_unknown}
use Rattle.layout.proofs.heads.usages.Goals as goal

pub returns-then-has : goal.returns-then-has
returns-then-has c =
    let s = c in
    ap (λ (h : CycleHead). h.usages) c.record.ensures
    ∙ sym (ap (λ (o : Option CycleHead). elim o [ none ↦ no_usages | some h ↦ h.usages ]) (head_known s.args.goals s.args.b.now s.args.i s.requires.1 (sym c.has.ensures ∙ c.if-has.true)))

pub returns : goal.returns
returns c =
    let s = c in
    c.none.ensures
    ∙ sym (ap (λ (o : Option CycleHead). elim o [ none ↦ no_usages | some h ↦ h.usages ]) (head_unknown s.args.goals s.args.b.now s.args.i s.requires.1 (sym c.has.ensures ∙ c.if-has.false)))
