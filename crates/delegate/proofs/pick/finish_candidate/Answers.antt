use mathlib.Core.Path.{refl, ◌∙◌, subst}
use Rattle.std.proofs.lemmas.Result.{err_from_is_err_and}
use Rattle.definition.specs.declared.answers.Answer.TheVariants.{Yes}
use Rattle.definition.proofs.Equality.{equal_answers}
use Rattle.evaluation.specs.Outcomes.{FewEntries}
use Rattle.delegate.proofs.Picks.{finished, finished_refused}
use Rattle.delegate.proofs.pick.finish_candidate.Goals as goal

pub returns-in_err-done : goal.returns-in_err-done
returns-in_err-done c =
    let p = err_from_is_err_and c.from_residual.result c.from_residual.ensures.1 in
    rw (p.1, p.2) (finished_refused c.args.goals c.args.height c.args.o c.args.pick c.args.work.now _ c.in_err-done.was)

pub returns : goal.returns
returns c =
    finished c.args.goals c.args.height _ c.args.pick c.args.work.now c.merge_unless.new.work
    c.untrack.new.work c.args.o c.in_ok-done.was c.requires.1.0 c.requires.1.1.0
    (subst (FewEntries c.args.goals) c.in_ok-done.was c.requires.1.1.1) c.eq-yes.result _
    (c.eq-yes.ensures ∙ equal_answers _ Yes) refl c.merge_unless.ensures c.untrack.ensures _
    c.combine.result refl c.combine.ensures
