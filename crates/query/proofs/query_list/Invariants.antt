use Rattle.query.specs.Lists.{ask_each}
use Rattle.query.proofs.Turns.{Rest}
use Rattle.query.proofs.query_list.Given as goal

abbrev pub invariant-loop-code : goal.invariant-loop-code
invariant-loop-code l = Rest l.book l.cache l.work l.left l.codes l.code-index (ask_each l.book l.initial.cache l.initial.work l.questions l.initial.codes)
