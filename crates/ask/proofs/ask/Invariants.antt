use Rattle.ask.specs.Program.{Ready}
use Rattle.ask.proofs.ask.Given as goal

abbrev pub invariant-loop : goal.invariant-loop
invariant-loop g l = Ready l.book l.cache l.work
