use Rattle.layout.proofs.Counts.{number_forced, number_coinductive, number_unknown, number_none}
use borrow.Author.Rules.{rules}
use Rattle.layout.proofs.steps.latest.Goals as goal

pub returns-then-steps-ge-FORCED : goal.returns-then-steps-ge-FORCED
returns-then-steps-ge-FORCED c = number_forced c.args.steps (search rules)

pub returns-then-steps-ge-COINDUCTIVE : goal.returns-then-steps-ge-COINDUCTIVE
returns-then-steps-ge-COINDUCTIVE c = number_coinductive c.args.steps (search rules) (search rules)

pub returns-then-steps-ge-UNKNOWN : goal.returns-then-steps-ge-UNKNOWN
returns-then-steps-ge-UNKNOWN c = number_unknown c.args.steps (search rules) (search rules)

pub returns : goal.returns
returns c = number_none c.args.steps (search rules)
