use Rattle.std.proofs.Common.{◌≡◌, ap, ◌∙◌, rules, tests}
use Rattle.std.specs.Option.{option_map}
use Rattle.std.proofs.lemmas.Iterator.Consumers.{YieldsList-from_first}
use Rattle.std.proofs.lemmas.Iterator.Search.{find_from_yields_List}
use Rattle.definition.specs.Options.{maybe_of}
use Rattle.book.specs.Lines.{lines_in}
use Rattle.soundness.specs.Groups.{step_lines}
use Rattle.guarantee.specs.declared.steps.Step.{Step}
use Rattle.guarantee.specs.Guarantee.{step_within}
use Rattle.guarantee.specs.Engine.{in_mask, step_line, steps_left}
use Rattle.guarantee.proofs.Lines.{found_line}
use Rattle.guarantee.proofs.steps.first_within.Goals as goal

pub returns : goal.returns
returns c =
    let wanted = step_within (in_mask c.args.group) c.args.kind in
    let steps = step_lines (lines_in c.args.book.now) in
    let mapped : c.map.result ≡ option_map (λ (s : Step). s.line) c.find.result = search (rules, tests) in
    ap maybe_of mapped
    ∙ found_line wanted steps c.find.result
    (find_from_yields_List wanted c.find.new.self _ c.find.result c.find.ensures.ran
    (YieldsList-from_first step_line steps_left {s = c.of_book.result} steps c.of_book.ensures)
    (λ x b q k. search (rules, tests)))
