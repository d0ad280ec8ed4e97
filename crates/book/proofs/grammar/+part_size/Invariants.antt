use Rattle.std.proofs.Common.{◌≡◌, ◌≤◌, ◌-◌, length, drop}
use Rattle.definition.specs.Reader.{read_part, read_parts}
use Rattle.book.specs.Lines.{lines_in}
use Rattle.book.specs.Grammar.{after_part, after_parts}
use Rattle.book.proofs.grammar.+part_size.Given as goal

abbrev pub decreases-part_size : goal.decreases-part_size
decreases-part_size l = l.nest

abbrev pub invariant-loop : goal.invariant-loop
invariant-loop l =
    (l.at ≤ length l.s)
    × (after_parts (read_parts (read_part l.goals (l.nest - 1) l.first.in_pick) (l.first.parts - l.counter) (lines_in (drop l.at l.s))) ≡ after_part (read_part l.goals l.nest l.in_pick (lines_in l.s)))
