-- A call line.
use Rattle.std.specs.Prelude.{eqb}
use Rattle.definition.specs.declared.format.Line.{Line}
use Rattle.definition.specs.Paths.{kind_of}
use Rattle.book.specs.declared.part.Call.{Call}

abbrev pub call_of : Line → Call
call_of l = record { goal = l.first; step = kind_of l.second; lower = eqb l.third 1 }
