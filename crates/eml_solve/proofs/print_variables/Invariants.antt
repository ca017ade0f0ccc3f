-- What each turn of the loop keeps: the lines of the variables below `i` are written.
use Rattle.std.specs.Io.KnownBytes.{Appends}
use Rattle.eml_solve.specs.Lines.{variable_lines}
use Rattle.eml_solve.proofs.print_variables.Given as goal

abbrev pub invariant-loop-i : goal.invariant-loop-i
invariant-loop-i g l = Appends (g.W.Write.contents l.initial.out) (g.W.Write.contents l.out) (variable_lines l.i-counter l.point)
