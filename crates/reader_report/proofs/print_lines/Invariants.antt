-- The lines of the files so far are written. Assumes nothing.
use Rattle.std.specs.Io.KnownBytes.{Appends}
use Rattle.reader_report.specs.Printed.{file_lines}
use Rattle.reader_report.proofs.print_lines.Given as goal

abbrev pub invariant-loop-i : goal.invariant-loop-i
invariant-loop-i g l = Appends (g.W.Write.contents l.initial.out) (g.W.Write.contents l.out) (file_lines l.card l.i)
