-- There is a line at each place before the files end. Assumes nothing.
use native.Mathlib.Omega.{arith}
use Rattle.reader_report.proofs.ReadZero.{line-there}
use Rattle.reader_report.proofs.print_lines.Goals as goal

pub unwrap-line-requires : goal.unwrap-line-requires
unwrap-line-requires g c = line-there _ _ _ c.requires.0 c.requires.1.0 (omega arith) c.read_line_in.ensures
