-- A card that is read and not refused is sound, and has as many lines as files are told. Assumes nothing.
use Rattle.reader_report.proofs.ReadZero.{read-given}
use Rattle.reader_report.proofs.print_card.Goals as goal

pub print_lines-requires : goal.print_lines-requires
print_lines-requires g c = read-given _ c.requires
