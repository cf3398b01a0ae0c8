-- Number 10 or done, by the length of the output. Assumes nothing.
use Rattle.card.proofs.LineLaws.{room-here}
use Rattle.card.proofs.ReadLaws.{got-short, got-done}
use Rattle.card_files.proofs.get_at.Goals as goal

pub returns-then-out-run : goal.returns-then-out-run
returns-then-out-run c = got-short _ _ _ _ _ c.run_at-run.ensures c.if-out-run.true

pub copy_content-requires : goal.copy_content-requires
copy_content-requires c = (room-here _ _ _ _ _ c.requires.1.1 c.requires.1.0 c.requires.0 c.run_at-run.ensures, c.if-out-run.false)

pub returns : goal.returns
returns c = got-done _ _ _ _ _ c.run_at-run.ensures c.if-out-run.false c.copy_content.ensures
