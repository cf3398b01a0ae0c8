-- The part that is lent is sector i. Assumes nothing.
use Rattle.sectors.proofs.SectorLaws.{sec-part}
use Rattle.sectors.proofs.sector_at.Goals as goal

pub returns-clause-value : goal.returns-clause-value
returns-clause-value c = rw (c.offset-at.ensures, sec-part)
