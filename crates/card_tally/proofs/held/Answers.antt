-- The bits of the run are those of its own page. Assumes nothing.
use Rattle.std.proofs.Common.{arith}
use Rattle.sectors.proofs.SectorLaws.{sec-part}
use Rattle.card.proofs.ViewLaws.{page-room}
use Rattle.card.proofs.TallyPages.{held_none, held-lent}
use Rattle.card_tally.proofs.held.Goals as goal

pub returns-then-k-eq0 : goal.returns-then-k-eq0
returns-then-k-eq0 c = held_none _ _ c.if-k-eq0.true

pub page_held-requires : goal.page_held-requires
page_held-requires c = (page-room _ _ _ _ c.args.card.laid (omega (arith, c.requires.1.1 (omega (arith, c.if-k-eq0.false)))) c.requires.0 c.page_at-page.ensures, c.requires.1.0)

pub returns : goal.returns
returns c = held-lent _ _ _ c.args.card.laid c.requires.0 _ _ (omega (arith, c.requires.1.1 (omega (arith, c.if-k-eq0.false)))) c.requires.1.0 c.page_at-page.ensures (rw (← sec-part) at c.page_held.ensures)
