-- Runs one after another with all sectors of the files do not meet. Assumes nothing.
use Rattle.std.proofs.Common.{eq-eqb}
use Rattle.card_order.proofs.Turns.{turns-apart}
use Rattle.card_tally.proofs.runs_apart.Goals as goal

pub returns-then-own-sectors : goal.returns-then-own-sectors
returns-then-own-sectors c = turns-apart c.args.card.geo _ _ c.requires.0 _ c.requires.1.1 c.requires.1.0 c.if-own-sectors.true

pub returns-then-one-sectors : goal.returns-then-one-sectors
returns-then-one-sectors c = turns-apart c.args.card.geo _ _ c.requires.0 _ c.round-one.ensures c.requires.1.0 c.if-one-sectors.true

pub returns-then-two-sectors : goal.returns-then-two-sectors
returns-then-two-sectors c = rw (eq-eqb _ _ c.if-two-sectors.true) (turns-apart c.args.card.geo _ _ c.requires.0 _ c.round-two.ensures c.requires.1.0 c.if-two-sectors.true)
