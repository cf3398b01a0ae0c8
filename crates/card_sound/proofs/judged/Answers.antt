-- One test of the plan after the other. Assumes nothing.
use Rattle.card.proofs.ReadLaws.{plan-shape, plan-sound}
use Rattle.card_sound.proofs.judged.Goals as goal

pub returns-then-not-shape_ok-clause-refused : goal.returns-then-not-shape_ok-clause-refused
returns-then-not-shape_ok-clause-refused c = plan-shape _ c.if-not-shape_ok.ensures

pub returns-then-not-sound-clause-refused : goal.returns-then-not-sound-clause-refused
returns-then-not-sound-clause-refused c = plan-sound _ c.if-not-shape_ok.ensures c.if-not-sound.ensures
