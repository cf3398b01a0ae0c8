-- Too short, a geometry outside the limits, or the length decides. Assumes nothing.
use Rattle.std.proofs.Common.{arith}
use Rattle.std.proofs.lemmas.Grind.{common_steps}
use Rattle.card.specs.Sound.{shape_ok}
use Rattle.card.proofs.SoundTests.{shape-short}
use Rattle.card_sound.proofs.shape_ok.Goals as goal

pub returns-then-card-lt512 : goal.returns-then-card-lt512
returns-then-card-lt512 c = shape-short _ c.if-card-lt512.true

pub returns-then-geo_ok : goal.returns-then-geo_ok
unfolding shape_ok
returns-then-geo_ok c = grind (arith, common_steps)

pub returns-else-geo_ok : goal.returns-else-geo_ok
unfolding shape_ok
returns-else-geo_ok c = grind (arith, common_steps)
