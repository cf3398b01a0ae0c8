-- The zeros first, then C and the table. Assumes nothing.
use Rattle.std.proofs.Common.{arith}
use Rattle.std.proofs.lemmas.Grind.{common_steps}
use Rattle.card.proofs.SoundTests.{zeros-here}
use Rattle.card_sound.proofs.counts_ok.Goals as goal

pub returns-then-c-crash_counts : goal.returns-then-c-crash_counts
returns-then-c-crash_counts c =
    let e = zeros-here c.args.card.geo c.args.card.bytes.now c.zeros.ensures in grind (arith, common_steps)

pub returns-else-c-crash_counts : goal.returns-else-c-crash_counts
returns-else-c-crash_counts c =
    let e = zeros-here c.args.card.geo c.args.card.bytes.now c.zeros.ensures in grind (arith, common_steps)
