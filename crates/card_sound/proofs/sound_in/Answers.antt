-- Counts, view, names: the first test that fails decides. Assumes nothing.
use Rattle.std.proofs.Common.{arith}
use Rattle.std.proofs.lemmas.Grind.{common_steps}
use Rattle.card.specs.Sound.{sound_in}
use Rattle.card.proofs.SoundTests.{head-count, as-table}
use Rattle.card_sound.proofs.sound_in.Goals as goal

pub counts_ok-requires : goal.counts_ok-requires
counts_ok-requires c = head-count _ c.args.card.laid c.word_at.ensures

pub returns-then-view_ok : goal.returns-then-view_ok
unfolding sound_in
returns-then-view_ok c =
    let n = head-count _ c.args.card.laid c.word_at.ensures in
    let e = as-table _ _ c.args.card.laid c.as_is-v.ensures in
    grind (arith, common_steps)

pub returns-else-view_ok : goal.returns-else-view_ok
unfolding sound_in
returns-else-view_ok c =
    let n = head-count _ c.args.card.laid c.word_at.ensures in
    let e = as-table _ _ c.args.card.laid c.as_is-v.ensures in
    grind (arith, common_steps)
