-- The word in the image. Assumes nothing.
use mathlib.Core.Path.{refl, sym, ◌∙◌}
use native.Mathlib.Omega.{arith}
use Rattle.counts.proofs.GeoLaws.{counted}
use Rattle.counts.proofs.TableLaws.{table_at}
use Rattle.counts_table.proofs.word_in.Goals as goal

pub word_at-requires : goal.word_at-requires
word_at-requires c = omega (arith, counted c.args.card.geo refl, c.requires, c.args.card.laid.past, c.args.card.laid.dir, c.args.card.laid.room)

pub returns : goal.returns
returns c = c.word_at.ensures ∙ sym (table_at _ _ c.args.card.laid _ (omega (arith, counted c.args.card.geo refl, c.requires)))
