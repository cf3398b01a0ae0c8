-- `counts::table_word` meets its contract: past the table, or the word in the image. Assumes nothing.
use mathlib.Core.Path.{sym, ◌∙◌}
use native.Mathlib.Omega.{arith}
use Rattle.counts.proofs.GeoLaws.{counted}
use Rattle.counts.proofs.TableLaws.{table_at, table-past}
use Rattle.counts.proofs.table_word.Goals as goal

pub returns-then-crash_counts-cc : goal.returns-then-crash_counts-cc
returns-then-crash_counts-cc c = let e = counted c.args.card.geo c.crash_counts.ensures in sym (table-past _ _ c.args.card.laid _ (omega (arith, e, c.if-crash_counts-cc.true)))

pub word_at-requires : goal.word_at-requires
word_at-requires c = let e = counted c.args.card.geo c.crash_counts.ensures in omega (arith, e, c.if-crash_counts-cc.false, c.args.card.laid.past, c.args.card.laid.dir, c.args.card.laid.room)

pub returns : goal.returns
returns c = let e = counted c.args.card.geo c.crash_counts.ensures in c.word_at.ensures ∙ sym (table_at _ _ c.args.card.laid _ (omega (arith, e, c.if-crash_counts-cc.false)))
