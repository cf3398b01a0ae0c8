-- Each word that is looked at goes over to what was seen; those that are not are 0. Assumes nothing.
use mathlib.Core.Path.{refl, ap, ◌∙◌}
use native.Mathlib.Omega.{arith}
use lib.Dec.{leb}
use Rattle.words.proofs.EveryLaws.{seen-go}
use Rattle.sectors.specs.Sectors.{sec}
use Rattle.counts.specs.Geometry.{g_n, table_of}
use Rattle.counts.specs.Stamps.{word_max}
use Rattle.counts.proofs.GeoLaws.{counted}
use Rattle.counts.proofs.TableLaws.{table-lt, table-le}
use Rattle.counts_table.proofs.OneWalk.{walk_end}
use Rattle.counts_table.proofs.table_max.Goals as goal

pub loop-i-preserved : goal.loop-i-preserved
loop-i-preserved c =
    let e = ap (leb c.word_in.result) c.top-top.ensures ∙ ap word_max c.word_in.ensures in
    seen-go word_max _ 0 c.loop-i.i c.loop-i.ok _ (table-lt _ _ c.args.card.laid _ (omega (arith, counted c.args.card.geo refl, c.judged-i-end.ensures.0))) e c.loop-i.invariant

pub returns : goal.returns
returns c =
    walk_end (table_of c.args.card.geo (sec c.args.card.bytes.now)) (g_n c.args.card.geo) c.args.c.0 c.loop-i.i _ c.loop-i.ok c.args.past (table-le _ _ c.args.card.laid _ (omega (arith, counted c.args.card.geo refl))) c.requires c.judged-i-end.ensures.1 (omega arith) c.loop-i.invariant
