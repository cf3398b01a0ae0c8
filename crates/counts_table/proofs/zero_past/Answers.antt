-- Each word goes over to what was seen; where c + 1 does not fit, there is none. Assumes nothing.
use mathlib.Core.Path.{ap, ◌∙◌}
use Prim.Native.Nat.{◌+◌}
use native.Mathlib.Omega.{arith}
use Rattle.words.specs.Lists.{every, is_zero}
use Rattle.words.proofs.EveryLaws.{seen-go, seen_end}
use Rattle.counts.proofs.GeoLaws.{counted}
use Rattle.counts.proofs.TableLaws.{table-lt, table-le}
use Rattle.counts_table.proofs.OneWalk.{drop_min}
use Rattle.counts_table.proofs.zero_past.Goals as goal

pub loop-i-preserved : goal.loop-i-preserved
loop-i-preserved c =
    seen-go is_zero _ 0 c.loop-i.i c.loop-i.ok _ (table-lt _ _ c.args.card.laid _ (omega (arith, counted c.args.card.geo c.crash_counts-i-end.ensures))) (ap is_zero c.word_in.ensures) c.loop-i.invariant

pub returns : goal.returns
returns c =
    let e = counted c.args.card.geo c.crash_counts-i-end.ensures in
    seen_end is_zero _ 0 c.loop-i.i c.loop-i.ok (table-le _ _ c.args.card.laid _ (omega (arith, e, c.loop-i-test.false))) c.loop-i.invariant
    ∙ ap (every is_zero) (drop_min _ (c.args.c.0 + 1) _ (table-le _ _ c.args.card.laid _ (omega arith)) c.saturating_add-i.ensures)
