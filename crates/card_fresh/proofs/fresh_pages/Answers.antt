-- The loop's invariant: what is left to write makes the pages of all pairs. Assumes nothing.
use native.Mathlib.Omega.{arith}
use borrow.Author.Rules.{rules}
use Rattle.counts.proofs.TableLaws.{dir-is}
use Rattle.card.proofs.MakeLaws.{fresh-turn, fresh-end}
use Rattle.card_fresh.proofs.fresh_pages.Goals as goal

pub write_sector-requires : goal.write_sector-requires
write_sector-requires c =
    (omega (arith, dir-is c.args.g, c.requires.dir, c.requires.room, c.pair.ensures.low), search rules)

pub write_sector-requires-in-loop-p : goal.write_sector-requires-in-loop-p
write_sector-requires-in-loop-p c =
    (omega (arith, dir-is c.args.g, c.requires.dir, c.requires.room, c.pair.ensures.high, c.write_sector.auto.card), search rules)

pub loop-p-preserved : goal.loop-p-preserved
loop-p-preserved c =
    let l = c.loop-p in
    (fresh-turn _ _ _ (omega arith) l.invariant.0 c.fresh_page.ensures (rw c.pair.ensures.low at c.write_sector.ensures) (rw c.pair.ensures.high at c.write_sector-in-loop-p.ensures), omega (arith, c.write_sector.auto.card, c.write_sector-in-loop-p.auto.card))

pub returns : goal.returns
returns c = fresh-end _ _ (omega arith) c.loop-p.invariant.0
