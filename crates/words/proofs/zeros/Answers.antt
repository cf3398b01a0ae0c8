-- `words::zeros` meets its contract: what was seen, and what is left. Assumes nothing.
use mathlib.Core.Path.{refl}
use lib.ListN.{get_or}
use Rattle.words.specs.Lists.{is_zero}
use Rattle.words.proofs.EveryLaws.{seen-go, seen_end}
use Rattle.words.proofs.zeros.Goals as goal

pub loop-x-preserved : goal.loop-x-preserved
loop-x-preserved c = let l = c.loop-x in
    let s = c.args.s.now in
    seen-go is_zero s 0 l.x-index l.ok (is_zero (get_or s l.x-index 0)) c.loop-x-test.true refl l.invariant

pub returns : goal.returns
returns c = seen_end is_zero c.args.s.now 0 c.loop-x.x-index c.loop-x.ok c.loop-x-test.false c.loop-x.invariant
