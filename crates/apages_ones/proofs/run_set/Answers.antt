-- The loop's invariant: the answer for the bits that are left. Assumes nothing.
use borrow.Author.Rules.{rules}
use Rattle.apages.proofs.OnesLaws.{all_start, all_go, all-stop, all_end}
use Rattle.apages_ones.proofs.run_set.Goals as goal

pub loop-n-init : goal.loop-n-init
loop-n-init c = (search rules, all_start _ _ _)

pub returns-then-set-eq0 : goal.returns-then-set-eq0
returns-then-set-eq0 c = all-stop _ _ _ c.loop-n.invariant.1 c.loop-n-test.true (c.next_set-set.ensures.2 c.if-set-eq0.true)

pub loop-n-preserved : goal.loop-n-preserved
loop-n-preserved c = (c.next_set-set.ensures.1, all_go _ _ _ c.loop-n.invariant.1 c.next_set-set.result c.next_set-set.ensures.1 c.next_set-set.ensures.0)

pub returns : goal.returns
returns c = all_end _ _ _ c.loop-n.invariant.1 c.loop-n-test.false
