-- In the loop the answer is that for the groups that are left. Assumes nothing.
use Rattle.std.proofs.Common.{not, ap, arith}
use Rattle.apages.proofs.ChangeLaws.{group-part, groups-start, groups-stop, groups-go, groups-end}
use Rattle.session.specs.Fits.{entry_at_most, group_at_most, index_at_most}
use Rattle.session_agree.proofs.index_at_most.Goals as goal

pub loop-p-init : goal.loop-p-init
unfolding index_at_most
loop-p-init c = groups-start _ _ _

pub returns-then-not-entry_at_most : goal.returns-then-not-entry_at_most
unfolding entry_at_most group_at_most
returns-then-not-entry_at_most c =
    let a = c.args in
    let e = rw group-part at c.entry_at_most.ensures in
    groups-stop (group_at_most a.s) a.ix.now _ _ _ (omega arith) e (ap not c.if-not-entry_at_most.true) c.loop-p.invariant

pub loop-p-preserved : goal.loop-p-preserved
unfolding entry_at_most group_at_most
loop-p-preserved c =
    let a = c.args in
    let e = rw group-part at c.entry_at_most.ensures in
    groups-go (group_at_most a.s) a.ix.now _ _ _ (omega arith) e (ap not c.if-not-entry_at_most.false) c.loop-p.invariant

pub returns : goal.returns
returns c = groups-end (group_at_most c.args.s) c.args.ix.now _ _ (omega arith) c.loop-p.invariant
