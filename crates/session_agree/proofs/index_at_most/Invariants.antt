-- In the loop the answer is that for the groups that are left. Assumes nothing.
use Rattle.std.proofs.Common.{◌≡◌, ◌-◌}
use Rattle.counts.specs.Geometry.{g_p}
use Rattle.apages.specs.Index.{every_group}
use Rattle.session.specs.Fits.{group_at_most, index_at_most}
use Rattle.session_agree.proofs.index_at_most.Given as goal

abbrev pub invariant-loop-p : goal.invariant-loop-p
invariant-loop-p l = index_at_most l.s l.ix ≡ every_group (group_at_most l.s) l.ix l.p (g_p l.s.geo - l.p)
