-- By what its calls ensure of both views. Assumes nothing.
use Rattle.std.proofs.Common.{arith}
use Rattle.std.proofs.lemmas.Grind.{common_steps}
use Rattle.session.specs.Views.{present_table}
use Rattle.session.specs.Fits.{views_fit}
use Rattle.session.proofs.FitTests.{cut-as_is}
use Rattle.session_fit.proofs.views_fit.Goals as goal

pub returns-then-view_ok-2 : goal.returns-then-view_ok-2
unfolding views_fit present_table
returns-then-view_ok-2 c = let e = cut-as_is c.args.s c.args.work.now c.requires in grind (arith, common_steps)

pub returns-else-view_ok-2 : goal.returns-else-view_ok-2
unfolding views_fit present_table
returns-else-view_ok-2 c = let e = cut-as_is c.args.s c.args.work.now c.requires in grind (arith, common_steps)
