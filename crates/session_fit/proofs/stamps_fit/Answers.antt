-- The entries, then the index. Assumes nothing.
use Rattle.std.proofs.Common.{arith}
use Rattle.std.proofs.lemmas.Grind.{common_steps}
use Rattle.session.specs.Fits.{stamps_fit}
use Rattle.session.proofs.FitTests.{index-sector}
use Rattle.session_fit.proofs.stamps_fit.Goals as goal

pub returns-then-entries_at_most : goal.returns-then-entries_at_most
unfolding stamps_fit
returns-then-entries_at_most c = let e = index-sector c.args.s c.args.work.now in grind (arith, common_steps)

pub returns-else-entries_at_most : goal.returns-else-entries_at_most
unfolding stamps_fit
returns-else-entries_at_most c = grind (arith, common_steps)
