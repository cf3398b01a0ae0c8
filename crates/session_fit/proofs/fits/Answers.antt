-- The sizes first, since the rest reads the image by them. Assumes nothing.
use Rattle.std.proofs.Common.{arith}
use Rattle.std.proofs.lemmas.Grind.{common_steps}
use Rattle.session.proofs.FitTests.{sizes-laid}
use Rattle.session_fit.proofs.fits.Goals as goal

pub table_fits-requires : goal.table_fits-requires
table_fits-requires c = sizes-laid c.args.s c.args.work.now (grind (arith, common_steps))

pub views_fit-requires : goal.views_fit-requires
views_fit-requires c = sizes-laid c.args.s c.args.work.now (grind (arith, common_steps))

pub stamps_fit-requires : goal.stamps_fit-requires
stamps_fit-requires c = sizes-laid c.args.s c.args.work.now (grind (arith, common_steps))
