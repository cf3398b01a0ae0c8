-- The one test, then the inner call. Assumes nothing.
use mathlib.Core.Path.{refl}
use Rattle.store.proofs.Fitting.{fit_of, met-unfit}
use Rattle.store_listing.proofs.ListingTests.{list-2}
use Rattle.store_listing.proofs.list.Goals as goal

pub returns-then-unfit : goal.returns-then-unfit
returns-then-unfit c = let (s, o, z) = met-unfit _ _ c.unfit.ensures c.if-unfit.true in list-2 s _ _ o z refl

pub list_fitting-requires : goal.list_fitting-requires
list_fitting-requires c = fit_of _ _ c.unfit.ensures c.if-unfit.false
