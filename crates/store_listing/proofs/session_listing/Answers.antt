-- 4, then the count; the fit that it requires gives the layout. Assumes nothing.
use mathlib.Core.Path.{◌≡◌, refl}
use borrow.Author.Rules.{rules}
use Rattle.card.specs.declared.Refusal.TheVariants.{Closed}
use Rattle.std.specs.Prelude.{Err}
use Rattle.store.proofs.Fitting.{open-fits}
use Rattle.store.proofs.ViewLaws.{fit-laid}
use Rattle.store_listing.proofs.ListingTests.{session-4, session-go}
use Rattle.store_listing.proofs.session_listing.Goals as goal

pub returns-in_err-s : goal.returns-in_err-s
returns-in_err-s c =
    let q : c.from_residual.result ≡ Err Closed = search rules in
    session-4 _ _ c.in_err-s.ensures.ok_part (rw q refl)

pub present_view-requires : goal.present_view-requires
present_view-requires c = let l = fit-laid _ _ (open-fits _ c.in_ok-s.ensures.ok_part c.requires) in search rules

pub invariant_of-image : goal.invariant_of-image
invariant_of-image c = record { laid = fit-laid _ _ (open-fits _ c.in_ok-s.ensures.ok_part c.requires) }

pub returns : goal.returns
returns c = session-go _ _ _ c.in_ok-s.ensures.ok_part (open-fits _ c.in_ok-s.ensures.ok_part c.requires) c.present_view.ensures c.listing_in.ensures
