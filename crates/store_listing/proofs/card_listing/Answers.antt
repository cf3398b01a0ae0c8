-- Refused by what every reading call tests; the shape gives the layout. Assumes nothing.
use Rattle.std.proofs.lemmas.Result.{err_from_is_err_and}
use Rattle.card.proofs.SoundTests.{shape-length, shape-laid, shape-limits}
use Rattle.store_listing.proofs.CardListing.{card-refused, card-go}
use Rattle.store_listing.proofs.card_listing.Goals as goal

pub returns-in_err-judged : goal.returns-in_err-judged
returns-in_err-judged c = let p = err_from_is_err_and c.from_residual.result c.from_residual.ensures.1 in rw (p.1, p.2) (card-refused _ _ _ c.in_err-judged.ensures.refused)

pub geo_of-g-requires : goal.geo_of-g-requires
geo_of-g-requires c = shape-length _ c.in_ok-judged.ensures.passed.0

pub as_is-requires : goal.as_is-requires
as_is-requires c = shape-limits _ _ c.geo_of-g.ensures c.in_ok-judged.ensures.passed.0

pub invariant_of-image : goal.invariant_of-image
invariant_of-image c = record { laid = shape-laid _ _ c.geo_of-g.ensures c.in_ok-judged.ensures.passed.0 }

pub returns : goal.returns
returns c = card-go _ _ c.in_ok-judged.ensures.passed.0 c.in_ok-judged.ensures.passed.1 c.geo_of-g.ensures c.as_is.ensures c.listing_in.ensures
