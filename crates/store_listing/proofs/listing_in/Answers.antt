-- Its one test. Assumes nothing.
use mathlib.Core.Path.{refl}
use Rattle.store_listing.proofs.ListingTests.{in-10, in-done}
use Rattle.store_listing.proofs.listing_in.Goals as goal

pub returns-then-room-n : goal.returns-then-room-n
returns-then-room-n c = in-10 _ _ _ _ c.file_count-n.ensures c.if-room-n.true refl

pub returns : goal.returns
returns c = in-done _ _ _ _ c.file_count-n.ensures c.if-room-n.false refl
