-- The loop's invariant: the first i lines are stored, and the files that are left are those from the next entry on. Assumes nothing.
use Rattle.std.proofs.Common.{◌≡◌, drop}
use Rattle.std.specs.Prelude.{Ok}
use Rattle.store_listing.specs.Listings.{listing_of, files_at, files_from, filled_to}
use Rattle.store_listing.proofs.fill_lines.Given as goal

abbrev pub invariant-loop-i : goal.invariant-loop-i
invariant-loop-i l = (l.lines ≡ filled_to (files_at (listing_of (Ok l.l)) l.img) l.i l.initial.lines) × (files_from (listing_of (Ok l.l)) l.img l.from ≡ drop l.i (files_at (listing_of (Ok l.l)) l.img))
