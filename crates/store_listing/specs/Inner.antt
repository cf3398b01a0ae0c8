-- What the contracts of inner functions cite besides the words of the papers: what such a function asks of its caller, and what it answers. Assumes nothing.
use Rattle.std.specs.Prelude.{List, ℕ, ◌≤◌, ◌<◌}
use Rattle.counts.specs.Inner.{LaidOut}
use Rattle.store_listing.specs.Listings.{Listing}

-- the lines that a listing counts have room, and are those of an image laid out
abbrev pub HasRoom : Listing → List ℕ → ℕ → Type 0
HasRoom l img room = (l.answer.count ≤ room) × (0 < l.answer.count → LaidOut l.geo img)
