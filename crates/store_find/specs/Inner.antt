-- What the contracts of inner functions cite besides the words of the papers: what such a function asks of its caller, and what it answers. Assumes nothing.
use Rattle.std.specs.Prelude.{◌≡◌, List, ℕ, ◌<◌, Option, Some, None}
use Rattle.sectors.specs.declared.Sector.{Sector}
use Rattle.sectors.specs.Sectors.{Cells}
use Rattle.counts.specs.declared.Geo.{Geo}
use Rattle.counts.specs.Geometry.{g_p}
use Rattle.apages.specs.Index.{group_of, index_in, shown_page}
use Rattle.store_find.specs.declared.Pages.{Pages}

-- what the search for a run found: the number of its first sector, or nothing
abbrev pub found_of : Option Sector → Option ℕ
found_of (Some a) = Some a.0
found_of None = None

-- the pages of one of the card's pairs that two views show
pub record IsPages (g : Geo) (tp tc : List ℕ) (k : Cells) (x : Pages) : Type 0 where
  pub below : x.pair < g_p g
  pub first : x.a.0 ≡ shown_page tp (group_of (index_in g k) x.pair)
  pub second : x.b.0 ≡ shown_page tc (group_of (index_in g k) x.pair)
