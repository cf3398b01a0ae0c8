-- What the contracts of inner functions cite besides the words of the papers: what such a function asks of its caller, and what it answers. Assumes nothing.
use Rattle.std.specs.Prelude.{◌≡◌, List, ℕ, ◌<◌}
use Rattle.counts.specs.declared.Geo.{Geo}
use Rattle.counts.specs.Geometry.{g_p}
use Rattle.apages.specs.Index.{group_of, index_in, shown_page}
use Rattle.card_tally.specs.declared.Page.{Page}

-- the page of one of the card's pairs that a view shows
pub record IsShown (g : Geo) (tab : List ℕ) (at : ℕ → List ℕ) (q : Page) : Type 0 where
  pub below : q.pair < g_p g
  pub shown : q.at.0 ≡ shown_page tab (group_of (index_in g at) q.pair)
