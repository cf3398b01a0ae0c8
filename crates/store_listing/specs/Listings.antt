-- What list judges and counts before it fills a line, and the table with its first lines filled. Assumes nothing.
use Rattle.std.specs.Prelude.{List, ℕ, zero, suc, length, drop, get_or, set, Some, None, Result, Ok, Err}
use Rattle.sectors.specs.Sectors.{sec}
use Rattle.counts.specs.declared.Geo.{Geo}
use Rattle.counts.specs.declared.View.{View}
use Rattle.counts.specs.Geometry.{geo_of}
use Rattle.counts.specs.Stamps.{table_in, as_is}
use Rattle.directory.specs.Directory.{entries_of}
use Rattle.card.specs.declared.Answer.{Answer}
use Rattle.card.specs.declared.Line.{Line}
use Rattle.card.specs.declared.Refusal.{Refusal}
use Rattle.card.specs.Answers.{number_of}
use Rattle.card.specs.Plan.{ended, refused, done}
use Rattle.card.specs.Files.{files_of, no_line, list_plan}
use Rattle.card.specs.Reading.{files_shown, read_plan}
use Rattle.session.specs.Session.{Session}
use Rattle.session.specs.Views.{present_view}
use Rattle.store.specs.Look.{list_tests}
use Rattle.store_listing.specs.declared.ViewList.{ViewList}

-- what list has judged and counted before it fills a line: its answer, and the view whose files it lists
pub record Listing : Type 0 where
  pub answer : Answer
  pub geo : Geo
  pub view : View

-- the files of a view
unfoldable pub files_by : Geo → View → List ℕ → List Line
files_by g v img = files_of (table_in g v (sec img)) (entries_of g (sec img))

-- the files of the view that a listing names
unfoldable pub files_at : Listing → List ℕ → List Line
files_at l img = files_by l.geo l.view img

-- those that its entries from j on show
unfoldable pub files_from : Listing → List ℕ → ℕ → List Line
files_from l img j = files_of (table_in l.geo l.view (sec img)) (drop j (entries_of l.geo (sec img)))

-- a refusal names no view
unfoldable pub no_listing : ℕ → Listing
no_listing k = record { answer = refused k; geo = record { s = 0; t = 0; d = 0 }; view = record { c = record { 0 = 0 }; t = record { 0 = 0 } } }

-- the view that a call found, with the count of its files, or its refusal
abbrev pub listing_of : Result ViewList Refusal → Listing
listing_of (Ok x) = record { answer = record { number = 0; count = x.count }; geo = x.geo; view = x.view }
listing_of (Err r) = no_listing (number_of r)

-- a view with the count of its files
unfoldable pub view_listing : Geo → View → List ℕ → Listing
view_listing g v img = record { answer = done (length (files_by g v img)); geo = g; view = v }

-- the present view of a session; a closed one has none
unfoldable pub present_listing : Session → List ℕ → Listing
present_listing None work = no_listing 0
present_listing (Some s) work = view_listing s.geo (present_view s) work

-- the last test of both lists, 10
unfoldable pub listing_in : Geo → View → List ℕ → ℕ → Listing
listing_in g v img room = ended (list_plan (files_by g v img) room) no_listing (λ j a. view_listing g v img)

-- by the tests of a session's list
unfoldable pub session_listing : Session → List ℕ → ℕ → Listing
session_listing s work room = ended (list_tests s work room) no_listing (λ j a. present_listing s work)

-- by the tests of a card's list
unfoldable pub card_listing : List ℕ → ℕ → Listing
card_listing card room =
    ended (read_plan card (list_plan (files_shown card) room)) no_listing (λ j a. view_listing (geo_of (sec card)) (as_is (geo_of (sec card))) card)

-- the table with its first n lines filled, one after the other
unfoldable pub filled_to : List Line → ℕ → List Line → List Line
filled_to files zero lines = lines
filled_to files (suc n) lines = set (filled_to files n lines) n (get_or files n no_line)
