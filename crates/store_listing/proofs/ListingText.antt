-- A listing, its tests one by one. Assumes nothing.
use Rattle.std.specs.Prelude.{Some}
use mathlib.Core.Path.{◌≡◌, refl}
use mathlib.Core.Bool.{Bool, true, false, cond}
use mathlib.Core.List.{List}
use Prim.Native.Nat.{ℕ}
use lib.Dec.{leb}
use lib.ListN.{length}
use Rattle.counts.specs.declared.Geo.{Geo}
use Rattle.counts.specs.declared.View.{View}
use Rattle.card.specs.Plan.{guard, ended, go_ahead, done}
use Rattle.card.specs.Files.{list_plan}
use Rattle.session.specs.declared.Opened.{Opened}
use Rattle.session.specs.Views.{present_view, present_table, present_files}
use Rattle.session.specs.Fits.{fits}
use Rattle.store.specs.Look.{list_tests}
use Rattle.store_listing.specs.Listings.{files_by, no_listing, view_listing, present_listing, listing_in, session_listing}

pub in-text : (g : Geo) (v : View) (img : List ℕ) (room : ℕ) → listing_in g v img room
    ≡ cond (leb (length (files_by g v img)) room) (record { answer = done (length (files_by g v img)); geo = g; view = v }) (no_listing 10)
unfolding listing_in list_plan view_listing guard ended
in-text g v img room = go (leb (length (files_by g v img)) room)
  where
    go : (b : Bool) → ended (guard 10 b go_ahead) no_listing (λ j a. view_listing g v img)
        ≡ cond b (record { answer = done (length (files_by g v img)); geo = g; view = v }) (no_listing 10)
    go true = refl
    go false = refl

pub session-text : (s : Opened) (work : List ℕ) (room : ℕ) → session_listing (Some s) work room
    ≡ cond (fits s work) (listing_in s.geo (present_view s) work room) (no_listing 2)
unfolding session_listing list_tests present_listing listing_in present_files present_table files_by guard ended
session-text s work room = go (fits s work)
  where
    go : (b : Bool) → ended (guard 2 b (list_plan (files_by s.geo (present_view s) work) room)) no_listing (λ j a. view_listing s.geo (present_view s) work)
        ≡ cond b (ended (list_plan (files_by s.geo (present_view s) work) room) no_listing (λ j a. view_listing s.geo (present_view s) work)) (no_listing 2)
    go true = refl
    go false = refl
