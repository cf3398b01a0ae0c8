-- What make, mount, sync, unmount and land do to what is shown; and a refused call leaves the world as it is. Assumes nothing.
use Rattle.std.specs.Prelude.{◌≡◌, List, [], ◌≢◌, ℕ}
use Rattle.sectors.specs.Sectors.{sec}
use Rattle.counts.specs.declared.Geo.{Geo}
use Rattle.counts.specs.Geometry.{geo_of}
use Rattle.card.specs.Make.{make}
use Rattle.card.specs.Reading.{files_in}
use Rattle.session.specs.Session.{Session}
use Rattle.store.specs.Mount.{mount}
use Rattle.store.specs.Edit.{put_at, remove}
use Rattle.store.specs.Sync.{land, sync, unmount}
use Rattle.promises_answers.specs.PlainList.{items, shown_by, shown_in}
use Rattle.promises_crash.specs.History.{World, make_c, sync_c, unmount_c, put_c, remove_c, land_c, after, Reach}

-- "A fresh card" shows no file
abbrev pub MakeShows : Type 0
MakeShows = (g : Geo) (card : List ℕ) → (make g card).answer.number ≡ 0 → shown_by (make g card).image ≡ []

-- a session shows at its mount what reading the card showed
abbrev pub MountShows : Type 0
MountShows = (card work : List ℕ) → (mount card work).answer.number ≡ 0 → shown_in (mount card work).session (mount card work).work ≡ shown_by card

-- and so does its cut view, which takes the table of the working image as it is
abbrev pub MountCut : Type 0
MountCut = (card work : List ℕ) → (mount card work).answer.number ≡ 0
    → items (mount card work).work (files_in (geo_of (sec card)) (sec (mount card work).work)) ≡ shown_by card

-- a sync changes nothing in what is shown
abbrev pub SyncShows : Type 0
SyncShows = (s : Session) (card work : List ℕ) → (sync s card work).answer.number ≡ 0 → shown_in (sync s card work).session (sync s card work).work ≡ shown_in s work

-- in a history, reading the card after an unmount shows what the session showed
abbrev pub UnmountShows : Type 0
UnmountShows = (w : World) → Reach w → (unmount w.session w.card w.work).answer.number ≡ 0 → shown_by (after unmount_c w).card ≡ shown_in w.session w.work

-- a land changes the card alone
abbrev pub LandShows : Type 0
LandShows = (w : World) (i : ℕ) → ((after (land_c i) w).session ≡ w.session) × ((after (land_c i) w).work ≡ w.work)

-- a refusal changes nothing: the world is as it was. (A mount over an open session is a cut first, refused or not.)
pub record Refused (w : World) : Type 0 where
  pub of_make : (g : Geo) → (make g w.card).answer.number ≢ 0 → after (make_c g) w ≡ w
  pub of_put : (n d : List ℕ) (goal : ℕ) → (put_at w.session w.work n d goal).answer.number ≢ 0 → after (put_c n d goal) w ≡ w
  pub of_remove : (n : List ℕ) → (remove w.session w.work n).answer.number ≢ 0 → after (remove_c n) w ≡ w
  pub of_land : (i : ℕ) → (land w.session w.card w.work i).answer.number ≢ 0 → after (land_c i) w ≡ w
  pub of_sync : (sync w.session w.card w.work).answer.number ≢ 0 → after sync_c w ≡ w
  pub of_unmount : (unmount w.session w.card w.work).answer.number ≢ 0 → after unmount_c w ≡ w
