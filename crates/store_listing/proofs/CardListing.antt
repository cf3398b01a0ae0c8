-- The listing of a card: its tests one by one, that its lines have room, and that what it fills is what reading's list says. Assumes nothing.
use mathlib.Core.Path.{◌≡◌, refl}
use mathlib.Core.Bool.{Bool, true, false, cond}
use mathlib.Core.List.{List}
use Prim.Native.Nat.{ℕ}
use lib.ListN.{length}
use Rattle.sectors.specs.Sectors.{sec}
use Rattle.counts.specs.declared.Geo.{Geo}
use Rattle.counts.specs.declared.View.{View}
use Rattle.counts.specs.Geometry.{geo_of, table_of}
use Rattle.counts.specs.Stamps.{table_in, as_is}
use Rattle.card.specs.declared.Line.{Line}
use Rattle.card.specs.Plan.{Plan, refuse, guard, ended}
use Rattle.card.specs.Files.{list_plan, list_end}
use Rattle.card.specs.Sound.{shape_ok, sound}
use Rattle.card.specs.Reading.{files_in, files_shown, read_plan, read_list}
use Rattle.card.proofs.SoundTests.{shape-laid, as-table}
use Rattle.store_listing.specs.Listings.{Listing, files_by, no_listing, view_listing, listing_in, card_listing}
use Rattle.store_listing.proofs.ListingLaws.{Ready, none-ready, in-ready, Fills, none-fills, in-fills}

pub card-text : (card : List ℕ) (room : ℕ) → card_listing card room
    ≡ cond (shape_ok card) (cond (sound card) (listing_in (geo_of (sec card)) (as_is (geo_of (sec card))) card room) (no_listing 2)) (no_listing 1)
unfolding card_listing read_plan listing_in files_shown files_in files_by guard ended
card-text card room = go (shape_ok card) (sound card) refl
  where
    g : Geo
    g = geo_of (sec card)

    go : (b c : Bool) → shape_ok card ≡ b
        → ended (guard 1 b (guard 2 c (list_plan (files_shown card) room))) no_listing (λ j a. view_listing g (as_is g) card)
        ≡ cond b (cond c (ended (list_plan (files_by g (as_is g) card) room) no_listing (λ j a. view_listing g (as_is g) card)) (no_listing 2)) (no_listing 1)
    go true true e = let t : table_in g (as_is g) (sec card) ≡ table_of g (sec card) = as-table g card (shape-laid card g refl e) refl in rw t
    go true false e = refl
    go false c e = refl

-- refused by what every reading call tests
pub card-refused : (card : List ℕ) (room k : ℕ) → ((p : Plan) → read_plan card p ≡ refuse k) → no_listing k ≡ card_listing card room
unfolding card_listing ended
card-refused card room k e = rw (e (list_plan (files_shown card) room)) refl

module _ (card : List ℕ) (room : ℕ) {r : Listing} where
  pub card-go : {g : Geo} {v : View} → shape_ok card ≡ true → sound card ≡ true → g ≡ geo_of (sec card) → v ≡ as_is g → r ≡ listing_in g v card room → r ≡ card_listing card room
  card-go z y p q f = rw (card-text card room, z, y) (rw (q, p) at f)

pub read-ready : (card : List ℕ) (room : ℕ) → Ready (card_listing card room) card room
read-ready card room = rw (card-text card room) (go (shape_ok card) (sound card) refl)
  where
    go : (b c : Bool) → shape_ok card ≡ b
        → Ready (cond b (cond c (listing_in (geo_of (sec card)) (as_is (geo_of (sec card))) card room) (no_listing 2)) (no_listing 1)) card room
    go true true e = in-ready (geo_of (sec card)) (as_is (geo_of (sec card))) card room (shape-laid card (geo_of (sec card)) refl e)
    go true false e = none-ready 2 card room
    go false c e = none-ready 1 card room

read-fills-by : (card : List ℕ) (lines : List Line) (b c : Bool) → shape_ok card ≡ b
    → Fills (cond b (cond c (listing_in (geo_of (sec card)) (as_is (geo_of (sec card))) card (length lines)) (no_listing 2)) (no_listing 1)) card lines
    (list_end (files_shown card) lines (guard 1 b (guard 2 c (list_plan (files_shown card) (length lines)))))
unfolding guard list_end ended files_shown files_in files_by
read-fills-by card lines true true e =
    let t = as-table (geo_of (sec card)) card (shape-laid card (geo_of (sec card)) refl e) refl in
    rw t at (in-fills (geo_of (sec card)) (as_is (geo_of (sec card))) card lines)
read-fills-by card lines true false e = none-fills 2 card lines
read-fills-by card lines false c e = none-fills 1 card lines

pub read-fills : (card : List ℕ) (lines : List Line) → Fills (card_listing card (length lines)) card lines (read_list card lines)
unfolding read_list read_plan
read-fills card lines = rw (card-text card (length lines)) (read-fills-by card lines (shape_ok card) (sound card) refl)
