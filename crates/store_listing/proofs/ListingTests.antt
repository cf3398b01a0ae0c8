-- A listing, test by test: what each test of the code showed gives its equation. Assumes nothing.
use Rattle.std.specs.Prelude.{Some, None}
use mathlib.Core.Path.{◌≡◌, sym, ap, ◌∙◌}
use mathlib.Core.Bool.{Bool, true, false, cond}
use mathlib.Core.List.{List}
use Prim.Native.Nat.{ℕ, ◌≤◌, ◌<◌}
use borrow.Author.Tests.{le-leb, lt-leb}
use lib.Dec.{leb}
use lib.ListN.{length}
use Rattle.sectors.specs.Sectors.{sec}
use Rattle.counts.specs.declared.Geo.{Geo}
use Rattle.counts.specs.declared.View.{View}
use Rattle.counts.specs.Stamps.{table_in}
use Rattle.directory.specs.Directory.{entries_of}
use Rattle.card.specs.declared.Answer.{Answer}
use Rattle.card.specs.declared.Line.{Line}
use Rattle.card.specs.Plan.{guard, ended, refused, done}
use Rattle.card.specs.Files.{files_of, list_end}
use Rattle.session.specs.declared.Opened.{Opened}
use Rattle.session.specs.Session.{Session}
use Rattle.session.specs.Views.{present_view}
use Rattle.session.specs.Fits.{fits}
use Rattle.store.specs.Look.{list_tests, list}
use Rattle.store_listing.specs.Listings.{Listing, files_by, no_listing, listing_in, session_listing}
use Rattle.store_listing.proofs.ListingText.{in-text, session-text}

module _ (g : Geo) (v : View) (img : List ℕ) (room : ℕ) {n : ℕ} (e : n ≡ length (files_of (table_in g v (sec img)) (entries_of g (sec img)))) where
  pub in-10 : {r : Listing} → room < n → r ≡ no_listing 10 → r ≡ listing_in g v img room
  unfolding files_by
  in-10 h f = let z : leb (length (files_of (table_in g v (sec img)) (entries_of g (sec img)))) room ≡ false = rw e at (lt-leb n room h) in rw (in-text g v img room, z) f

  pub in-done : {a : Answer} → n ≤ room → a ≡ record { number = 0; count = n } → record { answer = a; geo = g; view = v } ≡ listing_in g v img room
  unfolding files_by done
  in-done h f = let z : leb (length (files_of (table_in g v (sec img)) (entries_of g (sec img)))) room ≡ true = rw e at (le-leb n room h) in rw (in-text g v img room, z, f, e)

pub session-4 : (work : List ℕ) (room : ℕ) {o : Session} {r : Listing} → o ≡ None → r ≡ no_listing 4 → r ≡ session_listing o work room
unfolding session_listing list_tests ended
session-4 work room e f = f ∙ sym (ap (λ (q : Session). session_listing q work room) e)

-- the public call's own test
pub list-2 : (s : Opened) (work : List ℕ) (lines : List Line) {o : Session} {n : Answer} → o ≡ Some s → fits s work ≡ false → n ≡ refused 2
    → (n ≡ (list o work lines).answer) × (lines ≡ (list o work lines).lines)
unfolding list list_tests list_end guard ended
list-2 s work lines e z f = (rw (e, z) f, rw (e, z))

module _ (s : Opened) (work : List ℕ) (room : ℕ) {o : Session} (e : o ≡ Some s) where
  session-by : (b : Bool) → fits s work ≡ b → session_listing o work room ≡ cond b (listing_in s.geo (present_view s) work room) (no_listing 2)
  session-by b z = ap (λ (q : Session). session_listing q work room) e ∙ session-text s work room ∙ ap (λ (b : Bool). cond b (listing_in s.geo (present_view s) work room) (no_listing 2)) z

  pub session-go : {v : View} {r : Listing} → fits s work ≡ true → v ≡ present_view s → r ≡ listing_in s.geo v work room → r ≡ session_listing o work room
  session-go z y f = f ∙ ap (λ (u : View). listing_in s.geo u work room) y ∙ sym (session-by true z)
