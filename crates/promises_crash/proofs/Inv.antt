-- The invariant of histories, and what every cut of a world that has it reads. Assumes nothing.
use Rattle.std.specs.Prelude.{Some, None}
use mathlib.Core.Path.{◌≡◌, refl, sym}
use mathlib.Core.Bool.{Bool, true, false}
use mathlib.Core.List.{List}
use Prim.Native.Nat.{ℕ}
use lib.ListN.{length}
use Rattle.sectors.specs.Sectors.{sec}
use Rattle.counts.specs.declared.Geo.{Geo}
use Rattle.counts.specs.Geometry.{geo_of}
use Rattle.session.specs.declared.Opened.{Opened}
use Rattle.session.specs.Session.{Session}
use Rattle.promises_answers.specs.PlainList.{Item, shown_by}
use Rattle.promises_crash.specs.History.{Pending, Left, World, after_cut, Reads}
use Rattle.promises_crash.proofs.Play.{top-mem}
use Rattle.promises_crash.proofs.State.{reads-good, calm-reads, AtRest, good-rests, Live, keeps-reads}

-- worn: as closed, and the working image is the card
pub record Worn (g : Geo) (card work : List ℕ) (p : Pending) (m : List Item) : Type 0 where
  pub rest : AtRest g card p m
  pub same : work ≡ card

abbrev pub OpenInv : Bool → Opened → World → Type 0
OpenInv true s w = Worn s.geo w.card w.work w.pending w.last
OpenInv false s w = Live s w.card w.work w.pending w.last

abbrev pub InvOf : Session → World → Type 0
InvOf None w = (g : Geo) × AtRest g w.card w.pending w.last
InvOf (Some s) w = OpenInv s.worn s w

abbrev pub Inv : World → Type 0
Inv w = InvOf w.session w

abbrev pub mk : List ℕ → List ℕ → Session → Pending → List Item → World
mk card work s p m = record { card = card; work = work; session = s; pending = p; last = m }

-- a card that reads is a new start
pub inv-calm : (card work : List ℕ) (m : List Item) → Reads card m → Inv (after_cut card work)
unfolding after_cut
inv-calm card work m r = (
  geo_of (sec card),
  good-rests (geo_of (sec card)) card (shown_by card)
      (reads-good card (shown_by card) (record { limits = r.limits; sized = r.sized; is_sound = r.is_sound; shows = refl; bits = r.bits; once = r.once })),
)

-- what a cut leaves reads as the latest moment
open-reads : (b : Bool) (s : Opened) (w : World) → OpenInv b s w → (card : List ℕ) → Left w.pending (length w.card) card → Reads card w.last
open-reads true s w h card c = calm-reads s.geo w.card w.pending w.last h.rest.calm card (rw h.rest.calm.is.sized at c)
open-reads false s w h card c = rw (sym h.shows) (keeps-reads s h.img₀ w.pending h.base h.geo h.keeps card (rw h.sized at c))

of-reads : (s : Session) (w : World) → InvOf s w → (card : List ℕ) → Left w.pending (length w.card) card → Reads card w.last
of-reads None w h card c = calm-reads h.0 w.card w.pending w.last h.1.calm card (rw h.1.calm.is.sized at c)
of-reads (Some s) w h card c = open-reads s.worn s w h card c

pub inv-reads : (w : World) → Inv w → (card : List ℕ) → Left w.pending (length w.card) card → Reads card w.last
inv-reads w h card c = of-reads w.session w h card c

-- ---- the card itself is what a cut may leave

open-left : (b : Bool) (s : Opened) (w : World) → OpenInv b s w → Left w.pending (length w.card) w.card
open-left true s w h = record { sized = refl; held = λ j l. top-mem (w.pending j) (h.rest.top j) }
open-left false s w h = record { sized = refl; held = λ j l. h.may j }

of_left : (s : Session) (w : World) → InvOf s w → Left w.pending (length w.card) w.card
of_left None w h = record { sized = refl; held = λ j l. top-mem (w.pending j) (h.1.top j) }
of_left (Some s) w h = open-left s.worn s w h

pub inv_left : (w : World) → Inv w → Left w.pending (length w.card) w.card
inv_left w h = of_left w.session w h
