-- Histories from any sound card, proved: demand 3, and an open session fits its working image. Assumes nothing.
use mathlib.Core.Path.{refl}
use mathlib.Core.List.{List}
use mathlib.Core.Logic.{⊎_elim}
use Prim.Native.Nat.{ℕ}
use Rattle.sectors.specs.Sectors.{sec}
use Rattle.counts.specs.Geometry.{geo_of}
use Rattle.card.specs.Sound.{sound}
use Rattle.card.specs.Make.{fresh_card}
use Rattle.card.specs.Reading.{files_shown}
use Rattle.card.proofs.MeansParts.{limits-mean}
use Rattle.card.proofs.MeansProved.{sound-means}
use Rattle.store.specs.Inner.{FitOf}
use Rattle.promises_answers.specs.PlainList.{Item, shown_by}
use Rattle.promises_crash.specs.History.{World, after_cut, Reach, fresh, call, cut, cut_in, Reads, Demand3}
use Rattle.promises_crash.proofs.State.{good-reads}
use Rattle.promises_crash.proofs.Inv.{Inv, inv-calm, inv-reads, inv_left}
use Rattle.promises_crash.proofs.Run.StepAll.{inv-step}
use Rattle.promises_crash.proofs.Within.{inv-within}
use Rattle.promises_crash.proofs.Demand.{card-possible}
use Rattle.promises_crash.proofs.Fit.FitHistory.{cut-closed, step}
use Rattle.promises_crash.specs.Field.{SoundCard, Since, start, then_call, then_cut, then_cut_in, Demand3Field}

-- a sound card reads as what it shows
pub sound-reads : (card : List ℕ) → SoundCard card → Reads card (shown_by card)
sound-reads card k =
    good-reads (geo_of (sec card)) card (shown_by card)
    (record {
      sized = k.sized;
      geo = refl;
      ok = (limits-mean (geo_of (sec card))).1 k.limits;
      good = (unfold sound in (sound-means card k.limits k.sized).1 k.is_sound);
      shows = (unfold shown_by files_shown in refl);
    })

-- ---- demand 3

-- every world of every such history has the invariant
pub inv-since : {w : World} → Since w → Inv w
inv-since (start card work k) = inv-calm card work _ (sound-reads card k)
inv-since (then_call {w = w} r c) = inv-step w (inv-since r) c
inv-since (then_cut {w = w} r card work x) = inv-calm card work _ (inv-reads w (inv-since r) card x)
inv-since (then_cut_in {w = w} r c n card work x) =
    ⊎_elim (λ q. inv-calm card work _ q) (λ q. inv-calm card work _ q.1) (inv-within w (inv-since r) c n card x)

pub demand-three-field : Demand3Field
demand-three-field w r = (inv-reads w (inv-since r), inv-within w (inv-since r))

-- the card as the calls left it reads as the latest moment
pub card-reads : (w : World) → Since w → Reads w.card w.last
card-reads w r = inv-reads w (inv-since r) w.card (inv_left w (inv-since r))

-- ---- a card just made is a sound card, so each history from one is such a history

reads-card : {card : List ℕ} {m : List Item} → Reads card m → SoundCard card
reads-card r = record { limits = r.limits; sized = r.sized; is_sound = r.is_sound }

pub since : {w : World} → Reach w → Since w
since (fresh g work ok) = start (fresh_card g) work (unfold after_cut in reads-card (card-possible (after_cut (fresh_card g) work) (fresh g work ok)).1)
since (call r c) = then_call (since r) c
since (cut r card work x) = then_cut (since r) card work x
since (cut_in r c n card work x) = then_cut_in (since r) c n card work x

-- demand 3 is an instance
pub demand-three-again : Demand3
demand-three-again w r = demand-three-field w (since r)

-- ---- an open session fits its working image

pub fits-since : {w : World} → Since w → FitOf w.session w.work
fits-since (start card work k) = cut-closed card work
fits-since (then_call {w = w} r c) = step c w (fits-since r)
fits-since (then_cut r card work x) = cut-closed card work
fits-since (then_cut_in r c n card work x) = cut-closed card work
