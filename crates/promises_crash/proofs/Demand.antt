-- Demand 3: at every moment of every history a cut leaves a card that reads as it should. Assumes nothing.
use mathlib.Core.Logic.{⊎_elim}
use lib.ListN.{length}
use Rattle.card.proofs.MeansParts.{limits-mean}
use Rattle.promises_crash.specs.History.{Left, World, Reach, fresh, call, cut, cut_in, Reads, Demand3}
use Rattle.promises_crash.proofs.Inv.{Inv, inv-calm, inv-reads, inv_left}
use Rattle.promises_crash.proofs.Run.Steps.{inv-fresh}
use Rattle.promises_crash.proofs.Run.StepAll.{inv-step}
use Rattle.promises_crash.proofs.Within.{inv-within}

-- every world of every history has the invariant
pub inv : {w : World} → Reach w → Inv w
inv (fresh g work ok) = inv-fresh g work ((limits-mean g).1 ok)
inv (call {w = w} r c) = inv-step w (inv r) c
inv (cut {w = w} r card work x) = inv-calm card work _ (inv-reads w (inv r) card x)
inv (cut_in {w = w} r c n card work x) = ⊎_elim (λ q. inv-calm card work _ q) (λ q. inv-calm card work _ q.1) (inv-within w (inv r) c n card x)

pub demand-three : Demand3
demand-three w r = (inv-reads w (inv r), inv-within w (inv r))

-- the promise is not empty: the card as the calls left it is one of the cards that a cut may leave, and it reads
pub card-possible : (w : World) → Reach w → Left w.pending (length w.card) w.card × Reads w.card w.last
card-possible w r = let c = inv_left w (inv r) in (c, inv-reads w (inv r) w.card c)
