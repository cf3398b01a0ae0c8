-- Demand 3 beyond the paper, stated: histories that start from any sound card, so that it covers cards from the field; a card just made is one of them. A reader
-- needs History and card/Means. Assumes nothing.
use Rattle.std.specs.Prelude.{◌≡◌, true, List, ◌⊎◌, ℕ, ◌*◌, length}
use Rattle.sectors.specs.Sectors.{sec}
use Rattle.counts.specs.Geometry.{geo_of}
use Rattle.card.specs.Means.{InLimits, Sound}
use Rattle.promises_answers.specs.PlainList.{shown_in}
use Rattle.promises_crash.specs.History.{Left, World, Call, after_cut, after, pending_in, Reads, is_sync}

-- a card that mount and reading take: inside the limits, of 512·S bytes, and sound
pub record SoundCard (card : List ℕ) : Type 0 where
  pub limits : InLimits (geo_of (sec card))
  pub sized : length card ≡ 512 * (geo_of (sec card)).s
  pub is_sound : Sound card

-- "any history of calls and cuts", from a card of any past
pub data Since : World → Type 0 where
  start : (card work : List ℕ) → SoundCard card → Since (after_cut card work)
  then_call : {w : World} → Since w → (c : Call) → Since (after c w)
  then_cut : {w : World} → Since w → (card work : List ℕ) → Left w.pending (length w.card) card → Since (after_cut card work)
  then_cut_in : {w : World} → Since w → (c : Call) (n : ℕ) (card work : List ℕ) → Left (pending_in c n w) (length w.card) card → Since (after_cut card work)

-- demand 3, word for word, of the worlds of such histories
abbrev pub Demand3Field : Type 0
Demand3Field = (w : World) → Since w →
    ((card : List ℕ) → Left w.pending (length w.card) card → Reads card w.last)
    × ((c : Call) (n : ℕ) (card : List ℕ) → Left (pending_in c n w) (length w.card) card
    → Reads card w.last ⊎ ((is_sync c ≡ true) × Reads card (shown_in w.session w.work)))
