-- A card that reads, by the tests of shape and soundness instead of the clauses. Assumes nothing.
use mathlib.Core.Path.{◌≡◌, refl}
use mathlib.Core.Bool.{true}
use mathlib.Core.List.{List}
use Prim.Native.Nat.{ℕ}
use Rattle.sectors.specs.Sectors.{sec}
use Rattle.counts.specs.Geometry.{geo_of}
use Rattle.card.specs.Sound.{shape_ok, sound}
use Rattle.card.proofs.SoundLaws.{shape-inv, shape-intro}
use Rattle.card.specs.Means.{InLimits, Sound}
use Rattle.card.proofs.MeansParts.{limits-mean}
use Rattle.card.proofs.MeansProved.{sound-means}
use Rattle.promises_answers.specs.PlainList.{Item}
use Rattle.promises_crash.specs.History.{Reads}

module _ {card : List ℕ} {m : List Item} (r : Reads card m) where
  pub reads-shape : shape_ok card ≡ true
  reads-shape = shape-intro (geo_of (sec card)) card refl ((limits-mean (geo_of (sec card))).1 r.limits) r.sized

  pub reads-sound : sound card ≡ true
  reads-sound = (sound-means card r.limits r.sized).1 r.is_sound

-- and back
pub means-sound : (card : List ℕ) → shape_ok card ≡ true → sound card ≡ true → InLimits (geo_of (sec card)) × Sound card
means-sound card p q =
    let (a, b) = shape-inv card p in
    let l = (limits-mean (geo_of (sec card))).0 a in
    (l, (sound-means card l b).0 q)
