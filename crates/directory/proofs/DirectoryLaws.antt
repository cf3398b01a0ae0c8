-- Where entry j stands in an image, read and written. Assumes nothing.
use mathlib.Core.Path.{◌≡◌, refl, sym, ap, ◌∙◌}
use mathlib.Core.Bool.{Bool}
use mathlib.Core.List.{List, []}
use Prim.Native.Nat.{ℕ, zero, suc, ◌+◌, ◌-◌, ◌*◌, ◌≤◌, ◌<◌}
use native.Mathlib.Omega.{arith}
use lib.ListN.{length, take, drop, get_or}
use Rattle.words.specs.Lists.{part, set_part, splice}
use Rattle.words.proofs.PartLaws.{part-part}
use Rattle.words.proofs.InnerLaws.{splice-part}
use Rattle.sectors.specs.Sectors.{Cells, sec, set_sec}
use Rattle.counts.specs.declared.Geo.{Geo}
use Rattle.counts.specs.Geometry.{g_dir}
use Rattle.directory.specs.Directory.{sector_entries, entries_from, entries_of, Spot, spots_from, spot_of, set_entry}
use Rattle.directory.specs.Inner.{place_of}

-- ---- the list of entries

from-length : (k : Cells) (n i : ℕ) → length (entries_from i n k) ≡ 4 * n
unfolding entries_from sector_entries
from-length k zero i = refl
from-length k (suc n) i = omega (arith, from-length k n (suc i))

sector-part : (img : List ℕ) (i j : ℕ) → j < 4 → part 128 (sec img i) j ≡ part 128 img (4 * i + j)
unfolding sec
sector-part img i j h = part-part 128 4 img i j h

from_at : (img : List ℕ) (n i j : ℕ) → j < 4 * n → get_or (entries_from i n (sec img)) j [] ≡ part 128 img (4 * i + j)
unfolding entries_from sector_entries
from_at img zero i j h = absurd (omega arith)
from_at img (suc n) i zero h = sector-part img i 0 (omega arith)
from_at img (suc n) i (suc zero) h = sector-part img i 1 (omega arith)
from_at img (suc n) i (suc (suc zero)) h = sector-part img i 2 (omega arith)
from_at img (suc n) i (suc (suc (suc zero))) h = sector-part img i 3 (omega arith)
from_at img (suc n) i (suc (suc (suc (suc j)))) h =
    let e : 4 * suc i + j ≡ 4 * i + suc (suc (suc (suc j))) = omega arith in
    from_at img n (suc i) j (omega arith) ∙ ap (λ (m : ℕ). part 128 img m) e

module _ (g : Geo) (img : List ℕ) where
  pub entries-length : length (entries_of g (sec img)) ≡ 4 * g.d
  unfolding entries_of
  entries-length = from-length (sec img) g.d (g_dir g)

  pub entries-lt : (j : ℕ) → j < 4 * g.d → j < length (entries_of g (sec img))
  entries-lt j h = omega (arith, entries-length)

  pub entries-le : (j : ℕ) → 4 * g.d ≤ j → length (entries_of g (sec img)) ≤ j
  entries-le j h = omega (arith, entries-length)

  -- entry j
  pub entry_at : (j : ℕ) → j < 4 * g.d → get_or (entries_of g (sec img)) j [] ≡ take 128 (drop (place_of g j) img)
  unfolding entries_of part
  entry_at j h =
      let e : 128 * (4 * (g_dir g) + j) ≡ place_of g j = omega arith in
      from_at img g.d (g_dir g) j h ∙ ap (λ (m : ℕ). take 128 (drop m img)) e

  -- the bytes that code lends for entry j, whose place is a
  pub entry-part : (j a : ℕ) → a ≡ place_of g j → j < 4 * g.d → take (a + 128 - a) (drop a img) ≡ get_or (entries_of g (sec img)) j []
  entry-part j a q h =
      let z : a + 128 - a ≡ 128 = omega arith in
      rw z (rw q (sym (entry_at j h)))

  -- a test of the bytes at entry j's place is the test of entry j
  pub entry-test : (j a : ℕ) (f : List ℕ → Bool) {r : Bool} → a ≡ place_of g j → j < 4 * g.d → r ≡ f (take (a + 128 - a) (drop a img))
      → r ≡ f (get_or (entries_of g (sec img)) j [])
  entry-test j a f q h e = e ∙ ap f (entry-part j a q h)

-- ---- writing an entry

-- place j of the list of places, from sector i on
record SpotAt (i j : ℕ) (p : Spot) : Type 0 where
  place : 4 * p.sector + p.slot ≡ 4 * i + j
  inside : p.slot < 4

spot-from : (n i j : ℕ) → j < 4 * n → SpotAt i j (get_or (spots_from i n) j (record { sector = 0; slot = 0 }))
unfolding spots_from
spot-from zero i j h = absurd (omega arith)
spot-from (suc n) i zero h = record { place = refl; inside = omega arith }
spot-from (suc n) i (suc zero) h = record { place = refl; inside = omega arith }
spot-from (suc n) i (suc (suc zero)) h = record { place = refl; inside = omega arith }
spot-from (suc n) i (suc (suc (suc zero))) h = record { place = refl; inside = omega arith }
spot-from (suc n) i (suc (suc (suc (suc j)))) h =
    let q = spot-from n (suc i) j (omega arith) in record { place = q.place ∙ omega arith; inside = q.inside }

-- one sector write is one splice at the entry's place
pub set_entry-flat : (g : Geo) (j : ℕ) (e img : List ℕ) → j < 4 * g.d → length e ≡ 128 → set_entry (spot_of g j) e img ≡ splice img (place_of g j) e
unfolding set_entry spot_of set_sec set_part sec part
set_entry-flat g j e img h l =
    let p : Spot = get_or (spots_from (g_dir g) g.d) j (record { sector = 0; slot = 0 }) in
    let q : SpotAt (g_dir g) j p = spot-from g.d (g_dir g) j h in
    let s : p.slot < 4 = q.inside in
    let o : 512 * p.sector + 128 * p.slot ≡ place_of g j = omega (arith, q.place) in
    splice-part 512 (512 * p.sector) (128 * p.slot) img e (omega arith) ∙ ap (λ (k : ℕ). splice img k e) o
