-- Entries and their places go side by side; one entry written changes the list at that place alone. Assumes nothing.
use mathlib.Core.Path.{◌≡◌, refl, sym, ap, ◌∙◌}
use mathlib.Core.Logic.{◌≢◌}
use mathlib.Core.List.{List, ◌++◌, []}
use mathlib.Core.Bool.{true}
use Prim.Native.Nat.{ℕ, zero, suc, ◌+◌, ◌*◌, ◌≤◌, ◌<◌}
use native.Mathlib.Omega.{arith}
use lib.ListN.{length, get_or, set}
use lib.Seq.{set-append_left}
use Rattle.words.specs.Lists.{set_part}
use Rattle.words.proofs.PartLaws.{part_length, set_part-length, part_same, part-other}
use Rattle.sectors.specs.Sectors.{Cells, sec}
use Rattle.sectors.proofs.SectorLaws.{sec-length, set_sec-length, sec-same, sec-other}
use Rattle.sectors.proofs.FlatLaws.{sec-in}
use Rattle.counts.specs.declared.Geo.{Geo}
use Rattle.counts.proofs.GeoLaws.{limits}
use Rattle.counts.specs.Geometry.{g_dir, geo_ok}
use Rattle.directory.specs.Directory.{sector_entries, entries_from, entries_of, Spot, spots_from, spot_of, set_entry}

-- ---- an entry written into its sector

pub entries-set : (s b : List ℕ) (r : ℕ) → length s ≡ 512 → r < 4 → length b ≡ 128 → sector_entries (set_part 128 s r b) ≡ set (sector_entries s) r b
unfolding sector_entries
entries-set s b zero l h m =
    rw (part_same 128 s 0 b m (omega arith), part-other 128 s 0 b m 1 (omega arith), part-other 128 s 0 b m 2 (omega arith), part-other 128 s 0 b m 3 (omega arith))
entries-set s b (suc zero) l h m =
    rw (part_same 128 s 1 b m (omega arith), part-other 128 s 1 b m 0 (omega arith), part-other 128 s 1 b m 2 (omega arith), part-other 128 s 1 b m 3 (omega arith))
entries-set s b (suc (suc zero)) l h m =
    rw (part_same 128 s 2 b m (omega arith), part-other 128 s 2 b m 0 (omega arith), part-other 128 s 2 b m 1 (omega arith), part-other 128 s 2 b m 3 (omega arith))
entries-set s b (suc (suc (suc zero))) l h m =
    rw (part_same 128 s 3 b m (omega arith), part-other 128 s 3 b m 0 (omega arith), part-other 128 s 3 b m 1 (omega arith), part-other 128 s 3 b m 2 (omega arith))
entries-set s b (suc (suc (suc (suc r)))) l h m = absurd (omega arith)

pub wide_at : (s : List ℕ) (r : ℕ) (z : List ℕ) → length s ≡ 512 → r < 4 → length (get_or (sector_entries s) r z) ≡ 128
unfolding sector_entries
wide_at s zero z l h = part_length 128 s 0 (omega arith)
wide_at s (suc zero) z l h = part_length 128 s 1 (omega arith)
wide_at s (suc (suc zero)) z l h = part_length 128 s 2 (omega arith)
wide_at s (suc (suc (suc zero))) z l h = part_length 128 s 3 (omega arith)
wide_at s (suc (suc (suc (suc r)))) z l h = absurd (omega arith)

module _ (p : Spot) (e img : List ℕ) (h : 512 * p.sector + 512 ≤ length img) (four : p.slot < 4) (m : length e ≡ 128) where
  sector-wide : length (set_part 128 (sec img p.sector) p.slot e) ≡ 512
  sector-wide = set_part-length 128 (sec img p.sector) p.slot e ∙ sec-length img p.sector h

  pub entry_length : length (set_entry p e img) ≡ length img
  unfolding set_entry
  entry_length = set_sec-length img p.sector _

  pub entry_other : (i : ℕ) → i ≢ p.sector → sec (set_entry p e img) i ≡ sec img i
  unfolding set_entry
  entry_other i o = sec-other img p.sector _ sector-wide i o

  pub entry_here : sector_entries (sec (set_entry p e img) p.sector) ≡ set (sector_entries (sec img p.sector)) p.slot e
  unfolding set_entry
  entry_here =
      ap sector_entries (sec-same img p.sector _ sector-wide h) ∙ entries-set (sec img p.sector) e p.slot (sec-length img p.sector h) four m

-- ---- the places

pub record SpotOk (lo hi : ℕ) (p : Spot) : Type 0 where
  pub low : lo ≤ p.sector
  pub high : p.sector < hi
  pub four : p.slot < 4

pub spots-length : (n i : ℕ) (k : Cells) → length (entries_from i n k) ≡ length (spots_from i n)
unfolding entries_from spots_from sector_entries
spots-length zero i k = refl
spots-length (suc n) i k = ap (λ (x : ℕ). suc (suc (suc (suc x)))) (spots-length n (suc i) k)

pub spot-here : (g : Geo) (k : Cells) (j : ℕ) → j < length (entries_of g k) → j < length (spots_from (g_dir g) g.d)
unfolding entries_of
spot-here g k j h = omega (arith, spots-length g.d (g_dir g) k)

pub spot-ok : (n i j : ℕ) (z : Spot) → j < length (spots_from i n) → SpotOk i (i + n) (get_or (spots_from i n) j z)
unfolding spots_from
spot-ok zero i j z h = absurd (omega arith)
spot-ok (suc n) i zero z h = record { low = omega arith; high = omega arith; four = omega arith }
spot-ok (suc n) i (suc zero) z h = record { low = omega arith; high = omega arith; four = omega arith }
spot-ok (suc n) i (suc (suc zero)) z h = record { low = omega arith; high = omega arith; four = omega arith }
spot-ok (suc n) i (suc (suc (suc zero))) z h = record { low = omega arith; high = omega arith; four = omega arith }
spot-ok (suc n) i (suc (suc (suc (suc j)))) z h =
    let r = spot-ok n (suc i) j z (omega arith) in
    record { low = omega (arith, r.low); high = omega (arith, r.high); four = r.four }

pub spot-entry : (k : Cells) (n i j : ℕ) (z : Spot) (e : List ℕ) → j < length (spots_from i n)
    → get_or (entries_from i n k) j e ≡ get_or (sector_entries (k (get_or (spots_from i n) j z).sector)) (get_or (spots_from i n) j z).slot e
unfolding entries_from spots_from sector_entries
spot-entry k zero i j z e h = absurd (omega arith)
spot-entry k (suc n) i zero z e h = refl
spot-entry k (suc n) i (suc zero) z e h = refl
spot-entry k (suc n) i (suc (suc zero)) z e h = refl
spot-entry k (suc n) i (suc (suc (suc zero))) z e h = refl
spot-entry k (suc n) i (suc (suc (suc (suc j)))) z e h = spot-entry k n (suc i) j z e (omega arith)

-- where entry j lies, and that it is what stands there
pub at-spot : (g : Geo) (k : Cells) (j : ℕ) (e : List ℕ) → j < length (entries_of g k)
    → SpotOk (g_dir g) (g_dir g + g.d) (spot_of g j) × (get_or (entries_of g k) j e ≡ get_or (sector_entries (k (spot_of g j).sector)) (spot_of g j).slot e)
unfolding spot_of entries_of
at-spot g k j e h = let l = spot-here g k j h in (spot-ok g.d (g_dir g) j _ l, spot-entry k g.d (g_dir g) j _ e l)

-- ---- the entries depend on the directory's sectors alone

module _ (g : Geo) (k k' : Cells) (same : (i : ℕ) → g_dir g ≤ i → i < g_dir g + g.d → k' i ≡ k i) where
  range_same : (n i : ℕ) → g_dir g ≤ i → i + n ≤ g_dir g + g.d → entries_from i n k' ≡ entries_from i n k
  unfolding entries_from
  range_same zero i lo hi = refl
  range_same (suc n) i lo hi = rw (same i lo (omega arith), range_same n (suc i) (omega arith) (omega arith))

  pub entries-same : entries_of g k' ≡ entries_of g k
  unfolding entries_of
  entries-same = range_same g.d (g_dir g) (omega arith) (omega arith)

-- ---- one sector's entries changed at a place: the list changes at that index, and nowhere else

module _ (k k' : Cells) (d r : ℕ) (e : List ℕ) (here : sector_entries (k' d) ≡ set (sector_entries (k d)) r e) (lo hi : ℕ)
    (there : (i : ℕ) → lo ≤ i → i < hi → i ≢ d → k' i ≡ k i) where
  same_from : (n i : ℕ) → lo ≤ i → i + n ≤ hi → d < i → entries_from i n k' ≡ entries_from i n k
  unfolding entries_from
  same_from zero i a b h = refl
  same_from (suc n) i a b h = rw (there i a (omega arith) (omega arith), same_from n (suc i) (omega arith) (omega arith) (omega arith))

  near : (n i x : ℕ) → lo ≤ i → i + suc n ≤ hi → i ≡ d → x ≡ r → x < 4
      → sector_entries (k' i) ++ entries_from (suc i) n k' ≡ set (sector_entries (k i) ++ entries_from (suc i) n k) x e
  near n i x u v a b h =
      let q : sector_entries (k' i) ≡ set (sector_entries (k i)) x e = rw (a, b) here in
      rw (q, same_from n (suc i) (omega arith) (omega arith) (omega arith)) (sym (set-append_left (sector_entries (k i)) _ x e (four (k i))))
    where
      four : (s : List ℕ) → x < length (sector_entries s)
      four s = unfold sector_entries in h

  pub dir-set : (n i j : ℕ) (z : Spot) → lo ≤ i → i + n ≤ hi → j < length (spots_from i n) → (get_or (spots_from i n) j z).sector ≡ d
      → (get_or (spots_from i n) j z).slot ≡ r → entries_from i n k' ≡ set (entries_from i n k) j e
  unfolding entries_from spots_from sector_entries
  dir-set zero i j z u v h a b = absurd (omega arith)
  dir-set (suc n) i zero z u v h a b = near n i 0 u v a b (omega arith)
  dir-set (suc n) i (suc zero) z u v h a b = near n i 1 u v a b (omega arith)
  dir-set (suc n) i (suc (suc zero)) z u v h a b = near n i 2 u v a b (omega arith)
  dir-set (suc n) i (suc (suc (suc zero))) z u v h a b = near n i 3 u v a b (omega arith)
  dir-set (suc n) i (suc (suc (suc (suc j)))) z u v h a b =
      let l : j < length (spots_from (suc i) n) = omega arith in
      let q : i ≢ d = omega (arith, (spot-ok n (suc i) j z l).low) in
      rw (there i u (omega arith) q, dir-set n (suc i) j z (omega arith) (omega arith) l a b)

-- every entry of an image of the right length has 128 bytes
pub entry-wide : (g : Geo) (img : List ℕ) → geo_ok g ≡ true → length img ≡ 512 * g.s → (j : ℕ) → j < length (entries_of g (sec img)) → length (get_or (entries_of g (sec img)) j []) ≡ 128
entry-wide g img ok l j h =
    let (S, e) = at-spot g (sec img) j [] h in
    ap length e ∙ wide_at (sec img (spot_of g j).sector) (spot_of g j).slot [] (sec-in img g.s (spot_of g j).sector l (omega (arith, S.high, (limits g ok).s_low, (limits g ok).past, (limits g ok).dir))) S.four
