-- "free sectors, sectors of present files and F add up to S": one law of a view that passes; a clear bit is one of the data, in no file. Assumes nothing.
use mathlib.Core.Path.{◌≡◌, sym, ap, ◌∙◌}
use mathlib.Core.Bool.{true}
use mathlib.Core.List.{List, [], ◌∷◌}
use Prim.Native.Nat.{ℕ, ◌+◌, ◌-◌, ◌*◌, ◌≤◌, ◌<◌}
use native.Mathlib.Omega.{arith}
use lib.ListN.{length}
use Rattle.words_sums.specs.Sums.{total, in_run}
use Rattle.words_sums.proofs.SumLaws.{total-add, total-run, total-zero}
use Rattle.sectors.specs.Sectors.{sec, Cells}
use Rattle.sectors.proofs.FlatLaws.{sec-in}
use Rattle.counts.specs.declared.Geo.{Geo}
use Rattle.counts.specs.Geometry.{g_f, g_p, geo_ok, geo_of, count_of, table_of}
use Rattle.counts.proofs.GeoLaws.{Limits, limits}
use Rattle.entries.proofs.PassLaws.{run_room}
use Rattle.directory.specs.Directory.{entries_of}
use Rattle.apages.specs.Bits.{bit_at, clear_bits}
use Rattle.apages.proofs.BitLaws.{bit-lt}
use Rattle.apages.proofs.RunLaws.{clear-total}
use Rattle.apages.specs.Runs.{page_ok, wanted}
use Rattle.apages.specs.Index.{group_of, index_in, shown_page, page_at, page_in}
use Rattle.apages.proofs.MapLaws.{Wide, map-length}
use Rattle.card.proofs.BitmapLaws.{InData, in-data, wanted-in, wanted-out, page-bits}
use Rattle.card.proofs.PieceLaws.{in-run, out-run, count-run}
use Rattle.card.proofs.FileLaws.{Within, none, more, files-within, cover-out}
use Rattle.card.proofs.SoundLaws.{View, view-page, sound-view, shape-inv}
use Rattle.card.specs.declared.Line.{Line}
use Rattle.card.specs.Files.{files_of, cover, sectors_of}
use Rattle.card.specs.Sound.{shape_ok, sound}
use Rattle.card.specs.Make.{fresh_card}
use Rattle.card.specs.Reading.{files_in, files_shown, page_shown}
use Rattle.card.proofs.FreshLaws.{fresh-geo, fresh-shape, fresh-sound, fresh-empty}

-- each sector of the files is counted once for each file that holds it
pub cover-total : {g : Geo} {fs : List Line} → Within g fs → (m : ℕ) → g.s ≤ m → total (cover fs) m ≡ sectors_of fs
unfolding cover sectors_of
cover-total none m h = total-zero m
cover-total {g} (more {f = f} {fs = fs} r w) m h =
    let a : total (in_run f.run.start.0 f.run.sectors) m ≡ f.run.sectors = total-run f.run.start.0 f.run.sectors m ∙ omega (arith, run_room g f.run r) in
    sym (total-add (in_run f.run.start.0 f.run.sectors) (cover fs) (cover (f ∷ fs)) m (λ i l. omega (arith, count-run f.run i))) ∙ omega (arith, cover-total w m h)

module _ (g : Geo) (ok : geo_ok g ≡ true) (fs : List Line) (p : List ℕ) (wide : length p ≡ 512 * g_p g) (within : Within g fs) (page : page_ok g (cover fs) p ≡ true) where
  L : Limits g
  L = limits g ok

  -- the bit of a sector, and how often files hold it
  pub bit-cover : (n : ℕ) → InData g n → bit_at p n ≡ cover fs n
  bit-cover n h = page-bits g (cover fs) p (omega (arith, wide, L.covered)) page n (omega (arith, wide, L.covered, h.1)) ∙ wanted-in g (cover fs) n h

  pub bit-out : (n : ℕ) → n < 4096 * g_p g → ¬ InData g n → bit_at p n ≡ 1
  bit-out n l o = page-bits g (cover fs) p (omega (arith, wide, L.covered)) page n (omega (arith, wide)) ∙ wanted-out g (cover fs) n o

  below : g_f g ≤ g.s
  unfolding g_f
  below = omega (arith, L.s_low, L.past, L.dir)

  -- a sector of the data is clear, or in one file
  each : (n : ℕ) → n < 4096 * g_p g → (1 - bit_at p n) + cover fs n ≡ in_run (g_f g) (g.s - g_f g) n
  each n l = go (in-data g n)
    where
      go : Dec (InData g n) → (1 - bit_at p n) + cover fs n ≡ in_run (g_f g) (g.s - g_f g) n
      go (yes h) = omega (arith, bit-cover n h, bit-lt p n, in-run (g_f g) (g.s - g_f g) n h.0 (omega (arith, h.1, below)))
      go (no o) =
          omega
          (arith, bit-out n l o, cover-out within n o, out-run (g_f g) (g.s - g_f g) n (λ q. o (q.0, omega (arith, q.1, below))))

  pub space : clear_bits p + sectors_of fs + g_f g ≡ g.s
  space =
      let m : ℕ = 4096 * g_p g in
      let a : clear_bits p ≡ total (λ n. 1 - bit_at p n) m = clear-total p ∙ ap (λ (m : ℕ). total (λ n. 1 - bit_at p n) m) (omega (arith, wide)) in
      let b : total (λ n. 1 - bit_at p n) m + total (cover fs) m ≡ total (in_run (g_f g) (g.s - g_f g)) m =
      total-add (λ n. 1 - bit_at p n) (cover fs) (in_run (g_f g) (g.s - g_f g)) m each in
      omega (arith, cover-total within m L.covered, total-run (g_f g) (g.s - g_f g) m, below, L.covered)

-- a clear bit of a view's page is in the data, and no file of the view holds it
pub clear-bit : (g : Geo) (bound : ℕ) (tab : List ℕ) (k : Cells) → geo_ok g ≡ true → View g bound tab k → length (page_in g tab k) ≡ 512 * g_p g → (i : ℕ) → i < 4096 * g_p g → bit_at (page_in g tab k) i ≡ 0
    → InData g i × (cover (files_of tab (entries_of g k)) i ≡ 0)
clear-bit g bound tab k ok w l i h z = go (in-data g i)
  where
    all : bit_at (page_in g tab k) i ≡ wanted g (cover (files_of tab (entries_of g k))) i
    all = page-bits g (cover (files_of tab (entries_of g k))) (page_in g tab k) (omega (arith, (limits g ok).covered)) w.page i (omega arith)

    go : Dec (InData g i) → InData g i × (cover (files_of tab (entries_of g k)) i ≡ 0)
    go (yes q) = (q, sym (wanted-in g _ i q) ∙ sym all ∙ z)
    go (no o) = absurd (omega (arith, all, wanted-out g (cover (files_of tab (entries_of g k))) i o))

-- a view that passes, on an image of the right length
module _ (g : Geo) (bound : ℕ) (tab img : List ℕ) (ok : geo_ok g ≡ true) (sized : length img ≡ 512 * g.s) (U : View g bound tab (sec img)) where
  pub view-wide : Wide g tab (sec img)
  unfolding page_at
  view-wide p h =
      let L : Limits g = limits g ok in
      let r = view-page g bound tab (sec img) U p h in
      sec-in img g.s (shown_page tab (group_of (index_in g (sec img)) p)) sized (omega (arith, r.1, L.dir, L.s_low))

  pub page-wide : length (page_in g tab (sec img)) ≡ 512 * g_p g
  page-wide = map-length g tab (sec img) view-wide

  pub view-space : clear_bits (page_in g tab (sec img)) + sectors_of (files_of tab (entries_of g (sec img))) + g_f g ≡ g.s
  view-space = space g ok (files_of tab (entries_of g (sec img))) (page_in g tab (sec img)) page-wide (files-within g bound tab (entries_of g (sec img)) U.entries) U.page

-- a card that reads: "clear bits shown", sectors of shown files and F
pub card-space : (card : List ℕ) → shape_ok card ≡ true → sound card ≡ true
    → clear_bits (page_shown card) + sectors_of (files_shown card) + g_f (geo_of (sec card)) ≡ (geo_of (sec card)).s
unfolding sound page_shown files_shown files_in
card-space card a b =
    let g : Geo = geo_of (sec card) in
    let (o, l) = shape-inv card a in
    view-space (geo_of (sec card)) (count_of (sec card)) (table_of (geo_of (sec card)) (sec card)) card o l (sound-view (geo_of (sec card)) (sec card) b)

-- on a fresh card all the data is free
pub fresh-free : (g : Geo) → geo_ok g ≡ true → clear_bits (page_shown (fresh_card g)) ≡ g.s - g_f g
unfolding sectors_of
fresh-free g ok =
    let e : geo_of (sec (fresh_card g)) ≡ g = fresh-geo g ok in
    let f : files_shown (fresh_card g) ≡ [] = fresh-empty g ok in
    let q : clear_bits (page_shown (fresh_card g)) + 0 + g_f g ≡ g.s = rw (f, e) at (card-space (fresh_card g) (fresh-shape g ok) (fresh-sound g ok)) in
    omega arith
